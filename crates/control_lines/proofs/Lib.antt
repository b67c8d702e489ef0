pub mod Reading
pub mod LineLaw
pub mod LineEntries
pub mod PacketWords
pub mod PacketLine
pub mod PacketParts
