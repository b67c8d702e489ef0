pub mod Entries
pub mod Grammar
pub mod LinesAreRead
pub mod LinesSayOne
pub mod Ranges
pub mod Shape
pub mod PacketLine
