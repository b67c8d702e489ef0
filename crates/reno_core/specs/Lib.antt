pub mod Kept
pub mod RenoLaws
pub mod Sending
pub mod Sound
pub mod States
