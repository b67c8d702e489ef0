pub mod SoundnessKept
pub mod Receiving
pub mod Histories
