pub mod Answering
pub mod Hearing
pub mod Values
