pub mod Status
pub mod Tasks
pub mod Words
