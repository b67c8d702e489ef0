pub mod Words
pub mod Alike
pub mod Lines
pub mod Rows
pub mod Room
pub mod Archive
pub mod Orders
