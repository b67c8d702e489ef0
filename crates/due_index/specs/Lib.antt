pub mod Least
pub mod Numbers
pub mod Places
pub mod Table
pub mod Tree
