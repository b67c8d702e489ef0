pub mod Server
pub mod Served
pub mod Lane
pub mod Flight
pub mod LinkLaws
