pub mod Plans
pub mod Serving
pub mod Joins
pub mod Gathers
pub mod Desks
