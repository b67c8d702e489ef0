mod Quotients
pub mod LinePlaces
