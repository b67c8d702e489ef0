pub mod Kept
pub mod Moves
pub mod Dues
pub mod Waits
pub mod Sessions
pub mod Written
pub mod Rooms
