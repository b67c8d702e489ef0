mod Beginnings
pub mod Custodies
pub mod Accounts
pub mod Postings
pub mod Seatings
pub mod Moves
