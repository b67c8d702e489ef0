pub mod Table
pub mod Reach
pub mod Leaves
pub mod Places
pub mod Log
