pub mod Roots
pub mod Counted
pub mod Judging
pub mod Cuts
pub mod Later
