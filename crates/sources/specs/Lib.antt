pub mod Kept
pub mod Sends
pub mod Numbers
pub mod Leaves
pub mod Tables
pub mod Standing
