pub mod Tenants
pub mod Places
pub mod Kept
pub mod Steps
pub mod Runs
