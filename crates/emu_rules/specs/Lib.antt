pub mod Sound
pub mod Errors
pub mod Walk
pub mod RuleCache
