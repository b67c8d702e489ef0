pub mod Kept
pub mod Changes
pub mod Frames
pub mod FlowCache
pub mod Ready
pub mod Due
