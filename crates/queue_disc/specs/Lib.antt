pub mod Queues
pub mod Judged
