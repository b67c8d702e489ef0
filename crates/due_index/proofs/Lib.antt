mod DueOrder
mod LeastDues
mod Runs
mod Trees
pub mod CallerLemmas
