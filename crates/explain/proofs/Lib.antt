mod Accounting
pub mod Behind
pub mod FrontWords
pub mod FurtherFaults
pub mod Numbers
mod Rates
pub mod Rows
mod Sharing
mod States
