mod Examples
pub mod Decimals
pub mod DigitsMore
pub mod Pairs
pub mod Behind
pub mod Short
pub mod Kept
pub mod Taken
pub mod Equalities
mod Packing
mod WholeRecords
mod NextWords
mod Places
pub mod RowLengths
pub mod Orders
