pub mod Text
pub mod Words
pub mod Numbers
pub mod Addresses
pub mod Phrases
pub mod Options
pub mod Grammar
pub mod OptionsAreRead
