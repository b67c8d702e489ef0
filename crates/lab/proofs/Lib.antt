pub mod Concludings
pub mod Desking
pub mod Gatherings
pub mod Ownings
pub mod Servings
pub mod Settlings
pub mod ReportTexts
pub mod Stopping
