mod Splits
mod Sums
mod TableFacts
mod NetFacts
mod NumberOrder
mod At
mod DueFacts
mod LineFacts
mod Moving
mod Indexes
mod Reaching
mod PlaceFacts
pub mod CallerLemmas
mod LogFacts
mod Routed
