mod Rings
mod Slots
mod SlotChanges
mod RowFacts
mod BodyFacts
mod KeptFacts
mod TurnFacts
mod TurnsNow
mod FirstFacts
mod ManyTurns
pub mod CallerLemmas
mod RunFacts
mod SeatFacts
mod RestartFacts
mod PostFacts
