mod Split
mod Parts
mod FoundPlaces
pub mod CallerLemmas
mod Phrases
mod Pairs
mod PhraseKinds
mod Settings
