mod StepFacts
mod ApplyFacts
mod StepsKeep
mod AloneFacts
mod PassFacts
mod TouchFacts
mod DueTimes
mod WaitLaws
mod Going
mod Settling
pub mod CallerLemmas
pub mod Rooms
mod RowLengths
