mod Later
mod Earlier
pub mod ChangesWalk
mod Growth
mod ControlRoot
mod ComponentFacts
mod Ends
mod LossRate
mod Prefixes
mod Sums
mod PacketsKept
mod PipeKeeping
mod Conserved
mod OneByOne
mod Told
mod Sublists
mod InstanceOrder
mod PipeOrder
mod FoundPipes
mod PassingOrder
mod Numbers
mod Single
pub mod AllFacts
mod Holding
mod Ahead
pub mod CodelParts
mod Cuts
mod Renamed
mod Disciplines
mod FirstBy
pub mod CallerLemmas
pub mod PipeParts
mod DueParts
mod SourceDues
mod Near
mod Below
mod RenoFacts
mod CodelFacts
