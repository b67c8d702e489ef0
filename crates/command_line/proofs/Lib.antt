pub mod MadeFacts
pub mod WordFacts
pub mod TalkFacts
