-- For crates above: how a line parts into words.
pub use Rattle.control_words.proofs.Split.{skips, word}
pub use Rattle.control_words.proofs.Pairs.{key_is, said_is, value_is}
