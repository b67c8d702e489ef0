-- For crates above: keys that are put, taken and moved, and what an instance is, whatever its keys name.
pub use Rattle.pipe_core.proofs.KeyMoves.{AreNamed-after, AreNamed-kept, AreNamed-part, Keeps-part, Keeps-put, Keeps-taken, Takes-first, at_other, at_same, found-le, found-some, one_at-other}
pub use Rattle.pipe_core.proofs.PipeFacts.{finish-seen, first_exit-seen, ids-seen, keys_of-nil}
pub use Rattle.pipe_core.proofs.Rehousings.{AreNamed-front, AreNamed-given, Gives-put, Rehouses-none, Rehouses-then}
pub use Rattle.pipe_core.proofs.MaskFacts.{keeps-same}
pub use Rattle.pipe_core.proofs.UseCounts.{one_at-same, total-append, total-cons, total-nil}
