-- For crates above: pipes that moved have as many keys, and show what they showed; places.
pub use Rattle.pipe_table.proofs.Moving.{as-many, name-kept, shown-left}
pub use Rattle.pipe_table.proofs.Splits.{position-none}
pub use Rattle.pipe_table.proofs.At.{leaving-flies, not-finishing, not-leaving}
pub use Rattle.pipe_table.proofs.PlaceFacts.{finishing-inside, inside-within, kept-grown, kept-shown, leaving-inside, route-inside, stands-within}
