use Rattle.std.proofs.Common.{◌≡◌, ℕ, take, is_some}
use Rattle.due_index.specs.Table.{place_in}
use Rattle.explain.specs.Shared.{is_serving}
use Rattle.explain.proofs.shared.serving_pipes.Given as goal

abbrev pub invariant-loop-timed : goal.invariant-loop-timed
invariant-loop-timed l = (n : ℕ) → is_some (place_in l.table n) ≡ is_serving (take l.timed-index l.commands) n
