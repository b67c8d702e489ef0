use Rattle.std.proofs.Common.{◌≡◌, ℕ, take, is_some}
use Rattle.due_index.specs.Table.{place_in}
use Rattle.explain.specs.Survey.{is_configured}
use Rattle.explain.proofs.survey.configured_pipes.Given as goal

abbrev pub invariant-loop-timed : goal.invariant-loop-timed
invariant-loop-timed l = (n : ℕ) → is_some (place_in l.table n) ≡ is_configured (take l.timed-index l.commands) n
