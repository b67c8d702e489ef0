use Rattle.std.proofs.Common.{◌≡◌, ℕ, ◌+◌, ◌-◌, length}
use Rattle.std.specs.Prelude.{slice_index_or}
use Rattle.session.proofs.marks.Marks.mark.Given as goal

abbrev pub invariant-loop-self : goal.invariant-loop-self
invariant-loop-self l = (n : ℕ) → slice_index_or l.self-inside.bytes.items n 0 ≡ slice_index_or l.initial.self-inside.bytes.items n 0

abbrev pub decreases-loop-self : goal.decreases-loop-self
decreases-loop-self l = l.place + 1 - length l.self-inside.bytes.items
