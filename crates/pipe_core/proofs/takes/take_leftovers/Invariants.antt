use Rattle.std.proofs.Common.{◌≡◌, ◌≢◌, ℕ, ◌+◌, length, vec_len, vec_capacity}
use Rattle.pipe_core.specs.Moves.{Taking}
use Rattle.pipe_core.proofs.takes.take_leftovers.Given as goal

abbrev pub invariant-loop-key : goal.invariant-loop-key
invariant-loop-key g l =
    (Taking (g.S.Shelf.pocket l.initial.shelf l.owner) (g.S.Shelf.pocket l.shelf l.owner) l.initial.leftovers l.leftovers
    l.initial.gone.items l.gone.items)
    × (vec_len l.gone + length l.leftovers ≡ vec_len l.initial.gone + length l.initial.leftovers)
    × (vec_capacity l.gone ≡ vec_capacity l.initial.gone)
    × ((o : ℕ) → o ≢ l.owner → g.S.Shelf.pocket l.shelf o ≡ g.S.Shelf.pocket l.initial.shelf o)

abbrev pub decreases-loop-key : goal.decreases-loop-key
decreases-loop-key g l = length l.leftovers
