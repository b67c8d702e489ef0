use Rattle.std.proofs.Common.{◌≡◌, ◌≢◌, ℕ, ◌+◌, length, vec_len, vec_capacity}
use Rattle.std.specs.Vec.Iter.{into_iter_items, into_iter_len}
use Rattle.pipe_core.specs.Moves.{Taking}
use Rattle.pipe_core.specs.Keyed.{keys_of}
use Rattle.pipe_core.proofs.takes.take_all.Given as goal

abbrev pub invariant-loop-slot : goal.invariant-loop-slot
invariant-loop-slot g l =
    (Taking (g.S.Shelf.pocket l.initial.shelf l.owner) (g.S.Shelf.pocket l.shelf l.owner) (keys_of l.fn.slots.items)
    (keys_of (into_iter_items l.slot-iterator)) l.initial.gone.items l.gone.items)
    × (vec_len l.gone + length (keys_of (into_iter_items l.slot-iterator)) ≡ vec_len l.initial.gone + length (keys_of l.fn.slots.items))
    × (vec_capacity l.gone ≡ vec_capacity l.initial.gone)
    × ((o : ℕ) → o ≢ l.owner → g.S.Shelf.pocket l.shelf o ≡ g.S.Shelf.pocket l.initial.shelf o)
    × (length (into_iter_items l.slot-iterator) ≡ into_iter_len l.slot-iterator)
