use Rattle.std.proofs.Common.{◌≡◌, ◌≢◌, ℕ, ◌+◌, map, drop, vec_len, vec_capacity}
use Rattle.pipe_core.specs.Moves.{Taking}
use Rattle.pipe_core.proofs.takes.take_each.Given as goal

abbrev pub invariant-loop-waiting : goal.invariant-loop-waiting
invariant-loop-waiting g l =
    (Taking (g.S.Shelf.pocket l.initial.shelf l.owner) (g.S.Shelf.pocket l.shelf l.owner) (map (λ w. w.item) l.dropped)
    (map (λ w. w.item) (drop l.waiting-index l.dropped)) l.initial.drops.items l.drops.items)
    × (vec_len l.drops ≡ vec_len l.initial.drops + l.waiting-index)
    × (vec_capacity l.drops ≡ vec_capacity l.initial.drops)
    × ((o : ℕ) → o ≢ l.owner → g.S.Shelf.pocket l.shelf o ≡ g.S.Shelf.pocket l.initial.shelf o)
