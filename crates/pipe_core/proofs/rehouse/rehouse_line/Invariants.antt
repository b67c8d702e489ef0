use Rattle.std.proofs.Common.{◌≡◌, ◌≢◌, ℕ, ◌+◌, ◌≤◌, map, length}
use Rattle.pipe_core.specs.Blanks.{blank_line}
use Rattle.pipe_core.proofs.Halves.{IsHalf}
use Rattle.pipe_core.proofs.rehouse.rehouse_line.Given as goal

abbrev pub invariant-loop-place : goal.invariant-loop-place
invariant-loop-place g l = record {
  half : IsHalf (g.S.Shelf.pocket l.initial.from l.owner) (g.S.Shelf.pocket l.from l.owner)
      (g.T.Shelf.pocket l.initial.to l.other) (g.T.Shelf.pocket l.to l.other)
      (map (λ x. x.item) l.initial.line.line.in_flight) (map (λ x. x.item) l.line.line.in_flight) l.place;
  blank : blank_line l.line.line ≡ blank_line l.initial.line.line;
  spare : l.line.spare ≡ l.initial.line.spare;
  end : l.place-end ≡ length (map (λ x. x.item) l.initial.line.line.in_flight);
  room : g.T.Shelf.room l.initial.to l.other ≤ g.T.Shelf.room l.to l.other + l.place;
  others_from : (o : ℕ) → o ≢ l.owner → g.S.Shelf.pocket l.from o ≡ g.S.Shelf.pocket l.initial.from o;
  others_to : (o : ℕ) → o ≢ l.other → g.T.Shelf.pocket l.to o ≡ g.T.Shelf.pocket l.initial.to o;
}
