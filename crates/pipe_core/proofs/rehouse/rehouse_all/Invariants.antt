use Rattle.std.proofs.Common.{◌≡◌, ◌≢◌, ℕ, ◌+◌, ◌≤◌, length, take}
use Rattle.pipe_core.specs.Keyed.{keys_of}
use Rattle.pipe_core.proofs.SlotMoves.{AreHalf}
use Rattle.pipe_core.proofs.rehouse.rehouse_all.Given as goal

abbrev pub invariant-loop-slot : goal.invariant-loop-slot
invariant-loop-slot g l = record {
  half : AreHalf (g.S.Shelf.pocket l.initial.from l.owner) (g.S.Shelf.pocket l.from l.owner)
      (g.T.Shelf.pocket l.initial.to l.other) (g.T.Shelf.pocket l.to l.other) l.initial.slots l.slots l.slot-index;
  room : g.T.Shelf.room l.initial.to l.other ≤ g.T.Shelf.room l.to l.other + length (keys_of (take l.slot-index l.initial.slots));
  others_from : (o : ℕ) → o ≢ l.owner → g.S.Shelf.pocket l.from o ≡ g.S.Shelf.pocket l.initial.from o;
  others_to : (o : ℕ) → o ≢ l.other → g.T.Shelf.pocket l.to o ≡ g.T.Shelf.pocket l.initial.to o;
}
