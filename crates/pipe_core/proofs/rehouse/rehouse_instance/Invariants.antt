use Rattle.std.proofs.Common.{◌≡◌, ◌≢◌, ℕ, ◌+◌, ◌≤◌, length}
use Rattle.pipe_core.specs.Blanks.{blank as blanked}
use Rattle.pipe_core.specs.KeyedInstance.{keys_in}
use Rattle.pipe_core.proofs.Halves.{IsHalf}
use Rattle.pipe_core.proofs.rehouse.rehouse_instance.Given as goal

abbrev pub invariant-loop-place : goal.invariant-loop-place
invariant-loop-place g l = record {
  half : IsHalf (g.S.Shelf.pocket l.initial.from l.owner) (g.S.Shelf.pocket l.from l.owner)
      (g.T.Shelf.pocket l.initial.to l.other) (g.T.Shelf.pocket l.to l.other)
      (keys_in l.initial.instance) (keys_in l.instance) l.place;
  blank : blanked l.instance ≡ blanked l.initial.instance;
  end : l.place-end ≡ length (keys_in l.initial.instance);
  room : g.T.Shelf.room l.initial.to l.other ≤ g.T.Shelf.room l.to l.other + l.place;
  others_from : (o : ℕ) → o ≢ l.owner → g.S.Shelf.pocket l.from o ≡ g.S.Shelf.pocket l.initial.from o;
  others_to : (o : ℕ) → o ≢ l.other → g.T.Shelf.pocket l.to o ≡ g.T.Shelf.pocket l.initial.to o;
}
