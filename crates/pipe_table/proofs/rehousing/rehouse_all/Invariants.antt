use Rattle.std.proofs.Common.{◌≡◌, ◌≢◌, ℕ, ◌+◌, ◌≤◌, length, take}
use Rattle.pipe_table.specs.Table.{pipe_keys, IsTable}
use Rattle.pipe_table.proofs.Moving.{AreMoved}
use Rattle.pipe_table.proofs.rehousing.rehouse_all.Given as goal

abbrev pub invariant-loop-i : goal.invariant-loop-i
invariant-loop-i g l =
    let p = g.S.Shelf.pocket l.initial.from l.owner in
    let q = g.S.Shelf.pocket l.from l.owner in
    let r = g.T.Shelf.pocket l.initial.to l.other in
    let s = g.T.Shelf.pocket l.to l.other in
    record {
      moved : AreMoved p q r s l.initial.pipes l.pipes l.i;
      table : (seed low : ℕ) → IsTable seed low l.initial.pipes → IsTable seed low l.pipes;
      room : g.T.Shelf.room l.initial.to l.other ≤ g.T.Shelf.room l.to l.other + length (pipe_keys (take l.i l.initial.pipes));
      others_from : (o : ℕ) → o ≢ l.owner → g.S.Shelf.pocket l.from o ≡ g.S.Shelf.pocket l.initial.from o;
      others_to : (o : ℕ) → o ≢ l.other → g.T.Shelf.pocket l.to o ≡ g.T.Shelf.pocket l.initial.to o;
    }
