use Rattle.std.proofs.Common.{◌≡◌, ◌≤◌, ◌++◌, length, take, drop, sym, ap, ◌∙◌, subst, arith}
use Rattle.std.proofs.lemmas.List.{take_at}
use Rattle.pipe_core.specs.Moves.{packet_at}
use Rattle.pipe_table.specs.Table.{seen_pipes, IsTable}
use Rattle.pipe_table.proofs.Indexes.{indexed-shown}
use Rattle.pipe_table.proofs.PlaceFacts.{led-shown, kept-shown}
use Rattle.pipe_table.proofs.table.PipeTable.rehouse.Goals as goal

pub invariant_of-self : goal.invariant_of-self
invariant_of-self g c =
    let s = c.self.inside in
    let ps = s.pipes.items in
    let new = c.rehouse_all.new.pipes in
    let f = packet_at (g.S.Shelf.pocket c.args.from.now c.args.owner).find in
    let h = packet_at (g.T.Shelf.pocket c.rehouse_all.new.to c.args.other).find in
    let long : length new ≡ s.pipes.len =
    omega (
      arith,
      c.rehouse_all.ensures.long,
      ap (λ l. length l) c.as_mut_slice.ensures.value,
      s.pipes.ok.0,
    ) in
    let whole : take s.pipes.len (new ++ drop (length new) ps) ≡ new =
    take_at new (drop (length new) ps) s.pipes.len long in
    let table : IsTable s.seed 0 new =
    c.rehouse_all.ensures.table s.seed 0
    (subst (IsTable s.seed 0) (sym c.as_mut_slice.ensures.value) c.self.invariant.0.0) in
    let few : length new ≤ 64 = omega (arith, c.self.invariant.0.1, s.pipes.ok.0, long) in
    let shown : seen_pipes h (take s.pipes.len (new ++ drop (length new) ps)) ≡ seen_pipes f ps =
    ap (seen_pipes h) whole ∙ c.rehouse_all.ensures.shown
    ∙ ap (seen_pipes f) c.as_mut_slice.ensures.value in (
      subst (λ qs. IsTable s.seed 0 qs × (length qs ≤ 64)) (sym whole) (table, few),
      indexed-shown f h ps (take s.pipes.len (new ++ drop (length new) ps)) s.dues shown
          c.self.invariant.1,
      led-shown f h ps (take s.pipes.len (new ++ drop (length new) ps)) s.places shown c.self.invariant.2,
    )

pub returns-clause-places : goal.returns-clause-places
returns-clause-places g c =
    let s = c.self.inside in
    let ps = s.pipes.items in
    let new = c.rehouse_all.new.pipes in
    let f = packet_at (g.S.Shelf.pocket c.args.from.now c.args.owner).find in
    let h = packet_at (g.T.Shelf.pocket c.rehouse_all.new.to c.args.other).find in
    let long : length new ≡ s.pipes.len =
    omega (
      arith,
      c.rehouse_all.ensures.long,
      ap (λ l. length l) c.as_mut_slice.ensures.value,
      s.pipes.ok.0,
    ) in
    let whole : take s.pipes.len (new ++ drop (length new) ps) ≡ new =
    take_at new (drop (length new) ps) s.pipes.len long in
    let shown : seen_pipes h (take s.pipes.len (new ++ drop (length new) ps)) ≡ seen_pipes f ps =
    ap (seen_pipes h) whole ∙ c.rehouse_all.ensures.shown
    ∙ ap (seen_pipes f) c.as_mut_slice.ensures.value in
    rw (← c.self.view_is) (kept-shown f h ps (take s.pipes.len (new ++ drop (length new) ps)) shown)
