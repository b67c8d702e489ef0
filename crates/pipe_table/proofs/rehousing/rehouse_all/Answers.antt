use Rattle.std.proofs.Common.{take, refl, ap, ◌∙◌, arith}
use Rattle.pipe_core.specs.Keyed.{KeyedPipe}
use Rattle.pipe_table.specs.Table.{pipe_keys}
use Rattle.pipe_table.proofs.Moving.{as-many, none-moved, named-next, count-next, keys-next, moved-next, table-next}
use Rattle.pipe_table.proofs.rehousing.rehouse_all.Goals as goal

pub loop-i-init : goal.loop-i-init
loop-i-init g c = record {
  moved = none-moved (g.S.Shelf.pocket c.args.from.now c.args.owner) (g.T.Shelf.pocket c.args.to.now c.args.other) c.args.pipes.now;
  table = λ seed low t. t;
  room = omega arith;
  others_from = λ o d. refl;
  others_to = λ o d. refl;
}

pub rehouse-requires-clause-named : goal.rehouse-requires-clause-named
rehouse-requires-clause-named g c =
    named-next (g.S.Shelf.pocket c.args.from.now c.args.owner) (g.S.Shelf.pocket c.loop-i.from c.args.owner)
    (g.T.Shelf.pocket c.args.to.now c.args.other) (g.T.Shelf.pocket c.loop-i.to c.args.other)
    c.args.pipes.now c.loop-i.pipes c.loop-i.i (omega arith) c.loop-i.invariant.moved c.requires.named _ c.index-pipes-i.result refl

pub rehouse-requires-clause-budget : goal.rehouse-requires-clause-budget
rehouse-requires-clause-budget g c =
    omega (
      arith,
      c.requires.budget,
      c.loop-i.invariant.moved.moved.gives.count,
      c.loop-i.invariant.moved.moved.gives.budget,
      as-many (g.S.Shelf.pocket c.args.from.now c.args.owner) (g.S.Shelf.pocket c.loop-i.from c.args.owner)
          (g.T.Shelf.pocket c.args.to.now c.args.other) (g.T.Shelf.pocket c.loop-i.to c.args.other)
          (pipe_keys (take c.loop-i.i c.args.pipes.now)) (pipe_keys (take c.loop-i.i c.loop-i.pipes)) c.loop-i.invariant.moved.moved,
      count-next (g.S.Shelf.pocket c.args.from.now c.args.owner) (g.S.Shelf.pocket c.loop-i.from c.args.owner)
          (g.T.Shelf.pocket c.args.to.now c.args.other) (g.T.Shelf.pocket c.loop-i.to c.args.other)
          c.args.pipes.now c.loop-i.pipes c.loop-i.i (omega arith) c.loop-i.invariant.moved c.requires.named _ c.index-pipes-i.result refl,
    )

pub rehouse-requires-clause-room : goal.rehouse-requires-clause-room
rehouse-requires-clause-room g c =
    omega (
      arith,
      c.requires.room,
      c.loop-i.invariant.room,
      count-next (g.S.Shelf.pocket c.args.from.now c.args.owner) (g.S.Shelf.pocket c.loop-i.from c.args.owner)
          (g.T.Shelf.pocket c.args.to.now c.args.other) (g.T.Shelf.pocket c.loop-i.to c.args.other)
          c.args.pipes.now c.loop-i.pipes c.loop-i.i (omega arith) c.loop-i.invariant.moved c.requires.named _ c.index-pipes-i.result refl,
    )

pub loop-i-preserved : goal.loop-i-preserved
loop-i-preserved g c =
    let p = g.S.Shelf.pocket c.args.from.now c.args.owner in
    let q = g.S.Shelf.pocket c.loop-i.from c.args.owner in
    let r = g.T.Shelf.pocket c.args.to.now c.args.other in
    let s = g.T.Shelf.pocket c.loop-i.to c.args.other in
    let m = c.loop-i.invariant.moved in
    let same = c.rehouse.ensures.same in
    record {
      moved =
          moved-next p q r s c.args.pipes.now c.loop-i.pipes c.loop-i.i (omega arith) m c.requires.named _ c.index-pipes-i.result refl c.keys_say_all.ensures.agree
          (g.S.Shelf.pocket c.rehouse.new.from c.args.owner) (g.T.Shelf.pocket c.rehouse.new.to c.args.other) c.rehouse.new.self c.rehouse.ensures.moved c.rehouse.ensures.shown;
      table = λ seed low t.
          table-next p q r s c.args.pipes.now c.loop-i.pipes c.loop-i.i (omega arith) m c.requires.named _ c.index-pipes-i.result refl
          seed low c.rehouse.new.self (ap (λ (x : KeyedPipe). x.seed) same) (ap (λ (x : KeyedPipe). x.number) same) (c.loop-i.invariant.table seed low t);
      room = omega (
        arith,
        c.rehouse.ensures.room,
        c.loop-i.invariant.room,
        keys-next p q r s c.args.pipes.now c.loop-i.pipes c.loop-i.i (omega arith) m c.requires.named _ c.index-pipes-i.result refl,
      );
      others_from = λ o d. c.rehouse.ensures.others_from o d ∙ c.loop-i.invariant.others_from o d;
      others_to = λ o d. c.rehouse.ensures.others_to o d ∙ c.loop-i.invariant.others_to o d;
    }
