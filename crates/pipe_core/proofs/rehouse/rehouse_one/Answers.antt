use Rattle.std.proofs.Common.{[], sym}
use Rattle.pipe_core.proofs.KeyMoves.{named_first}
use Rattle.pipe_core.proofs.Rehousings.{Rehouses-one}
use Rattle.pipe_core.proofs.rehouse.rehouse_one.Goals as goal

pub unreachable-requires : goal.unreachable-requires
unreachable-requires g c =
    named_first (g.S.Shelf.pocket c.args.from.now c.args.owner) c.args.key [] c.requires.named (sym c.in_default.ensures.value)

pub returns-clause-moved : goal.returns-clause-moved
returns-clause-moved g c =
    Rehouses-one (g.S.Shelf.pocket c.args.from.now c.args.owner) (g.S.Shelf.pocket c.take.new.self c.args.owner)
    (g.T.Shelf.pocket c.args.to.now c.args.other) (g.T.Shelf.pocket c.put.new.self c.args.other)
    c.args.key c.in-Ok.there c.in-Some.packet c.requires.named c.in-Some.ensures.value c.in-Some.ensures.some
    c.in-Ok.ensures.vacant c.in-Ok.ensures.ok
