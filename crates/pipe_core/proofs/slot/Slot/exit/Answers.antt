use Rattle.std.proofs.Common.{sym}
use Rattle.pipe_core.proofs.Leavings.{exit-found, exit-is}
use Rattle.pipe_core.proofs.slot.Slot.exit.Goals as goal

pub unreachable_unchecked-unreachable-requires : goal.unreachable_unchecked-unreachable-requires
unreachable_unchecked-unreachable-requires g c =
    exit-found (g.S.Shelf.pocket c.args.shelf.now c.args.owner) c.args.self.now.instance c.in_ok-key.key c.requires
    c.in_ok-key.ensures.item (sym c.in_default.ensures.value)

pub returns-clause-left : goal.returns-clause-left
returns-clause-left g c =
    exit-is (g.S.Shelf.pocket c.args.shelf.now c.args.owner) (g.S.Shelf.pocket c.take.new.self c.args.owner) c.args.self.now.id
    c.args.self.now.instance c.exit.new.self c.in_ok-key.key c.exit.new.self.delay_line.spare c.in-Some.packet
    c.requires c.in_ok-key.ensures.item c.in-Some.ensures.value c.in-Some.ensures.some c.in_ok-key.ensures.rest
