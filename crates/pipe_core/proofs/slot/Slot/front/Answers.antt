use Rattle.std.proofs.Common.{sym}
use Rattle.pipe_core.proofs.Leavings.{exit-found, front-is}
use Rattle.pipe_core.proofs.slot.Slot.front.Goals as goal

pub unreachable_unchecked-unreachable-requires : goal.unreachable_unchecked-unreachable-requires
unreachable_unchecked-unreachable-requires g c =
    exit-found (g.S.Shelf.pocket c.args.shelf.now c.args.owner) c.args.self.now.instance c.in_ok-key.key c.requires
    c.in_ok-key.ensures (sym c.in_default.ensures)

pub returns : goal.returns
returns g c =
    front-is (g.S.Shelf.pocket c.args.shelf.now c.args.owner) c.args.self.now.instance c.in_ok-key.key c.in-Some.packet
    c.in_ok-key.ensures c.in-Some.ensures
