use Rattle.std.proofs.Common.{sym, subst}
use Rattle.packet_store.specs.Own.{own_pocket}
use Rattle.packet_store.specs.Pocket.{Pocket}
use Rattle.network.specs.Kept.{IsHoused}
use Rattle.engine_examples.proofs.tests.nets.happens.Goals as goal

pub returns-in_default-clause-housed : goal.returns-in_default-clause-housed
returns-in_default-clause-housed c =
    subst (λ (p : Pocket). IsHoused p c.event.new.self) (sym c.in_default.ensures.frame.pocket)
    (c.still_is_housed.ensures (own_pocket c.args.shelf.now) c.args.net.now c.event.new.self c.requires.stands.housed c.in_default.ensures.frame.refused)
