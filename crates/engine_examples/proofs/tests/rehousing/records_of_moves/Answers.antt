use Rattle.std.proofs.Common.{sym, ap, ◌∙◌, subst, arith}
use Rattle.packet_store.specs.Pocket.{Pocket, empty_pocket}
use Rattle.experiment.specs.Kept.{IsHousedIn}
use Rattle.engine_examples.proofs.tests.rehousing.records_of_moves.Goals as goal

pub plays-played-requires-clause-housed : goal.plays-played-requires-clause-housed
plays-played-requires-clause-housed c =
    subst (λ (p : Pocket). IsHousedIn p c.in-Ok.experiment) (sym c.new-own.ensures.own)
    (c.in-Ok.ensures.housed c.in_ok-packets.packets (omega arith))

pub plays-played-requires-clause-empty : goal.plays-played-requires-clause-empty
plays-played-requires-clause-empty c =
    c.in-Ok-admit.ensures.empty ∙ ap (λ (p : Pocket). empty_pocket p.budget) (sym c.new-own.ensures.own)
