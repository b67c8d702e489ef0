use Rattle.world.proofs.LawFacts.{agree_on_names}
use Rattle.world.proofs.worlds_law.two_worlds.Goals as goal

pub returns : goal.returns
returns g c =
    rw (← c.one.view_is) (rw (← c.other.view_is) (agree_on_names c.records_grow.ensures c.later_commands_wait.ensures _ _ c.one.invariant c.other.invariant))
