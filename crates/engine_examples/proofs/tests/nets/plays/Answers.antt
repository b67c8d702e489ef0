use Rattle.engine_examples.proofs.Standing.{housed_new}
use Rattle.engine_examples.proofs.tests.nets.plays.Goals as goal

pub goes_through-is_through-requires-clause-housed :
    goal.goes_through-is_through-requires-clause-housed
goes_through-is_through-requires-clause-housed c = housed_new _ _ _ c.new-shelf.ensures.own c.in_ok-net.ensures.keys
