use Rattle.engine_examples.proofs.Standing.{housed_new}
use Rattle.engine_examples.proofs.tests.nets.steps_are_spent.Goals as goal

pub obeys-requires-clause-housed : goal.obeys-requires-clause-housed
obeys-requires-clause-housed g c = housed_new _ _ _ c.new-shelf.ensures.own c.in-Some.ensures.keys
