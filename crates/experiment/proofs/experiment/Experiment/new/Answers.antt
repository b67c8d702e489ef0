use Rattle.experiment.proofs.ApplyFacts.{housed-new}
use Rattle.experiment.proofs.experiment.Experiment.new.Goals as goal

pub returns-clause-housed : goal.returns-clause-housed
returns-clause-housed c = λ budget room. record {
  housed = housed-new budget c.in_ok-net.net c.in_ok-net.ensures.keys;
  room = room;
}
