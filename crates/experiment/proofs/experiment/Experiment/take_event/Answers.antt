use Rattle.std.specs.Prelude.{◌-◌, vec_len, vec_capacity}
use Rattle.experiment.specs.Kept.{KeptExperiment}
use Rattle.experiment.proofs.StepsKeep.{sound-halted}
use Rattle.experiment.proofs.experiment.Experiment.take_event.Goals as goal

pub invariant_of-self : goal.invariant_of-self
invariant_of-self g c =
    let s = c.self.inside in
    let e : KeptExperiment = record {
      spec = s.spec;
      net = s.net;
      next = s.next;
      consumed = s.consumed.items;
      taken = s.taken;
      clock = s.clock;
      steps = s.steps;
      ending = s.ending;
      noted = s.noted.items;
      spare = vec_capacity s.consumed - vec_len s.consumed;
    } in
    sound-halted e s.latest s.held c.event.new.self (g.S.Shelf.pocket c.args.shelf.now c.args.owner) c.self.invariant c.in_default.ensures.frame.refused
