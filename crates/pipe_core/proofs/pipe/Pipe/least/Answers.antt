use Rattle.std.proofs.Common.{◌∙◌, ap}
use Rattle.pipe_core.specs.Keyed.{KeyedPipe}
use Rattle.pipe_core.specs.Leaves.{pipe_due}
use Rattle.pipe_core.proofs.DueLeaves.{pipe_least}
use Rattle.pipe_core.proofs.pipe.Pipe.least.Goals as goal

pub returns-clause-due : goal.returns-clause-due
returns-clause-due c = λ f.
    let s = c.self.inside in
    let old : KeyedPipe =
    record {
      seed = s.seed;
      number = s.number;
      config = s.config;
      slots = s.slots.items;
      spare =
          0;
    } in
    c.least.ensures ∙ pipe_least f old s.dues c.self.invariant.0.slots_are c.self.invariant.1
    ∙ ap (pipe_due f) c.self.view_is
