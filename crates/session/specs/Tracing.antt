-- Experiments that run traced (our choice).
use Rattle.std.specs.Prelude.{Bool, true, false, List, [], map}
use Rattle.emu_model.specs.declared.commands.Spec.{Spec}
use Rattle.emu_model.specs.declared.commands.Timed.{Timed}
use Rattle.control.specs.declared.scenario.Experiment.{Experiment}
use Rattle.control.specs.Scenario.{begun}
use Rattle.control.specs.Traced.{traced, traced_command}

-- an experiment of a scenario as it runs: traced, if tracing was on when it began
abbrev pub run_as : Bool → Experiment → Experiment
run_as true e = traced e
run_as false e = e

abbrev pub run_all_as : Bool → List Experiment → List Experiment
run_all_as true es = map traced es
run_all_as false es = es

-- the spec and a command of an experiment as it runs
abbrev pub spec_as : Bool → Spec → Spec
spec_as on spec = (run_as on (begun [] spec)).spec

abbrev pub command_as : Bool → Timed → Timed
command_as true c = traced_command c
command_as false c = c
