-- The experiments of a scenario with all packets traced (our choice).
use Rattle.std.specs.Prelude.{true, map}
use Rattle.emu_model.specs.declared.commands.Command.{Command}
use Rattle.emu_model.specs.declared.commands.Command.TheVariants.{Trace}
use Rattle.emu_model.specs.declared.commands.Timed.{Timed}
use Rattle.control.specs.declared.scenario.Experiment.{Experiment}

-- `trace 0` becomes `trace 1`
abbrev pub trace_on : Command → Command
trace_on (Trace b) = Trace true
trace_on c = c

abbrev pub traced_command : Timed → Timed
traced_command t = record t { command = trace_on t.command }

-- the experiment with tracing on from its first event, and never off; the numbers of its commands stay
abbrev pub traced : Experiment → Experiment
traced e = record e {
  spec = record e.spec { traced = true };
  commands = map traced_command e.commands;
}
