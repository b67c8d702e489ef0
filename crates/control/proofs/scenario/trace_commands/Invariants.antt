use Rattle.std.proofs.Common.{◌≡◌}
use Rattle.control.specs.Traced.{traced_command}
use Rattle.control.proofs.Tracing.{done}
use Rattle.control.proofs.scenario.trace_commands.Given as goal

abbrev pub invariant-loop-command : goal.invariant-loop-command
invariant-loop-command l = l.commands ≡ done traced_command l.initial.commands l.command-index
