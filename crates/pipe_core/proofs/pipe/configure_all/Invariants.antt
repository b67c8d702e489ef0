use Rattle.std.proofs.Common.{◌≡◌}
use Rattle.pipe_core.specs.Steps.{configured_slot}
use Rattle.pipe_core.proofs.PipeFacts.{done}
use Rattle.pipe_core.proofs.pipe.configure_all.Given as goal

abbrev pub invariant-loop-slot : goal.invariant-loop-slot
invariant-loop-slot l = l.slots ≡ done (configured_slot l.old l.new) l.initial.slots l.slot-index
