use Rattle.std.proofs.Common.{◌≡◌, length, take}
use Rattle.pipe_core.specs.Keyed.{keys_of}
use Rattle.pipe_core.proofs.pipe.Pipe.packet_count.Given as goal

abbrev pub invariant-loop-slot : goal.invariant-loop-slot
invariant-loop-slot l = l.held ≡ length (keys_of (take l.slot-index l.slot-items))
