use Rattle.std.proofs.Common.{ℕ, ◌<◌, List, length, sym, ap, arith}
use Rattle.pipe_core.specs.declared.slot.Slot.{Slot}
use Rattle.pipe_core.proofs.PipeFacts.{keys_of-nil, keys-more}
use Rattle.pipe_core.proofs.pipe.Pipe.packet_count.Goals as goal

pub loop-slot-init : goal.loop-slot-init
loop-slot-init c = ap length (sym keys_of-nil)

pub loop-slot-preserved : goal.loop-slot-preserved
loop-slot-preserved c =
    let slots : List Slot = c.deref-slot-items.result.now in
    let i : ℕ = c.loop-slot.slot-index in
    let x : Slot = c.slot-item.result in
    let within : i < length slots = omega arith in
    let more = keys-more slots i x within c.slot-item.is in
    omega (arith, c.loop-slot.invariant, c.in_ok-packet_count.ensures, c.in_ok-held.ensures, more)
