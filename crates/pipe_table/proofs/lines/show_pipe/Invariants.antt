use Rattle.std.proofs.Common.{◌≡◌, ℕ, ◌+◌, ◌≤◌, ◌++◌, map, take}
use Rattle.emu_model.specs.declared.packets.Packet.{Packet}
use Rattle.emu_model.specs.Commands.{instance_lines}
use Rattle.pipe_core.specs.Keyed.{seen_slot}
use Rattle.pipe_table.proofs.lines.show_pipe.Given as goal

abbrev pub invariant-loop-index : goal.invariant-loop-index
invariant-loop-index l =
    ((f : ℕ → Packet) → l.log.records ≡ l.initial.log.records ++ instance_lines l.fn.pipe.number 0 (take l.index (map (seen_slot f) l.fn.pipe.slots)))
    × (l.initial.log.spare ≤ l.log.spare + l.index)
