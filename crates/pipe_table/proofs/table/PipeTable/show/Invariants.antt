use Rattle.std.proofs.Common.{◌≡◌, ℕ, ◌+◌, ◌≤◌, ◌++◌, take}
use Rattle.std.specs.Prelude.{flat_map}
use Rattle.emu_model.specs.declared.packets.Packet.{Packet}
use Rattle.emu_model.specs.Commands.{pipe_lines}
use Rattle.pipe_table.specs.Table.{seen_pipes}
use Rattle.pipe_table.proofs.LineFacts.{lines_of}
use Rattle.pipe_table.proofs.table.PipeTable.show.Given as goal

abbrev pub invariant-loop-pipe : goal.invariant-loop-pipe
invariant-loop-pipe l =
    ((f : ℕ → Packet) → l.log.records ≡ l.initial.log.records ++ flat_map pipe_lines (seen_pipes f (take l.pipe-index l.fn.self.pipes)))
    × (l.initial.log.spare ≤ l.log.spare + lines_of (take l.pipe-index l.fn.self.pipes))
