use Rattle.std.proofs.Common.{◌≡◌, ℕ, ◌*◌, ◌+◌, ◌≤◌, ◌++◌, length, take, drop, vec_len, vec_capacity}
use Rattle.std.specs.Prelude.{flat_map}
use Rattle.std.specs.List.{sum_by}
use Rattle.emu_model.specs.declared.packets.Packet.{Packet}
use Rattle.emu_model.specs.Dues.{pipe_dues}
use Rattle.pipe_core.specs.Keyed.{KeyedPipe}
use Rattle.pipe_table.specs.Table.{seen_pipes}
use Rattle.pipe_table.proofs.table.PipeTable.add_dues.Given as goal

abbrev pub invariant-loop-pipe : goal.invariant-loop-pipe
invariant-loop-pipe l = record {
  items : (f : ℕ → Packet) → l.dues.items ≡ l.initial.dues.items ++ flat_map pipe_dues (seen_pipes f (take l.pipe-index l.fn.self.pipes));
  room : vec_len l.dues + 2 * sum_by (λ (p : KeyedPipe). length p.slots) (drop l.pipe-index l.fn.self.pipes) ≤ vec_capacity l.dues;
}
