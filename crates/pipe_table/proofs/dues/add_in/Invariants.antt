use Rattle.std.proofs.Common.{◌≡◌, ℕ, ◌*◌, ◌+◌, ◌≤◌, ◌++◌, map, take, vec_len, vec_capacity}
use Rattle.emu_model.specs.declared.packets.Packet.{Packet}
use Rattle.emu_model.specs.Dues.{instances_dues}
use Rattle.pipe_core.specs.Keyed.{seen_slot}
use Rattle.pipe_table.proofs.dues.add_in.Given as goal

abbrev pub invariant-loop-index : goal.invariant-loop-index
invariant-loop-index l = record {
  items : (f : ℕ → Packet) → l.dues.items ≡ l.initial.dues.items ++ instances_dues (l.fn.pipe.number * 256) (take l.index (map (seen_slot f) l.fn.pipe.slots));
  length : vec_len l.dues ≤ vec_len l.initial.dues + 2 * l.index;
  capacity : vec_capacity l.dues ≡ vec_capacity l.initial.dues;
}
