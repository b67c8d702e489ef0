-- The earliest of a due and other dues.
use Rattle.std.specs.Prelude.{◌≡◌, ℕ, ◌+◌, ◌*◌, ◌≤◌, ◌++◌, option_and_then, option_map, option_to_list, slice_get, List}
use Rattle.std.specs.List.{best_of}
use Rattle.emu_model.specs.declared.packets.Packet.{Packet}
use Rattle.emu_model.specs.declared.sources.Due.{Due}
use Rattle.emu_model.specs.declared.sources.Class.TheVariants.{Exit, Finish}
use Rattle.emu_model.specs.Delay.{first_exit}
use Rattle.emu_model.specs.Dues.{due, is_before}
use Rattle.emu_model.specs.Events.{served_in}
use Rattle.pipe_core.specs.Keyed.{KeyedPipe, seen_pipe}
use Rattle.pipe_table.specs.Table.{IsExitDue, IsFinishDue, IsPiped}

-- the earliest, `now`, of a due `first` and other dues, which may depend on the packets that the keys refer to
pub record Reaches (ps : List KeyedPipe) (dues : (ℕ → Packet) → List Due) (first now : Due) : Type 0 where
  pub least : (f : ℕ → Packet) → now ≡ best_of is_before first (dues f)
  pub moment : now.moment ≤ first.moment
  pub finishing : IsFinishDue first ps → IsFinishDue now ps
  pub leaving : IsExitDue first ps → IsExitDue now ps
  pub piped : IsPiped first → IsPiped now

-- the dues of one instance of a pipe
abbrev pub instance_dues : (ℕ → Packet) → KeyedPipe → ℕ → List Due
instance_dues f pipe index =
    option_to_list (option_map (due Exit (pipe.number * 256 + index))
    (option_and_then (λ i. first_exit i.line.in_flight) (slice_get (seen_pipe f pipe).instances index)))
    ++ option_to_list (option_map (due Finish (pipe.number * 256 + index))
    (option_map (λ s. s.period.finish) (served_in index (seen_pipe f pipe))))
