-- The earliest due of each instance of a pipe, and an index of these dues.
use Rattle.std.specs.Prelude.{◌≡◌, ℕ, ◌+◌, ◌*◌, Option, option_map, List, map}
use Rattle.emu_model.specs.declared.packets.Packet.{Packet}
use Rattle.emu_model.specs.declared.sources.Due.{Due}
use Rattle.emu_model.specs.declared.sources.Class.TheVariants.{Exit, Finish}
use Rattle.emu_model.specs.Delay.{first_exit}
use Rattle.emu_model.specs.Dues.{due, pipe_dues}
use Rattle.due_index.specs.Least.{least_of, lesser}
use Rattle.due_index.specs.Places.{Places}
use Rattle.pipe_core.specs.declared.slot.Slot.{Slot}
use Rattle.pipe_core.specs.Keyed.{KeyedPipe, seen_pipe}

-- the number of an instance among the instances of all pipes
abbrev pub instance_number : Slot → ℕ
instance_number s = s.instance.draws.pipe * 256 + s.instance.draws.instance

-- the due of an instance: its next exit or its finish, whichever is first
abbrev pub slot_due : Slot → Option Due
slot_due s =
    lesser (option_map (due Exit (instance_number s)) (first_exit s.instance.delay_line.line.in_flight))
    (option_map (due Finish (instance_number s))
    (option_map (λ b. b.period.finish) s.instance.service.busy))

-- the index has the dues of these instances
abbrev pub AreLeaves : List Slot → Places → Type 0
AreLeaves slots x = x.leaves ≡ map slot_due slots

-- the earliest due of a pipe
abbrev pub pipe_due : (ℕ → Packet) → KeyedPipe → Option Due
pipe_due f p = least_of (pipe_dues (seen_pipe f p))
