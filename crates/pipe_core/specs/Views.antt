-- The dependence of a pipe's view on the pipe's keys.
use Rattle.std.specs.Prelude.{◌≡◌, ℕ, ◌<◌, map}
use Rattle.emu_model.specs.declared.packets.Packet.{Packet}
use Rattle.emu_model.specs.Pipes.{pipe_packets}
use Rattle.pipe_core.specs.Uses.{uses}
use Rattle.pipe_core.specs.Keyed.{KeyedPipe, seen_pipe, keys_of}

-- two maps from keys to packets that agree on the keys of a pipe give it the same view
abbrev pub ViewsAgree : Type 0
ViewsAgree =
    (f g : ℕ → Packet) (pipe : KeyedPipe) → ((k : ℕ) → 0 < uses k (keys_of pipe.slots) → g k ≡ f k) →
    seen_pipe g pipe ≡ seen_pipe f pipe

-- the packets in the view of a pipe are those of its keys, in order
abbrev pub PacketsAreNamed : Type 0
PacketsAreNamed =
    (f : ℕ → Packet) (pipe : KeyedPipe) → pipe_packets (seen_pipe f pipe) ≡ map f (keys_of pipe.slots)
