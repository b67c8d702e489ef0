-- A dequeue does to keys what it does to the packets that they name.
use Rattle.std.proofs.Common.{◌≡◌, ℕ, List, map}
use Rattle.emu_model.specs.declared.packets.Packet.{Packet}
use Rattle.emu_model.specs.declared.pipes.Discipline.{Discipline}
use Rattle.emu_model.specs.DropTail.{Queued, bytes_of}
use Rattle.emu_model.specs.Codel.{CodelState, Dequeued}
use Rattle.emu_model.specs.Pipes.{dequeue}
use Rattle.emu_model.proofs.CallerLemmas.{bytes-renamed, renamed_dequeue, dequeue-renamed}
use Rattle.pipe_core.specs.KeyedInstance.{seen_waiting}

abbrev pub seen_dequeued : (ℕ → Packet) → Dequeued ℕ → Dequeued Packet
seen_dequeued f d = renamed_dequeue f d

pub bytes-seen : (f : ℕ → Packet) (ws : List (Queued ℕ)) → bytes_of (map (seen_waiting f) ws) ≡ bytes_of ws
bytes-seen f ws = bytes-renamed f ws

pub dequeue-seen : (f : ℕ → Packet) (d : Discipline) (now : ℕ) (c : CodelState) (ws : List (Queued ℕ)) →
    dequeue d now c (map (seen_waiting f) ws) ≡ seen_dequeued f (dequeue d now c ws)
dequeue-seen f d now c ws = dequeue-renamed f d now c ws
