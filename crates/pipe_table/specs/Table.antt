-- The pipes of an experiment, whose packets are on a shelf, and their views.
use Rattle.std.specs.Prelude.{◌≡◌, ℕ, ◌+◌, ◌/◌, ◌%◌, ◌<◌, ◌≤◌, ◌==◌, Bool, nat_lt, Option, Some, None, option_map, option_and_then, List, [], ◌∷◌, ◌++◌, map, find, slice_get}
use Rattle.emu_model.specs.declared.packets.Packet.{Packet}
use Rattle.emu_model.specs.declared.sources.Due.{Due}
use Rattle.emu_model.specs.declared.sources.Class.TheVariants.{Exit, Finish}
use Rattle.emu_model.specs.declared.records.DropCause.TheVariants.{Deleted}
use Rattle.emu_model.specs.Pipes.{PipeState, Drop}
use Rattle.emu_model.specs.Delay.{first_exit}
use Rattle.emu_model.specs.Events.{served_in}
use Rattle.emu_model.specs.Net.{Net}
use Rattle.emu_model.specs.declared.records.Refusal.{Refusal}
use Rattle.pipe_table.specs.declared.table.ConfigureError.{ConfigureError}
use Rattle.pipe_table.specs.declared.table.ConfigureError.TheVariants.{Refused, NoMemory}
use Rattle.packet_store.specs.Pocket.{Pocket}
use Rattle.pipe_core.specs.Moves.{packet_at}
use Rattle.pipe_core.specs.Keyed.{KeyedPipe, seen_pipe, keys_of}
use Rattle.pipe_core.specs.Steps.{HasRoomAt}

-- the experiment's seed, and its pipes by number
pub record Table : Type 0 where
  pub seed : ℕ
  pub pipes : List KeyedPipe

-- the views of pipes, where f maps each key to its packet
abbrev pub seen_pipes : (ℕ → Packet) → List KeyedPipe → List PipeState
seen_pipes f ps = map (seen_pipe f) ps

-- the net with the views of these pipes, over an owner's packets
abbrev pub with_pipes : Pocket → Table → Net → Net
with_pipes p t n = record n { pipes = seen_pipes (packet_at p.find) t.pipes }

-- the keys in all pipes, pipe by pipe
unfoldable pub pipe_keys : List KeyedPipe → List ℕ
pipe_keys [] = []
pipe_keys (p ∷ ps) = keys_of p.slots ++ pipe_keys ps

abbrev pub has_number : ℕ → KeyedPipe → Bool
has_number k p = p.number == k

abbrev pub pipe_of : ℕ → List KeyedPipe → Option KeyedPipe
pipe_of k ps = find (has_number k) ps

-- the pipe has a number greater than k
abbrev pub is_above : ℕ → KeyedPipe → Bool
is_above k p = nat_lt k p.number

-- a packet can arrive at pipe k without an allocation, if the shelf has room for it
abbrev pub HasRoomIn : ℕ → Packet → List KeyedPipe → Type 0
HasRoomIn k packet ps = (p : KeyedPipe) → pipe_of k ps ≡ Some p → HasRoomAt packet p

-- only spare capacity has grown
pub record HasGrown (old new : List KeyedPipe) : Type 0 where
  pub shown : (f : ℕ → Packet) → seen_pipes f new ≡ seen_pipes f old
  pub keys : pipe_keys new ≡ pipe_keys old
  pub ready : (k : ℕ) (packet : Packet) → HasRoomIn k packet old → HasRoomIn k packet new

-- all pipes have this seed, and their numbers rise from at least `low`
unfoldable pub IsTable : ℕ → ℕ → List KeyedPipe → Type 0
IsTable seed low [] = Unit {0}
IsTable seed low (p ∷ ps) = (p.seed ≡ seed) × (low ≤ p.number) × IsTable seed (p.number + 1) ps

-- the drops of packets whose pipe was deleted
abbrev pub drops_by_deletion : Option (List Packet) → List Drop
drops_by_deletion None = []
drops_by_deletion (Some ps) = map (λ p. record { packet = p; cause = Deleted }) ps

-- the packet in service in instance i of pipe k is due to finish at this time
abbrev pub IsFinishing : ℕ → ℕ → ℕ → List KeyedPipe → Type 0
IsFinishing k i moment ps = (f : ℕ → Packet) →
    option_and_then (λ p. option_map (λ s. s.period.finish) (served_in i (seen_pipe f p))) (pipe_of k ps) ≡ Some moment

-- a due that, if it is a finish, is the finish of an instance
abbrev pub IsFinishDue : Due → List KeyedPipe → Type 0
IsFinishDue d ps = d.source.class ≡ Finish → IsFinishing (d.source.number / 256) (d.source.number % 256) d.moment ps

-- the first packet in flight in instance i of pipe k is due to leave at this time
abbrev pub IsLeaving : ℕ → ℕ → ℕ → List KeyedPipe → Type 0
IsLeaving k i moment ps = (f : ℕ → Packet) →
    option_and_then (λ p. option_and_then (λ j. first_exit j.line.in_flight) (slice_get (seen_pipe f p).instances i)) (pipe_of k ps) ≡ Some moment

-- a due that, if it is an exit from a pipe, is the exit of an instance; the link of `allow` has number 0
abbrev pub IsExitDue : Due → List KeyedPipe → Type 0
IsExitDue d ps =
    d.source.class ≡ Exit → 0 < d.source.number → IsLeaving (d.source.number / 256) (d.source.number % 256) d.moment ps

abbrev pub IsPipeNumber : ℕ → Type 0
IsPipeNumber k = (1 ≤ k) × (k ≤ 65535)

-- a due that, if it is an exit from a pipe or a finish, has a pipe's number; the link of `allow` has number 0
abbrev pub IsPiped : Due → Type 0
IsPiped d =
    (d.source.class ≡ Exit → 0 < d.source.number → IsPipeNumber (d.source.number / 256))
    × (d.source.class ≡ Finish → IsPipeNumber (d.source.number / 256))

-- the refusal of a pipe's configuration by the definitions, or None if memory ran out
abbrev pub refusal_in : ConfigureError → Option Refusal
refusal_in (Refused r) = Some r
refusal_in NoMemory = None
