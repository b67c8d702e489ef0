-- A pipe whose packets are on a shelf, and its view, in which each key is replaced by its packet.
use Rattle.std.specs.Prelude.{◌≡◌, ℕ, ◌+◌, ◌≤◌, is_some, List, [], ◌∷◌, ◌++◌, map, length}
use Rattle.emu_model.specs.declared.packets.Packet.{Packet}
use Rattle.emu_model.specs.declared.pipes.PipeConfig.{PipeConfig}
use Rattle.emu_model.specs.FlowIds.{FlowId}
use Rattle.emu_model.specs.DropTail.{bytes_of}
use Rattle.emu_model.specs.Commands.{shown_words}
use Rattle.emu_model.specs.Pipes.{InstanceOf, Instance, PipeState}
use Rattle.packet_store.specs.Pocket.{Pocket}
use Rattle.pipe_core.specs.declared.instance.Shown.{Shown}
use Rattle.pipe_core.specs.KeyedInstance.{seen, kept, keys_in, IsTuned}
use Rattle.pipe_core.specs.declared.slot.Slot.{Slot}
use Rattle.pipe_core.specs.Moves.{packet_at}

-- a pipe: its instances, each with its flow identifier, and the number of further instances that need no allocation
pub record KeyedPipe : Type 0 where
  pub seed : ℕ
  pub number : ℕ
  pub config : PipeConfig
  pub slots : List Slot
  pub spare : ℕ

-- the instance in the form of the definitions, with keys instead of packets
abbrev pub kept_slot : Slot → InstanceOf ℕ
kept_slot s = kept s.id s.instance

abbrev pub seen_slot : (ℕ → Packet) → Slot → Instance
seen_slot f s = seen f (kept_slot s)

-- the view of a pipe, where f maps each key to its packet
abbrev pub seen_pipe : (ℕ → Packet) → KeyedPipe → PipeState
seen_pipe f p = record { number = p.number; config = p.config; instances = map (seen_slot f) p.slots }

-- the view of a pipe over an owner's packets
abbrev pub view : Pocket → KeyedPipe → PipeState
view pocket p = seen_pipe (packet_at pocket.find) p

abbrev pub ids_of : List Slot → List FlowId
ids_of slots = map (λ s. s.id) slots

-- the statistics of an instance, as a listing shows them
abbrev pub shown_of : Instance → Shown
shown_of i = record {
  waiting = length i.waiting;
  bytes = bytes_of i.waiting;
  busy = is_some i.service;
  in_flight = length i.line.in_flight;
  drawn = shown_words i.drawn;
}

-- the keys in a pipe, instance by instance
unfoldable pub keys_of : List Slot → List ℕ
keys_of [] = []
keys_of (s ∷ ss) = keys_in s.instance ++ keys_of ss

-- instance k of the pipe with this number, configuration and seed
pub record IsSlot (config : PipeConfig) (seed number k : ℕ) (s : Slot) : Type 0 where
  pub tuned : IsTuned config s.instance
  pub seed_is : s.instance.draws.seed ≡ seed
  pub pipe_is : s.instance.draws.pipe ≡ number
  pub number_is : s.instance.draws.instance ≡ k

unfoldable pub AreSlots : PipeConfig → ℕ → ℕ → ℕ → List Slot → Type 0
AreSlots config seed number k [] = Unit {0}
AreSlots config seed number k (s ∷ ss) =
    IsSlot config seed number k s × AreSlots config seed number (k + 1) ss

pub record IsPipe (config : PipeConfig) (seed number : ℕ) (ids : List FlowId) (slots : List Slot) : Type 0 where
  pub ids_are : ids ≡ ids_of slots
  pub few : length slots ≤ 256
  pub slots_are : AreSlots config seed number 0 slots
