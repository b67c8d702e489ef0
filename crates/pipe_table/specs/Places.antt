-- Pipes by their places in the table, which stay the same while no pipe is created or deleted.
use Rattle.std.specs.Prelude.{◌≡◌, ℕ, ◌<◌, Option, Some, List, length, position, slice_get}
use Rattle.emu_model.specs.declared.packets.Packet.{Packet}
use Rattle.emu_model.specs.FlowIds.{flow_id, instance_of}
use Rattle.due_index.specs.Table.{place_in}
use Rattle.pipe_core.specs.Keyed.{KeyedPipe, ids_of}
use Rattle.pipe_core.specs.Steps.{HasRoomAtSlot, HasLineRoomAt, IsFreeAt, IsPlainAt}
use Rattle.pipe_table.specs.Table.{has_number}

-- the pipe with number k is at this place
abbrev pub StandsAt : ℕ → ℕ → List KeyedPipe → Type 0
StandsAt k place ps = Some place ≡ position (has_number k) ps

-- the table `places` maps each pipe's number to its place
abbrev pub AreLed : List KeyedPipe → List (Option ℕ) → Type 0
AreLed ps places = (i : ℕ) (p : KeyedPipe) → slice_get ps i ≡ Some p → place_in places p.number ≡ Some i

-- the pipe at place `place` exists, and has an instance at place `instance`
pub record IsInside (place instance : ℕ) (ps : List KeyedPipe) : Type 0 where
  pub pipe : KeyedPipe
  pub there : slice_get ps place ≡ Some pipe
  pub inside : instance < length pipe.slots

-- the pipe at place `place` has number k, and its instance at place `instance` exists and is this packet's
pub record IsRouted (k : ℕ) (packet : Packet) (place instance : ℕ) (ps : List KeyedPipe) : Type 0 where
  pub stands : StandsAt k place ps
  pub pipe : KeyedPipe
  pub there : slice_get ps place ≡ Some pipe
  pub inside : instance < length pipe.slots
  pub its : instance_of (ids_of pipe.slots) (flow_id pipe.config.mask packet) ≡ Some instance

-- a packet of this size can arrive at an instance without an allocation, if the shelf has room for it
abbrev pub HasRoomAtPlace : ℕ → ℕ → ℕ → List KeyedPipe → Type 0
HasRoomAtPlace size place instance ps =
    (p : KeyedPipe) → slice_get ps place ≡ Some p → HasRoomAtSlot size instance p

-- the delay line of an instance has room
abbrev pub HasLineRoomIn : ℕ → ℕ → List KeyedPipe → Type 0
HasLineRoomIn place instance ps =
    (p : KeyedPipe) → slice_get ps place ≡ Some p → HasLineRoomAt instance p

-- a finish of an instance at this time needs no allocation if the list of drops has this capacity
abbrev pub IsFreeIn : ℕ → ℕ → ℕ → ℕ → List KeyedPipe → Type 0
IsFreeIn place instance now capacity ps =
    (p : KeyedPipe) → slice_get ps place ≡ Some p → IsFreeAt instance now capacity p

-- a finish of an instance at this time is certain to drop nothing
abbrev pub IsPlainIn : ℕ → ℕ → ℕ → List KeyedPipe → Type 0
IsPlainIn place instance now ps =
    (p : KeyedPipe) → slice_get ps place ≡ Some p → IsPlainAt instance now p

-- each number keeps its place, each instance stays, and each packet keeps its instance
pub record KeepsPlaces (old new : List KeyedPipe) : Type 0 where
  pub places : (k : ℕ) → position (has_number k) new ≡ position (has_number k) old
  pub inside : (place instance : ℕ) → IsInside place instance old → IsInside place instance new
  pub routes : (k : ℕ) (packet : Packet) (place instance : ℕ) →
      IsRouted k packet place instance old → IsRouted k packet place instance new
