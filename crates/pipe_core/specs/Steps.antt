-- The effects of a pipe's calls, instance by instance.
use Rattle.std.specs.Prelude.{◌≡◌, ℕ, ◌+◌, ◌<◌, ◌≤◌, true, if◌then◌else◌, Option, Some, None, IsSome, option_map, List, [], ◌∷◌, ◌++◌, map, length, slice_get}
use Rattle.emu_model.specs.declared.packets.Packet.{Packet}
use Rattle.emu_model.specs.declared.pipes.PipeConfig.{PipeConfig}
use Rattle.emu_model.specs.declared.pipes.Discipline.{Discipline}
use Rattle.emu_model.specs.declared.records.DropCause.{DropCause}
use Rattle.emu_model.specs.declared.records.DropCause.TheVariants.{Codel}
use Rattle.emu_model.specs.Loss.{is_lost}
use Rattle.emu_model.specs.FlowIds.{flow_id, instance_of}
use Rattle.emu_model.specs.Delay.{first_item, leave}
use Rattle.emu_model.specs.DropTail.{accepts}
use Rattle.emu_model.specs.Pipes.{may_drop, dequeue, Drop, drawn_one, instance_arrive, instance_finish}
use Rattle.packet_store.specs.Pocket.{Pocket}
use Rattle.queue_disc.specs.Queues.{is_plain}
use Rattle.pipe_core.specs.KeyedInstance.{KeyedInstance, KeyedQueue, keys_in}
use Rattle.pipe_core.specs.Turns.{configured}
use Rattle.pipe_core.specs.declared.slot.Slot.{Slot}
use Rattle.pipe_core.specs.Moves.{packet_at, Keeps}
use Rattle.pipe_core.specs.Keyed.{seen_slot, seen_pipe, KeyedPipe, IsSlot, ids_of, keys_of}

-- the drop of a packet with its cause, if it was dropped
abbrev pub drops_of : Packet → Option DropCause → List Drop
drops_of p None = []
drops_of p (Some cause) = record { packet = p; cause = cause } ∷ []

-- the drops of packets by CoDel
abbrev pub drops_by_codel : List Packet → List Drop
drops_by_codel ps = map (λ p. record { packet = p; cause = Codel }) ps

-- a packet of this size can arrive without an allocation
abbrev pub HasRoom : ℕ → KeyedInstance → Type 0
HasRoom size i =
    accepts i.queue.limit i.queue.waiting size ≡ true → IsSome i.service.busy →
    length i.queue.waiting < i.queue.capacity

-- a packet of this size can arrive at instance k without an allocation
abbrev pub HasRoomAtSlot : ℕ → ℕ → KeyedPipe → Type 0
HasRoomAtSlot size k p = (s : Slot) → slice_get p.slots k ≡ Some s → HasRoom size s.instance

-- this packet, or one that differs only in its load, number or place, can arrive at the pipe without an allocation, if
-- the shelf has room for it
pub record HasRoomAt (packet : Packet) (p : KeyedPipe) : Type 0 where
  pub there : (k : ℕ) → instance_of (ids_of p.slots) (flow_id p.config.mask packet) ≡ Some k →
      HasRoomAtSlot packet.size k p
  pub new : instance_of (ids_of p.slots) (flow_id p.config.mask packet) ≡ Some (length p.slots) → 0 < p.spare

-- the packet's instance is k, which exists, and the packet can arrive there without an allocation
pub record HasInstance (k : ℕ) (packet : Packet) (p : KeyedPipe) : Type 0 where
  pub inside : k < length p.slots
  pub its : instance_of (ids_of p.slots) (flow_id p.config.mask packet) ≡ Some k
  pub ready : HasRoomAtSlot packet.size k p

-- only spare capacity has grown
pub record IsGrown (old new : KeyedPipe) : Type 0 where
  pub shown : (f : ℕ → Packet) → seen_pipe f new ≡ seen_pipe f old
  pub keys : keys_of new.slots ≡ keys_of old.slots
  pub same : new ≡ record old { slots = new.slots; spare = new.spare }
  pub ready : (packet : Packet) → HasRoomAt packet old → HasRoomAt packet new

-- the maximum number of packets that a finish can drop if n packets wait
abbrev pub most_of : Discipline → ℕ → ℕ
most_of d n = if may_drop d then n else 0

abbrev pub most_dropped : KeyedQueue → ℕ
most_dropped q = most_of q.discipline (length q.waiting)

-- a finish at this time needs no allocation if the list of drops has this capacity
pub record IsFree (now capacity : ℕ) (i : KeyedInstance) : Type 0 where
  pub line : 0 < i.delay_line.spare
  pub none : (dequeue i.queue.discipline now i.queue.control i.queue.waiting).dropped ≡ []
  pub list : most_dropped i.queue ≤ capacity

-- a finish of instance k at this time needs no allocation if the list of drops has this capacity
abbrev pub IsFreeAt : ℕ → ℕ → ℕ → KeyedPipe → Type 0
IsFreeAt k now capacity p = (s : Slot) → slice_get p.slots k ≡ Some s → IsFree now capacity s.instance

-- the delay line of instance k has room
abbrev pub HasLineRoomAt : ℕ → KeyedPipe → Type 0
HasLineRoomAt k p = (s : Slot) → slice_get p.slots k ≡ Some s → 0 < s.instance.delay_line.spare

-- a finish at this time is certain to drop nothing
abbrev pub IsPlain : ℕ → Slot → Type 0
IsPlain now s = is_plain s.instance.queue.discipline s.instance.queue.control now s.instance.queue.waiting ≡ true

abbrev pub IsPlainAt : ℕ → ℕ → KeyedPipe → Type 0
IsPlainAt k now p = (s : Slot) → slice_get p.slots k ≡ Some s → IsPlain now s

-- the same instance of the same pipe, with the same settings
pub record IsSamePlace (old new : Slot) : Type 0 where
  pub id : new.id ≡ old.id
  pub limit : new.instance.queue.limit ≡ old.instance.queue.limit
  pub discipline : new.instance.queue.discipline ≡ old.instance.queue.discipline
  pub bw : new.instance.service.bw ≡ old.instance.service.bw
  pub seed : new.instance.draws.seed ≡ old.instance.draws.seed
  pub pipe : new.instance.draws.pipe ≡ old.instance.draws.pipe
  pub number : new.instance.draws.instance ≡ old.instance.draws.instance

-- a packet arrived at an instance; `answer` is the cause if it was dropped
pub record Arrives (config : PipeConfig) (now : ℕ) (packet : Packet) (answer : Option DropCause) (p q : Pocket) (old new : Slot) : Type 0 where
  pub shown : (let d = old.instance.draws in
      instance_arrive config now packet (is_lost d.seed d.pipe d.instance d.drawn config.plr)
      (drawn_one (seen_slot (packet_at q.find) old)))
      ≡ record { state = seen_slot (packet_at q.find) new; dropped = drops_of packet answer }
  pub keys : Keeps p q (keys_in old.instance) (keys_in new.instance)
  pub stays : (k : ℕ) → IsSome (p.find k) → q.find k ≡ p.find k
  pub place : IsSamePlace old new

-- the packet in service, `answer`, finished, and CoDel dropped the packets `drops`
pub record Finishes (config : PipeConfig) (now : ℕ) (answer : Packet) (drops : List Packet) (p q : Pocket) (old new : Slot) : Type 0 where
  pub served : option_map (λ s. s.item) (seen_slot (packet_at p.find) old).service ≡ Some answer
  pub shown : instance_finish config now (seen_slot (packet_at p.find) old)
      ≡ record { state = seen_slot (packet_at p.find) new; dropped = drops_by_codel drops }
  pub keys : Keeps p q (keys_in old.instance) (keys_in new.instance)
  pub stays : (k : ℕ) → IsSome (q.find k) → q.find k ≡ p.find k
  pub place : IsSamePlace old new
  pub count : q.count + length drops ≡ p.count

-- the first packet in flight, `answer`, left the instance, if there is one
pub record Exits (answer : Option Packet) (p q : Pocket) (old new : Slot) : Type 0 where
  pub packet : answer ≡ first_item (seen_slot (packet_at p.find) old).line.in_flight
  pub shown : (f : ℕ → Packet) → seen_slot f new ≡ (let i = seen_slot f old in record i { line = leave i.line })
  pub keys : Keeps p q (keys_in old.instance) (keys_in new.instance)
  pub stays : (k : ℕ) → IsSome (q.find k) → q.find k ≡ p.find k
  pub place : IsSamePlace old new
  pub queue : new.instance.queue ≡ old.instance.queue
  pub service : new.instance.service ≡ old.instance.service

-- instance k changed from x to y, and no other instance changed
pub record ChangesAt (k : ℕ) (p q : Pocket) (old new : KeyedPipe) (before behind : List Slot) (x y : Slot) : Type 0 where
  pub was : old.slots ≡ before ++ x ∷ behind
  pub is : new ≡ record old { slots = before ++ y ∷ behind }
  pub place : k ≡ length before
  pub keys : Keeps p q (keys_in x.instance) (keys_in y.instance)
  pub slot : IsSlot old.config old.seed old.number k x

-- a packet arrived at instance k
pub record ArrivesAt (k now : ℕ) (packet : Packet) (answer : Option DropCause) (p q : Pocket) (old new : KeyedPipe) : Type 0 where
  pub slots : (before : List Slot) × (behind : List Slot) × (x : Slot) × (y : Slot)
      × ChangesAt k p q old new before behind x y × Arrives old.config now packet answer p q x y

-- the instance after a change of its configuration
abbrev pub configured_slot : PipeConfig → PipeConfig → Slot → Slot
configured_slot old new s = record s { instance = configured old new s.instance }
