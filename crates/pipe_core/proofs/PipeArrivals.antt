-- A packet that came to instance k, as the pipe shows it.
use Rattle.std.proofs.Common.{◌≡◌, ℕ, ◌<◌, refl, sym, ap, ◌∙◌, subst, List, get_or, set, length, Option, Some}
use Rattle.emu_model.specs.declared.packets.Packet.{Packet}
use Rattle.emu_model.specs.declared.pipes.PipeConfig.{PipeConfig}
use Rattle.emu_model.specs.declared.records.DropCause.{DropCause}
use Rattle.emu_model.specs.FlowIds.{FlowId, flow_id, instance_of}
use Rattle.emu_model.specs.Pipes.{pipe_arrive}
use Rattle.packet_store.specs.Pocket.{Pocket}
use Rattle.pipe_core.specs.KeyedInstance.{KeyedInstance}
use Rattle.pipe_core.specs.declared.slot.Slot.{Slot}
use Rattle.pipe_core.specs.Leaves.{slot_due, pipe_due}
use Rattle.pipe_core.specs.Moves.{AreNamed, Keeps}
use Rattle.pipe_core.specs.Keyed.{KeyedPipe, view, ids_of, keys_of, IsPipe}
use Rattle.pipe_core.specs.Steps.{drops_of, Arrives, ArrivesAt}
use Rattle.pipe_core.proofs.InstancePlaces.{IsPlace, pipe_at, keeps_at, ids_same}
use Rattle.pipe_core.proofs.Arrivals.{comes_at, arrive_some}
use Rattle.pipe_core.proofs.Makings.{with_known}
use Rattle.pipe_core.proofs.SlotArrivals.{drawn_more}
use Rattle.pipe_core.proofs.Busy.{pipe-same}

-- a loss word says nothing of what is due
pub drawn-due : (id : FlowId) (i j : KeyedInstance) → j ≡ drawn_more i →
    slot_due (record { id = id; instance = j }) ≡ slot_due (record { id = id; instance = i })
drawn-due id i j e = ap (λ (m : KeyedInstance). slot_due (record { id = id; instance = m })) e

abbrev pub pipe_of : PipeConfig → ℕ → ℕ → List Slot → ℕ → KeyedPipe
pipe_of config seed number slots spare =
    record { seed = seed; number = number; config = config; slots = slots; spare = spare }

module _ {config : PipeConfig} {seed number k now : ℕ} {packet : Packet} {answer : Option DropCause} {p q : Pocket}
    {slots : List Slot} {ids : List FlowId} {x y : Slot} (at : IsPlace k slots x) (pipe : IsPipe config seed number ids slots)
    (came : Arrives config now packet answer p q x y) where
  pub came_pipe : IsPipe config seed number ids (set slots k y)
  came_pipe = pipe_at k slots x at config seed number ids y came.place pipe

  pub came_keys : Keeps p q (keys_of slots) (keys_of (set slots k y))
  came_keys = keeps_at k slots x at p q y came.keys

  pub came_ids : ids_of (set slots k y) ≡ ids_of slots
  came_ids = ids_same k slots x at y came.place.id

  pub came_there : (spare : ℕ) →
      ArrivesAt k now packet answer p q (pipe_of config seed number slots spare) (pipe_of config seed number (set slots k y) spare)
  came_there spare =
      comes_at k now packet answer p q (pipe_of config seed number slots spare) x y ids at pipe came

  pub came_shown : k < length slots → instance_of (ids_of slots) (flow_id config.mask packet) ≡ Some k → AreNamed p (keys_of slots) →
      (m n : ℕ) → pipe_arrive seed now packet (view p (pipe_of config seed number slots m))
      ≡ record { state = view q (pipe_of config seed number (set slots k y) n); dropped = drops_of packet answer }
  came_shown within its named m n =
      let old : KeyedPipe = pipe_of config seed number slots 0 in
      arrive_some now k packet answer p q old old (pipe_of config seed number (set slots k y) 0) (flow_id config.mask packet) refl
      (came_there 0) named refl (sym its)
      (λ f. with_known f (flow_id config.mask packet) k old within)

  pub came_due : x ≡ get_or slots k x → slot_due y ≡ slot_due x → (f : ℕ → Packet) (m n : ℕ) →
      pipe_due f (pipe_of config seed number (set slots k y) n) ≡ pipe_due f (pipe_of config seed number slots m)
  came_due value same f m n =
      pipe-same f (pipe_of config seed number slots 0) (pipe_of config seed number (set slots k y) 0) k x y refl value
      pipe.slots_are came_pipe.slots_are same
