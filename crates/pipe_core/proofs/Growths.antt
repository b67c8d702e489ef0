-- An instance whose queue alone has grown.
use Rattle.std.proofs.Common.{◌≡◌, ℕ, ◌<◌, ◌≤◌, true, refl, sym, ap, ◌∙◌, subst, List, [], ◌∷◌, length, Some, None, IsSome, set, position, arith}
use Rattle.std.specs.Prelude.{Result, Ok, Err, OnOk, OnErr, IsOk, slice_get}
use Rattle.emu_model.specs.declared.packets.Packet.{Packet}
use Rattle.std.proofs.lemmas.List.{length-map}
use Rattle.emu_model.specs.FlowIds.{FlowId, flow_id, same_flow}
use Rattle.emu_model.specs.DropTail.{accepts}
use Rattle.pipe_core.specs.KeyedInstance.{KeyedInstance, seen_instance, keys_in}
use Rattle.pipe_core.specs.declared.slot.Slot.{Slot}
use Rattle.pipe_core.specs.Keyed.{KeyedPipe, ids_of}
use Rattle.pipe_core.specs.Steps.{HasRoom, HasRoomAt, IsGrown, IsSamePlace}
use Rattle.pipe_core.proofs.Makings.{made_next, made_few}
use Rattle.pipe_core.proofs.InstancePlaces.{IsPlace, seen_same, keys_same, room_same, room_here}

abbrev pub with_capacity : ℕ → KeyedInstance → KeyedInstance
with_capacity c i = record i { queue = record i.queue { capacity = c } }

abbrev slot : FlowId → KeyedInstance → Slot
slot id i = record { id = id; instance = i }

pub grown_place : (id : FlowId) (i j : KeyedInstance) (c : ℕ) → j ≡ with_capacity c i → IsSamePlace (slot id i) (slot id j)
grown_place id i j c e =
    subst (λ m. IsSamePlace (slot id i) (slot id m)) (sym e)
    (record { id = refl; limit = refl; discipline = refl; bw = refl; seed = refl; pipe = refl; number = refl })

pub grown_room : (size c : ℕ) (i j : KeyedInstance) → j ≡ with_capacity c i → i.queue.capacity ≤ c → HasRoom size i → HasRoom size j
grown_room size c i j e grows h =
    subst (λ m. HasRoom size m) (sym e) (λ lets busy. let room : length i.queue.waiting < i.queue.capacity = h lets busy in omega arith)

pub grown_at : (k : ℕ) (old : KeyedPipe) (id : FlowId) (i j : KeyedInstance) (c : ℕ) → IsPlace k old.slots (slot id i) →
    j ≡ with_capacity c i → i.queue.capacity ≤ c → IsGrown old (record old { slots = set old.slots k (slot id j) })
grown_at k old id i j c at e grows = record {
  shown = λ f t. record {
    number = old.number;
    config = old.config;
    instances = seen_same k old.slots (slot id i) at f (slot id j) (ap (seen_instance f id) e) t;
  };
  keys = keys_same k old.slots (slot id i) at (slot id j) (ap keys_in e);
  same = refl;
  ready = λ packet h. room_same k old.slots (slot id i) at old.seed old.number old.spare old.config (slot id j) refl
      (λ size r. grown_room size c i j e grows r) packet h;
}

-- what holds of an answer that is given
pub on_ok : {T E : Type 0} {A B : Type 0} (r : Result T E) → (A → B) → OnOk r A → OnOk r B
on_ok (Ok x) h a = h a
on_ok (Err e) h a = a

pub ready_here : {T E : Type 0} (r : Result T E) (size k : ℕ) (slots : List Slot) (id : FlowId) (i j : KeyedInstance) (c : ℕ) →
    IsPlace k slots (slot id i) → j ≡ with_capacity c i →
    OnOk r (accepts i.queue.limit i.queue.waiting size ≡ true → IsSome j.service.busy → length j.queue.waiting < j.queue.capacity) →
    OnOk r ((s : Slot) → slice_get (set slots k (slot id j)) k ≡ Some s → HasRoom size s.instance)
ready_here r size k slots id i j c at e room =
    on_ok r (λ h. room_here k slots (slot id i) at size (slot id j)
    (λ lets busy. h (ap (λ (m : KeyedInstance). accepts m.queue.limit m.queue.waiting size) (sym e) ∙ lets) busy)) room

pub not_refused : {T E : Type 0} {A B : Type 0} (r : Result T E) (m n : ℕ) → OnErr r (A × B × (m ≤ n)) → (A → B → n < m) → IsOk r
not_refused (Ok x) m n h room = refl
not_refused (Err e) m n h room = absurd (omega (arith, room h.0 h.1, h.2))

beyond : (ss : List Slot) (s : Slot) → slice_get ss (length ss) ≡ Some s → ⊥
beyond [] s e = absurd (cc)
beyond (t ∷ ss) s e = beyond ss s e

-- where it has none yet, and one can be made
pub room_new : (packet : Packet) (new : KeyedPipe) →
    position (same_flow (flow_id new.config.mask packet)) (ids_of new.slots) ≡ None →
    (length new.slots < 256 → 0 < new.spare) → HasRoomAt packet new
room_new packet new unknown room =
    let ids : List FlowId = ids_of new.slots in
    let id : FlowId = flow_id new.config.mask packet in
    let many : length ids ≡ length new.slots = length-map new.slots (λ (t : Slot). t.id) in
    record {
      there = λ j is s e.
          let last : j ≡ length new.slots = made_next ids id j unknown is ∙ many in
          absurd (beyond new.slots s ((λ t. slice_get new.slots (sym last t)) ∙ e));
      new = λ is.
          let few : length new.slots < 256 = omega (arith, made_few ids id (length new.slots) unknown is, many) in room few;
    }
