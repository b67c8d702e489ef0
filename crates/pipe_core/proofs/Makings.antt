-- The instance of an identifier, found or made.
use Rattle.std.proofs.Common.{◌≡◌, ℕ, suc, ◌+◌, ◌<◌, nat_lt, Bool, true, false, refl, sym, ap, ◌∙◌, subst, List, [], ◌∷◌, ◌++◌, map, length, Option, Some, None, IsSome, position, arith}
use Rattle.std.specs.Prelude.{if◌then◌else◌, slice_get, option_map}
use Rattle.std.specs.List.{list_any}
use Rattle.std.specs.Option.{option_map_or}
use Rattle.std.proofs.lemmas.Bool.Decides.{nat_tests}
use Rattle.std.proofs.lemmas.List.{map-append, length-map, length_push}
use Rattle.std.proofs.lemmas.List.Quantifiers.{position-Some}
use Rattle.emu_model.specs.declared.packets.Packet.{Packet}
use Rattle.emu_model.specs.declared.pipes.PipeConfig.{PipeConfig}
use Rattle.emu_model.specs.FlowIds.{FlowId, same_flow, different, new_instance, instance_of}
use Rattle.emu_model.specs.Pipes.{InService, Instance, PipeState, initial_instance, with_instance}
use Rattle.pipe_core.specs.KeyedInstance.{KeyedInstance, seen_service, seen_instance, keys_in}
use Rattle.pipe_core.specs.declared.slot.Slot.{Slot}
use Rattle.pipe_core.specs.Moves.{some_packet}
use Rattle.pipe_core.specs.Steps.{HasRoom}
use Rattle.pipe_core.specs.Keyed.{KeyedPipe, seen_slot, seen_pipe, keys_of, IsSlot, AreSlots, IsPipe}

module _ (ids : List FlowId) (id : FlowId) where
  -- an identifier that came has the place of its first coming
  pub known : (k : ℕ) → position (same_flow id) ids ≡ Some k → (instance_of ids id ≡ Some k) × (k < length ids)
  known k h = (ap (λ o. option_map_or (λ n. Some n) o (new_instance ids)) h, (position-Some (same_flow id) ids k id h).0)

  -- a new one has the next number, if any
  pub made_next : (k : ℕ) → position (same_flow id) ids ≡ None → instance_of ids id ≡ Some k → k ≡ length ids
  made_next k h e =
      go (nat_lt (length ids) 256) (sym (ap (λ o. option_map_or (λ n. Some n) o (new_instance ids)) h) ∙ e)
    where
      go : (b : Bool) → (if b then Some (length ids) else None) ≡ Some k → k ≡ length ids
      go true g = cc
      go false g = absurd (cc)

  -- and there are few
  pub made_few : (k : ℕ) → position (same_flow id) ids ≡ None → instance_of ids id ≡ Some k → length ids < 256
  made_few k h e =
      go (nat_lt (length ids) 256) refl (sym (ap (λ o. option_map_or (λ n. Some n) o (new_instance ids)) h) ∙ e)
    where
      go : (b : Bool) → nat_lt (length ids) 256 ≡ b → (if b then Some (length ids) else None) ≡ Some k → length ids < 256
      go true t g = grind (arith, nat_tests)
      go false t g = absurd (cc)

AreSlots-push : (config : PipeConfig) (seed number k : ℕ) (ss : List Slot) (s : Slot) →
    AreSlots config seed number k ss → IsSlot config seed number (k + length ss) s → AreSlots config seed number k (ss ++ s ∷ [])
unfolding AreSlots
AreSlots-push config seed number k [] s a i =
    let here : k + 0 ≡ k = omega arith in (subst (λ j. IsSlot config seed number j s) here i, tt)
AreSlots-push config seed number k (t ∷ ss) s a i =
    let here : k + suc (length ss) ≡ (k + 1) + length ss = omega arith in
    (a.0, AreSlots-push config seed number (k + 1) ss s a.1 (subst (λ j. IsSlot config seed number j s) here i))

-- the invariant, where one instance more was made
pub IsPipe-push : (config : PipeConfig) (seed number : ℕ) (ids new : List FlowId) (ss : List Slot) (s : Slot) →
    IsPipe config seed number ids ss → list_any (same_flow s.id) ids ≡ false → new ≡ different ids (s.id ∷ []) →
    length ss < 256 → IsSlot config seed number (length ss) s → IsPipe config seed number new (ss ++ s ∷ [])
IsPipe-push config seed number ids new ss s p unknown made few slot =
    let here : length ss ≡ 0 + length ss = omega arith in
    record {
      ids_are =
          made ∙ ap (λ b. if b then ids else ids ++ s.id ∷ []) unknown
          ∙ ap (λ l. l ++ s.id ∷ []) p.ids_are ∙ sym (map-append (λ t. t.id) ss (s ∷ []));
      few = omega (arith, few, length_push ss s);
      slots_are = AreSlots-push config seed number 0 ss s p.slots_are (subst (λ j. IsSlot config seed number j s) here slot);
    }

-- the definition finds the instance, or makes it
pub with_known : (f : ℕ → Packet) (id : FlowId) (k : ℕ) (pipe : KeyedPipe) → k < length pipe.slots →
    with_instance id k (seen_pipe f pipe) ≡ seen_pipe f pipe
with_known f id k pipe within =
    let shown : PipeState = seen_pipe f pipe in
    let t : nat_lt k (length shown.instances) ≡ true =
    ap (nat_lt k) (length-map pipe.slots (seen_slot f)) ∙ (let u : nat_lt k (length pipe.slots) ≡ true = grind (arith, nat_tests) in u) in
    ap (λ b. if b then shown else record shown { instances = shown.instances ++ initial_instance id ∷ [] }) t

pub with_new : (f : ℕ → Packet) (id : FlowId) (k : ℕ) (pipe : KeyedPipe) (s : Slot) → k ≡ length pipe.slots →
    seen_slot f s ≡ initial_instance id →
    with_instance id k (seen_pipe f pipe) ≡ seen_pipe f (record pipe { slots = pipe.slots ++ s ∷ [] })
with_new f id k pipe s last opening =
    let shown : PipeState = seen_pipe f pipe in
    let same : length shown.instances ≡ length pipe.slots = length-map pipe.slots (seen_slot f) in
    let t : nat_lt k (length shown.instances) ≡ false = grind (arith, nat_tests) in
    ap (λ b. if b then shown else record shown { instances = shown.instances ++ initial_instance id ∷ [] }) t
    ∙ (λ i. record shown {
      instances = (ap (λ x. map (seen_slot f) pipe.slots ++ x ∷ []) (sym opening)
          ∙ sym (map-append (seen_slot f) pipe.slots (s ∷ []))) i;
    })

-- a new instance holds nothing
pub keys-push : (ss : List Slot) (s : Slot) → keys_in s.instance ≡ [] → keys_of (ss ++ s ∷ []) ≡ keys_of ss
unfolding keys_of
keys-push [] s e = ap (λ l. l ++ []) e
keys-push (t ∷ ss) s e = ap (λ l. keys_in t.instance ++ l) (keys-push ss s e)

-- a new instance is idle
idle_by : (f : ℕ → Packet) (busy : Option (InService ℕ)) → option_map (seen_service f) busy ≡ None → IsSome busy → ⊥
idle_by f None e h = absurd (cc)
idle_by f (Some s) e h = absurd (cc)

new_idle : (id : FlowId) (i : KeyedInstance) → ((f : ℕ → Packet) (id : FlowId) → seen_instance f id i ≡ initial_instance id) →
    IsSome i.service.busy → ⊥
new_idle id i opening h =
    idle_by (λ k. some_packet) i.service.busy (ap (λ (s : Instance). s.service) (opening (λ k. some_packet) id)) h

last_is : (ss : List Slot) (s t : Slot) → slice_get (ss ++ s ∷ []) (length ss) ≡ Some t → s ≡ t
last_is [] s t e = cc
last_is (b ∷ ss) s t e = last_is ss s t e

pub new_room : (size k : ℕ) (ss new : List Slot) (id : FlowId) (i : KeyedInstance) (s : Slot) → k ≡ length ss →
    new ≡ ss ++ record { id = id; instance = i } ∷ [] →
    ((f : ℕ → Packet) (id : FlowId) → seen_instance f id i ≡ initial_instance id) →
    slice_get new k ≡ Some s → HasRoom size s.instance
new_room size k ss new id i s last is opening e lets busy =
    let same : record { id = id; instance = i } ≡ s =
    last_is ss (record { id = id; instance = i }) s ((λ t. slice_get (sym is t) (sym last t)) ∙ e) in
    absurd (new_idle id i opening (subst (λ (t : Slot). IsSome t.instance.service.busy) (sym same) busy))
