-- A packet that comes to a pipe.
use Rattle.std.proofs.Common.{◌≡◌, ℕ, sym, ap, ◌∙◌, subst, List, [], ◌∷◌, ◌++◌, Option, Some, None, set}
use Rattle.emu_model.specs.declared.packets.Packet.{Packet}
use Rattle.emu_model.specs.declared.pipes.PipeConfig.{PipeConfig}
use Rattle.emu_model.specs.declared.records.DropCause.{DropCause}
use Rattle.emu_model.specs.declared.records.DropCause.TheVariants.{NoInstance}
use Rattle.emu_model.specs.FlowIds.{FlowId, flow_id, instance_of}
use Rattle.emu_model.specs.Pipes.{drop_one, with_instance, pipe_arrive}
use Rattle.packet_store.specs.Pocket.{Pocket}
use Rattle.pipe_core.specs.declared.slot.Slot.{Slot}
use Rattle.pipe_core.specs.Moves.{packet_at, AreNamed, Keeps}
use Rattle.pipe_core.specs.Keyed.{KeyedPipe, seen_pipe, view, ids_of, keys_of, IsSlot, IsPipe}
use Rattle.pipe_core.specs.Steps.{Arrives, ChangesAt, ArrivesAt, drops_of}
use Rattle.pipe_core.proofs.PipeFacts.{arrive-nowhere, arrive-there, view-stays, Keeps-lift}
use Rattle.pipe_core.proofs.InstancePlaces.{IsPlace, slot_at}

pub comes_at : (k now : ℕ) (packet : Packet) (answer : Option DropCause) (p q : Pocket) (old : KeyedPipe) (x y : Slot) (ids : List FlowId) →
    IsPlace k old.slots x → IsPipe old.config old.seed old.number ids old.slots → Arrives old.config now packet answer p q x y →
    ArrivesAt k now packet answer p q old (record old { slots = set old.slots k y })
comes_at k now packet answer p q old x y ids at pipe came = record {
  slots = (
    at.before,
    at.behind,
    x,
    y,
    record {
      was = at.was;
      is = λ i. record old { slots = at.becomes y i };
      place = at.place;
      keys = came.keys;
      slot = slot_at k old.slots x at old.config old.seed old.number ids pipe;
    },
    came,
  );
}

-- one that finds no instance
pub arrive_none : (now : ℕ) (packet : Packet) (p : Pocket) (old m : KeyedPipe) (id : FlowId) →
    id ≡ flow_id old.config.mask packet → None ≡ instance_of (ids_of old.slots) id → m.slots ≡ old.slots →
    m ≡ record old { slots = m.slots; spare = m.spare } →
    pipe_arrive old.seed now packet (view p old)
    ≡ record { state = view p m; dropped = record { packet = packet; cause = NoInstance } ∷ [] }
arrive_none now packet p old m id ide none slots same =
    let f : ℕ → Packet = packet_at p.find in
    arrive-nowhere f old.seed now packet old (ap (instance_of (ids_of old.slots)) (sym ide) ∙ sym none)
    ∙ (λ i. drop_one (seen_pipe f (record old { slots = sym slots i })) packet NoInstance)
    ∙ (λ i. drop_one (seen_pipe f (sym same i)) packet NoInstance)

module _ (now k : ℕ) (packet : Packet) (answer : Option DropCause) (p q : Pocket) (old m n : KeyedPipe) (id : FlowId)
    (same : m ≡ record old { slots = m.slots; spare = m.spare })
    (came : ArrivesAt k now packet answer p q m n) where
  pub arrive_some : AreNamed p (keys_of old.slots) → id ≡ flow_id old.config.mask packet → Some k ≡ instance_of (ids_of old.slots) id →
      ((f : ℕ → Packet) → with_instance id k (seen_pipe f old) ≡ seen_pipe f m) →
      pipe_arrive old.seed now packet (view p old) ≡ record { state = view q n; dropped = drops_of packet answer }
  arrive_some named ide there made =
      let f : ℕ → Packet = packet_at q.find in
      let before : List Slot = came.slots.0 in
      let behind : List Slot = came.slots.1 in
      let x : Slot = came.slots.2 in
      let y : Slot = came.slots.3 in
      let change : ChangesAt k p q m n before behind x y = came.slots.4 in
      let turn : Arrives old.config now packet answer p q x y =
      subst (λ (c : PipeConfig). Arrives c now packet answer p q x y) (ap (λ (z : KeyedPipe). z.config) same) came.slots.5 in
      let slot : IsSlot old.config old.seed old.number k x =
      subst (λ (z : KeyedPipe). IsSlot z.config z.seed z.number k x) same change.slot in
      ap (pipe_arrive old.seed now packet) (sym (view-stays p q old named turn.stays))
      ∙ arrive-there f now packet old m k before behind x y (drops_of packet answer)
      (ap (instance_of (ids_of old.slots)) (sym ide) ∙ sym there)
      ((λ i. with_instance (sym ide i) k (seen_pipe f old)) ∙ made f)
      (ap (λ (z : KeyedPipe). z.number) same) (ap (λ (z : KeyedPipe). z.config) same)
      change.was change.place slot turn.shown
      ∙ (λ i. record { state = seen_pipe f (sym change.is i); dropped = drops_of packet answer })

  pub arrive_keys : keys_of m.slots ≡ keys_of old.slots → Keeps p q (keys_of old.slots) (keys_of n.slots)
  arrive_keys keys =
      let before : List Slot = came.slots.0 in
      let behind : List Slot = came.slots.1 in
      let x : Slot = came.slots.2 in
      let y : Slot = came.slots.3 in
      let change : ChangesAt k p q m n before behind x y = came.slots.4 in
      subst (λ ks. Keeps p q ks (keys_of n.slots)) (ap keys_of (sym change.was) ∙ keys)
      (subst (λ ks. Keeps p q (keys_of (before ++ x ∷ behind)) ks) (ap (λ (z : KeyedPipe). keys_of z.slots) (sym change.is))
      (Keeps-lift p q before behind x y change.keys))
