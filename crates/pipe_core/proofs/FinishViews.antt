-- A finish in an instance, as the pipe shows it.
use Rattle.std.proofs.Common.{◌≡◌, ℕ, zero, suc, ◌<◌, refl, sym, ap, ◌∙◌, subst, List, [], ◌∷◌, map, length, Option, Some, get_or, set, arith}
use Rattle.std.specs.Prelude.{Result, Ok, Err, IfOk, OnOk, OnErr, slice_get, option_map, option_and_then}
use Rattle.std.proofs.lemmas.List.{length-map}
use Rattle.emu_model.specs.declared.packets.Packet.{Packet}
use Rattle.emu_model.specs.declared.pipes.PipeConfig.{PipeConfig}
use Rattle.emu_model.specs.Events.{served_in}
use Rattle.emu_model.specs.Pipes.{Instance, instance_finish, pipe_finish}
use Rattle.packet_store.specs.Pocket.{Pocket}
use Rattle.pipe_core.specs.KeyedInstance.{keys_in}
use Rattle.pipe_core.specs.declared.slot.Slot.{Slot}
use Rattle.pipe_core.specs.Moves.{packet_at, AreNamed, Keeps}
use Rattle.pipe_core.specs.Keyed.{KeyedPipe, seen_slot, seen_pipe, view, keys_of}
use Rattle.pipe_core.specs.Steps.{HasRoom, IsGrown, IsSamePlace, Finishes, drops_by_codel}
use Rattle.pipe_core.proofs.KeyMoves.{AreNamed-kept, Keeps-same}
use Rattle.pipe_core.proofs.PipeFacts.{changed, view-left}
use Rattle.pipe_core.proofs.InstancePlaces.{IsPlace, place_of, finish_due, seen_at, keeps_at, seen_same, keys_same, room_same}

-- what is due is there
pub due_within : (is : List Instance) (k now : ℕ) →
    option_map (λ s. s.period.finish) (option_and_then (λ i. i.service) (slice_get is k)) ≡ Some now → k < length is
due_within [] k now e = absurd (cc)
due_within (i ∷ is) zero now e = omega arith
due_within (i ∷ is) (suc k) now e = omega (arith, due_within is k now e)

-- what is due in a pipe e that is seen as v
abbrev finish_in : ℕ → Pocket → KeyedPipe → Option ℕ
finish_in k p e = option_map (λ s. s.period.finish) (served_in k (view p e))

pub within_due : {e v : KeyedPipe} (p : Pocket) (k : ℕ) {now : ℕ} → e ≡ v → finish_in k p v ≡ Some now → k < length e.slots
within_due {e = e} p k {now = now} is due =
    omega (
      arith,
      due_within (map (seen_slot (packet_at p.find)) e.slots) k now (subst (λ (w : KeyedPipe). finish_in k p w ≡ Some now) (sym is) due),
      length-map e.slots (seen_slot (packet_at p.find)),
    )

pub place_due : {e v : KeyedPipe} (p : Pocket) (k : ℕ) {now : ℕ} {x : Slot} → e ≡ v → finish_in k p v ≡ Some now → x ≡ get_or e.slots k x →
    IsPlace k e.slots x
place_due {e = e} p k {x = x} is due value = place_of e.slots k x value (within_due p k is due)

pub due_at : {e v : KeyedPipe} (p : Pocket) (k : ℕ) {now : ℕ} {x : Slot} → e ≡ v → finish_in k p v ≡ Some now → x ≡ get_or e.slots k x →
    option_map (λ s. s.period.finish) x.instance.service.busy ≡ Some now
due_at {e = e} p k {now = now} {x = x} is due value =
    sym (finish_due k e.slots x (place_due p k is due value) (packet_at p.find))
    ∙ subst (λ (w : KeyedPipe). finish_in k p w ≡ Some now) (sym is) due

-- a slot whose line has other room
abbrev pub respaced : ℕ → Slot → Slot
respaced n s = record s { instance = record s.instance { delay_line = record s.instance.delay_line { spare = n } } }

pub respaced_place : (x y : Slot) (n : ℕ) → y ≡ respaced n x → IsSamePlace x y
respaced_place x y n e =
    subst (λ z. IsSamePlace x z) (sym e)
    (record { id = refl; limit = refl; discipline = refl; bw = refl; seed = refl; pipe = refl; number = refl })

module _ {E : Type 0} (config : PipeConfig) (now n : ℕ) (drops : List Packet) (p q : Pocket) (x y : Slot) where
  pub finish_place : (s : Result Packet E) → IfOk s (λ packet. Finishes config now packet drops p q x y) → OnErr s (y ≡ respaced n x) → IsSamePlace x y
  finish_place (Ok packet) h e = h.place
  finish_place (Err m) h e = respaced_place x y n e

  pub finish_keeps : (s : Result Packet E) → IfOk s (λ packet. Finishes config now packet drops p q x y) → OnErr s (y ≡ respaced n x) →
      OnErr s (q ≡ p) → Keeps p q (keys_in x.instance) (keys_in y.instance)
  finish_keeps (Ok packet) h e same = h.keys
  finish_keeps (Err m) h e same =
      subst (λ z. Keeps p z (keys_in x.instance) (keys_in y.instance)) (sym same)
      (Keeps-same p (keys_in x.instance) (keys_in y.instance) (ap (λ (z : Slot). keys_in z.instance) e))

pub on_ok_by : {T E : Type 0} {P : T → Type 0} {B : Type 0} (r : Result T E) → ((t : T) → P t → B) → IfOk r P → OnOk r B
on_ok_by (Ok t) h a = h t a
on_ok_by (Err e) h a = a

pub if_ok_by : {T E : Type 0} {P Q : T → Type 0} (r : Result T E) → ((t : T) → P t → Q t) → IfOk r P → IfOk r Q
if_ok_by (Ok t) h a = h t a
if_ok_by (Err e) h a = a

pub on_err : {T E : Type 0} {A B : Type 0} (r : Result T E) → (A → B) → OnErr r A → OnErr r B
on_err (Ok t) h a = a
on_err (Err e) h a = h a

pub on_any_err : {T E : Type 0} {A : Type 0} (r : Result T E) → A → OnErr r A
on_any_err (Ok t) a = tt
on_any_err (Err e) a = a

module _ (k : ℕ) (old : KeyedPipe) (x y : Slot) (at : IsPlace k old.slots x) (p q : Pocket) where
  pub finish_view : (now : ℕ) (packet : Packet) (drops : List Packet) → AreNamed p (keys_of old.slots) →
      Finishes old.config now packet drops p q x y →
      pipe_finish now k (view p old)
      ≡ record { state = view q (record old { slots = set old.slots k y }); dropped = drops_by_codel drops }
  finish_view now packet drops n h =
      let f : ℕ → Packet = packet_at p.find in
      let new : KeyedPipe = record old { slots = set old.slots k y } in
      let named : AreNamed q (keys_of new.slots) =
      AreNamed-kept p q (keys_of old.slots) (keys_of new.slots) n (keeps_at k old.slots x at p q y h.keys) in
      changed f old k at.before at.behind x y (instance_finish old.config now) (drops_by_codel drops) at.was at.place h.shown
      ∙ (λ i. record { state = seen_pipe f (record old { slots = sym (at.becomes y) i }); dropped = drops_by_codel drops })
      ∙ (λ i. record { state = sym (view-left p q new named h.stays) i; dropped = drops_by_codel drops })

  pub served_view : (now : ℕ) (packet : Packet) (drops : List Packet) → Finishes old.config now packet drops p q x y →
      option_map (λ s. s.item) (served_in k (view p old)) ≡ Some packet
  served_view now packet drops h =
      ap (λ o. option_map (λ s. s.item) (option_and_then (λ (i : Instance). i.service) o)) (seen_at k old.slots x at (packet_at p.find)) ∙ h.served

  pub refused_grown : (n : ℕ) → y ≡ respaced n x → IsGrown old (record old { slots = set old.slots k y })
  refused_grown n e = record {
    shown = λ f t. record {
      number = old.number;
      config = old.config;
      instances = seen_same k old.slots x at f y (ap (seen_slot f) e) t;
    };
    keys = keys_same k old.slots x at y (ap (λ (z : Slot). keys_in z.instance) e);
    same = refl;
    ready = λ packet h. room_same k old.slots x at old.seed old.number old.spare old.config y (ap (λ (z : Slot). z.id) e)
        (λ size room. subst (λ (z : Slot). HasRoom size z.instance) (sym e) room) packet h;
  }
