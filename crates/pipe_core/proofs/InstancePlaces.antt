-- An instance at its place in a pipe, and what its change does there.
use Rattle.std.proofs.Common.{◌≡◌, ℕ, zero, suc, ◌<◌, refl, sym, ap, ◌∙◌, subst, List, [], ◌∷◌, ◌++◌, map, length, Option, Some, take, drop, get_or, set, arith}
use Rattle.std.specs.Prelude.{slice_get, unwrap_or, option_and_then, option_map}
use Rattle.std.proofs.lemmas.List.{set_split, set-get_or, length-take-le}
use Rattle.emu_model.specs.declared.packets.Packet.{Packet}
use Rattle.emu_model.specs.declared.pipes.PipeConfig.{PipeConfig}
use Rattle.emu_model.specs.Lists.{change_at}
use Rattle.emu_model.specs.Delay.{leave, first_item, first_exit}
use Rattle.emu_model.specs.FlowIds.{FlowId, flow_id, instance_of}
use Rattle.emu_model.specs.Pipes.{pipe_exit}
use Rattle.packet_store.specs.Pocket.{Pocket}
use Rattle.pipe_core.specs.KeyedInstance.{keys_in}
use Rattle.pipe_core.specs.declared.slot.Slot.{Slot}
use Rattle.pipe_core.specs.Moves.{packet_at, AreNamed, Keeps}
use Rattle.pipe_core.specs.Keyed.{KeyedPipe, seen_slot, view, ids_of, keys_of, IsSlot, IsPipe}
use Rattle.pipe_core.specs.Steps.{HasRoom, HasRoomAt, IsSamePlace, Exits}
use Rattle.pipe_core.proofs.KeyMoves.{AreNamed-kept}
use Rattle.pipe_core.proofs.PipeFacts.{slice_get-at, change_at-with, Keeps-lift, AreNamed-at, IsPipe-change, IsPipe-at, ids-change, length-change, map-change, keys-change, first_exit-seen, finish-seen, view-left}

-- instance k, and those before and behind it
pub record IsPlace (k : ℕ) (slots : List Slot) (x : Slot) : Type 0 where
  pub before : List Slot
  pub behind : List Slot
  pub was : slots ≡ before ++ x ∷ behind
  pub becomes : (y : Slot) → set slots k y ≡ before ++ y ∷ behind
  pub place : k ≡ length before

pub place_of : (slots : List Slot) (k : ℕ) (x : Slot) → x ≡ get_or slots k x → k < length slots → IsPlace k slots x
place_of slots k x value within = record {
  before = take k slots;
  behind = drop (suc k) slots;
  was =
      sym (set-get_or slots k x) ∙ set_split slots k (get_or slots k x) within
      ∙ ap (λ z. take k slots ++ z ∷ drop (suc k) slots) (sym value);
  becomes = λ y. set_split slots k y within;
  place = sym (length-take-le k slots (omega (arith, within)));
}

-- the same of a pipe e that is seen as v
pub place_inside : {e v : KeyedPipe} {k : ℕ} {x : Slot} → e ≡ v → k < length v.slots → x ≡ get_or e.slots k x → IsPlace k e.slots x
place_inside {e = e} {k = k} {x = x} is within value =
    place_of e.slots k x value (subst (λ (w : KeyedPipe). k < length w.slots) (sym is) within)

pub named_inside : {e v : KeyedPipe} {p : Pocket} → e ≡ v → AreNamed p (keys_of v.slots) → AreNamed p (keys_of e.slots)
named_inside {p = p} is n = subst (λ (w : KeyedPipe). AreNamed p (keys_of w.slots)) (sym is) n

-- the room of an instance that changed is all that changed of rooms
room-change : (size : ℕ) (before behind : List Slot) (x y : Slot) → (HasRoom size x.instance → HasRoom size y.instance) → (j : ℕ) →
    ((s : Slot) → slice_get (before ++ x ∷ behind) j ≡ Some s → HasRoom size s.instance) →
    (s : Slot) → slice_get (before ++ y ∷ behind) j ≡ Some s → HasRoom size s.instance
room-change size [] behind x y moves zero h s e =
    let same : y ≡ s = cc in subst (λ (t : Slot). HasRoom size t.instance) same (moves (h x refl))
room-change size [] behind x y moves (suc j) h s e = h s e
room-change size (b ∷ before) behind x y moves zero h s e = h s e
room-change size (b ∷ before) behind x y moves (suc j) h s e = room-change size before behind x y moves j h s e

module _ (k : ℕ) (slots : List Slot) (x : Slot) (at : IsPlace k slots x) where
  pub named_at : (p : Pocket) → AreNamed p (keys_of slots) → AreNamed p (keys_in x.instance)
  named_at p n = AreNamed-at p at.before at.behind x (subst (λ ss. AreNamed p (keys_of ss)) at.was n)

  pub keeps_at : (p q : Pocket) (y : Slot) → Keeps p q (keys_in x.instance) (keys_in y.instance) →
      Keeps p q (keys_of slots) (keys_of (set slots k y))
  keeps_at p q y m =
      subst (λ ss. Keeps p q (keys_of ss) (keys_of (set slots k y))) (sym at.was)
      (subst (λ ss. Keeps p q (keys_of (at.before ++ x ∷ at.behind)) (keys_of ss)) (sym (at.becomes y))
      (Keeps-lift p q at.before at.behind x y m))

  pub slot_at : (config : PipeConfig) (seed number : ℕ) (ids : List FlowId) → IsPipe config seed number ids slots →
      IsSlot config seed number k x
  slot_at config seed number ids p =
      subst (λ j. IsSlot config seed number j x) (sym at.place)
      (IsPipe-at config seed number ids at.before at.behind x (subst (IsPipe config seed number ids) at.was p))

  pub pipe_at : (config : PipeConfig) (seed number : ℕ) (ids : List FlowId) (y : Slot) → IsSamePlace x y →
      IsPipe config seed number ids slots → IsPipe config seed number ids (set slots k y)
  pipe_at config seed number ids y same p =
      subst (IsPipe config seed number ids) (sym (at.becomes y))
      (IsPipe-change config seed number ids at.before at.behind x y same (subst (IsPipe config seed number ids) at.was p))

  pub get_at : slice_get slots k ≡ Some x
  get_at = (λ t. slice_get (at.was t) (at.place t)) ∙ get-before at.before at.behind x
    where
      get-before : (before behind : List Slot) (x : Slot) → slice_get (before ++ x ∷ behind) (length before) ≡ Some x
      get-before [] behind x = refl
      get-before (b ∷ before) behind x = get-before before behind x

  pub seen_at : (f : ℕ → Packet) → slice_get (map (seen_slot f) slots) k ≡ Some (seen_slot f x)
  seen_at f = (λ t. slice_get (map (seen_slot f) (at.was t)) (at.place t)) ∙ slice_get-at (seen_slot f) at.before x at.behind

  pub exit_due : (f : ℕ → Packet) (due : Option ℕ) → due ≡ first_exit x.instance.delay_line.line.in_flight →
      due ≡ option_and_then (λ i. first_exit i.line.in_flight) (slice_get (map (seen_slot f) slots) k)
  exit_due f due e =
      e ∙ sym (first_exit-seen f x.instance.delay_line.line.in_flight)
      ∙ ap (option_and_then (λ i. first_exit i.line.in_flight)) (sym (seen_at f))

  pub finish_due : (f : ℕ → Packet) →
      option_map (λ s. s.period.finish) (option_and_then (λ i. i.service) (slice_get (map (seen_slot f) slots) k))
      ≡ option_map (λ s. s.period.finish) x.instance.service.busy
  finish_due f =
      ap (λ o. option_map (λ s. s.period.finish) (option_and_then (λ i. i.service) o)) (seen_at f)
      ∙ finish-seen f x.instance.service.busy

  -- an instance that shows the same, with the same keys and no less room
  pub seen_same : (f : ℕ → Packet) (y : Slot) → seen_slot f y ≡ seen_slot f x → map (seen_slot f) (set slots k y) ≡ map (seen_slot f) slots
  seen_same f y e =
      ap (map (seen_slot f)) (at.becomes y) ∙ map-change (seen_slot f) at.before at.behind x y e
      ∙ ap (map (seen_slot f)) (sym at.was)

  pub keys_same : (y : Slot) → keys_in y.instance ≡ keys_in x.instance → keys_of (set slots k y) ≡ keys_of slots
  keys_same y e =
      ap keys_of (at.becomes y) ∙ keys-change at.before at.behind x y e ∙ ap keys_of (sym at.was)

  pub ids_same : (y : Slot) → y.id ≡ x.id → ids_of (set slots k y) ≡ ids_of slots
  ids_same y e = ap ids_of (at.becomes y) ∙ ids-change at.before at.behind x y e ∙ ap ids_of (sym at.was)

  length_same : (y : Slot) → length (set slots k y) ≡ length slots
  length_same y = ap length (at.becomes y) ∙ length-change at.before at.behind x y ∙ ap length (sym at.was)

  pub room_same : (seed number spare : ℕ) (config : PipeConfig) (y : Slot) → y.id ≡ x.id →
      ((size : ℕ) → HasRoom size x.instance → HasRoom size y.instance) → (packet : Packet) →
      HasRoomAt packet (record { seed = seed; number = number; config = config; slots = slots; spare = spare }) →
      HasRoomAt packet (record { seed = seed; number = number; config = config; slots = set slots k y; spare = spare })
  room_same seed number spare config y id moves packet h =
      let e = ids_same y id in
      let n = length_same y in
      record {
        there = λ j is.
            subst (λ ss. (s : Slot) → slice_get ss j ≡ Some s → HasRoom packet.size s.instance) (sym (at.becomes y))
            (room-change packet.size at.before at.behind x y (moves packet.size) j
            (subst (λ ss. (s : Slot) → slice_get ss j ≡ Some s → HasRoom packet.size s.instance) at.was
            (h.there j (ap (λ ids. instance_of ids (flow_id config.mask packet)) (sym e) ∙ is))));
        new = λ is. h.new
            (ap (λ ids. instance_of ids (flow_id config.mask packet)) (sym e) ∙ is ∙ ap (λ m. Some m) n);
      }

  -- no instance loses its room
  pub slot_rooms : (y : Slot) → ((size : ℕ) → HasRoom size x.instance → HasRoom size y.instance) → (size j : ℕ) →
      ((s : Slot) → slice_get slots j ≡ Some s → HasRoom size s.instance) →
      (s : Slot) → slice_get (set slots k y) j ≡ Some s → HasRoom size s.instance
  slot_rooms y moves size j h =
      subst (λ ss. (s : Slot) → slice_get ss j ≡ Some s → HasRoom size s.instance) (sym (at.becomes y))
      (room-change size at.before at.behind x y (moves size) j
      (subst (λ ss. (s : Slot) → slice_get ss j ≡ Some s → HasRoom size s.instance) at.was h))

  pub room_here : (size : ℕ) (y : Slot) → HasRoom size y.instance → (s : Slot) → slice_get (set slots k y) k ≡ Some s → HasRoom size s.instance
  room_here size y h s e =
      let same : y ≡ s = ap (λ o. unwrap_or o y) (sym (get-place at.before at.behind y) ∙ (λ t. slice_get (sym (at.becomes y) t) (sym at.place t)) ∙ e) in
      subst (λ (t : Slot). HasRoom size t.instance) same h
    where
      get-place : (before behind : List Slot) (y : Slot) → slice_get (before ++ y ∷ behind) (length before) ≡ Some y
      get-place [] behind y = refl
      get-place (b ∷ before) behind y = get-place before behind y

  -- what left an instance, as the definition says it
  pub exit_view : (p q : Pocket) (config : PipeConfig) (seed number spare : ℕ) (y : Slot) (answer : Option Packet) → AreNamed p (keys_of slots) →
      Exits answer p q x y →
      view q (record { seed = seed; number = number; config = config; slots = set slots k y; spare = spare })
      ≡ pipe_exit k (view p (record { seed = seed; number = number; config = config; slots = slots; spare = spare }))
  exit_view p q config seed number spare y answer n e =
      let f : ℕ → Packet = packet_at p.find in
      let new : KeyedPipe = record { seed = seed; number = number; config = config; slots = set slots k y; spare = spare } in
      view-left p q new (AreNamed-kept p q (keys_of slots) (keys_of new.slots) n (keeps_at p q y e.keys)) e.stays
      ∙ (λ i. record {
        number = number;
        config = config;
        instances = (ap (map (seen_slot f)) (at.becomes y)
            ∙ change_at-with (seen_slot f) (λ j. record j { line = leave j.line }) at.before x y at.behind (e.shown f)
            ∙ (λ t. change_at (sym at.place t) (λ j. record j { line = leave j.line }) (map (seen_slot f) (sym at.was t)))) i;
      })

  pub exit_packet : (p q : Pocket) (y : Slot) (answer : Option Packet) → Exits answer p q x y →
      answer ≡ option_and_then (λ i. first_item i.line.in_flight) (slice_get (map (seen_slot (packet_at p.find)) slots) k)
  exit_packet p q y answer e =
      e.packet ∙ ap (option_and_then (λ i. first_item i.line.in_flight)) (sym (seen_at (packet_at p.find)))
