-- A packet that finishes in an instance.
use Rattle.std.proofs.Common.{◌≡◌, ℕ, ◌≤◌, Bool, true, false, IsTrue, refl, sym, ap, ◌∙◌, List, [], ◌∷◌, ◌++◌, map, length, Option, Some, None, arith}
use Rattle.std.specs.Prelude.{if◌then◌else◌, option_map, option_to_list, unwrap_or}
use Rattle.std.proofs.lemmas.List.{length-map, length-append}
use Rattle.emu_model.specs.declared.packets.Packet.{Packet}
use Rattle.emu_model.specs.declared.pipes.PipeConfig.{PipeConfig}
use Rattle.emu_model.specs.declared.pipes.Discipline.{Discipline}
use Rattle.emu_model.specs.declared.records.DropCause.TheVariants.{Codel}
use Rattle.emu_model.specs.FlowIds.{FlowId}
use Rattle.emu_model.specs.DropTail.{Queued}
use Rattle.emu_model.specs.Codel.{CodelState, Dequeued}
use Rattle.emu_model.specs.Pipes.{InService, may_drop, dequeue, Drop, codel_drops}
use Rattle.packet_store.specs.Pocket.{Pocket}
use Rattle.pipe_core.specs.Uses.{uses, one_at, one}
use Rattle.pipe_core.specs.KeyedInstance.{KeyedInstance, seen_waiting, seen_service, keys_in, IsTuned}
use Rattle.pipe_core.specs.Turns.{IsFinish}
use Rattle.pipe_core.proofs.UseCounts.{total-one, total-three, one_at-same, total-length}
use Rattle.emu_model.proofs.CallerLemmas.{IsCut, dequeue-cut, none_dropped}
use Rattle.pipe_core.specs.declared.slot.Slot.{Slot}
use Rattle.pipe_core.specs.Moves.{some_packet, packet_at, found, AreNamed, Taking}
use Rattle.pipe_core.specs.Keyed.{seen_slot}
use Rattle.pipe_core.specs.Steps.{Finishes, most_of, drops_by_codel}
use Rattle.pipe_core.proofs.KeyMoves.{Keeps-taken}
use Rattle.pipe_core.proofs.TakeFacts.{all_taken, all_came}

-- no more is dropped than was waited for
cut_length : {A : Type 0} (ws : List (Queued A)) (d : Dequeued A) → IsCut ws d → length d.dropped ≤ length ws
cut_length ws d h =
    omega (arith, ap length h.whole, length-append d.dropped (option_to_list d.given ++ d.rest))

pub dropped_within : (d : Discipline) (now : ℕ) (c : CodelState) (ws : List (Queued ℕ)) →
    length (dequeue d now c ws).dropped ≤ most_of d (length ws)
dropped_within d now c ws = go (may_drop d) refl
  where
    go : (b : Bool) → may_drop d ≡ b → length (dequeue d now c ws).dropped ≤ (if b then length ws else 0)
    go true e = cut_length ws (dequeue d now c ws) (dequeue-cut d now c ws)
    go false e = omega (arith, ap length (none_dropped d now c ws e))

-- there is room for what is dropped: nothing where that is known
pub room_known : (plain : Bool) (room most dropped : ℕ) → (plain ≡ false → room ≡ most) → (IsTrue plain → dropped ≡ 0) →
    dropped ≤ most → dropped ≤ room
room_known true room most dropped is none le = let e : dropped ≡ 0 = none refl in omega (arith, e)
room_known false room most dropped is none le = let e : room ≡ most = is refl in omega (arith, e, le)

abbrev items : List (Queued ℕ) → List ℕ
items ws = map (λ w. w.item) ws

-- the key that was served is named
key_uses : (busy : Option (InService ℕ)) (key : ℕ) → option_map (λ s. s.item) busy ≡ Some key →
    uses key (option_to_list (option_map (λ s. s.item) busy)) ≡ 1
key_uses None key e = absurd (cc)
key_uses (Some s) key e =
    let same : s.item ≡ key = cc in
    omega (arith, total-one (one_at key) s.item, ap (one_at key) same, one_at-same key)

pub served_found : (p : Pocket) (i : KeyedInstance) (key : ℕ) → AreNamed p (keys_in i) →
    option_map (λ s. s.item) i.service.busy ≡ Some key → p.find key ≡ None → ⊥
served_found p i key n served none =
    omega (
      arith,
      n.each key,
      key_uses i.service.busy key served,
      total-three (one_at key) (map (λ x. x.item) i.delay_line.line.in_flight) (option_to_list (option_map (λ s. s.item) i.service.busy)) (items i.queue.waiting),
      ap found none,
    )

-- what is dropped is named
pub dropped_named : (p : Pocket) (now delay key : ℕ) (dropped : List (Queued ℕ)) (i j : KeyedInstance) → AreNamed p (keys_in i) →
    IsFinish now delay key dropped i j → AreNamed p (items dropped)
dropped_named p now delay key dropped i j n h = record {
  each = λ k. omega (arith, n.each k, h.keys (one_at k));
  within = omega (arith, n.within, h.keys one, total-length (keys_in i), total-length (items dropped));
}

drops-seen : (f : ℕ → Packet) (ws : List (Queued ℕ)) → codel_drops (map (seen_waiting f) ws) ≡ drops_by_codel (map f (items ws))
drops-seen f [] = refl
drops-seen f (w ∷ ws) = ap (λ (l : List Drop). record { packet = f w.item; cause = Codel } ∷ l) (drops-seen f ws)

served-packet : (f : ℕ → Packet) (busy : Option (InService ℕ)) (key : ℕ) → option_map (λ s. s.item) busy ≡ Some key →
    option_map (λ s. s.item) (option_map (seen_service f) busy) ≡ Some (f key)
served-packet f None key e = absurd (cc)
served-packet f (Some s) key e = let same : s.item ≡ key = cc in ap (λ k. Some (f k)) same

abbrev slot : FlowId → KeyedInstance → Slot
slot id i = record { id = id; instance = i }

pub finish-is : (config : PipeConfig) (now key : ℕ) (dropped : List (Queued ℕ)) (packet : Packet) (drops : List Packet) (p q : Pocket) (id : FlowId) (i j : KeyedInstance) →
    IsFinish now config.delay key dropped i j → IsTuned config i → Some packet ≡ p.find key →
    Taking p q (items dropped) [] [] drops → Finishes config now packet drops p q (slot id i) (slot id j)
finish-is config now key dropped packet drops p q id i j h tuned value t =
    let f : ℕ → Packet = packet_at p.find in
    record {
      served =
          served-packet f i.service.busy key h.served
          ∙ ap (λ o. Some (unwrap_or o some_packet)) (sym value);
      shown =
          h.shown f id config tuned refl
          ∙ (λ t. record { state = seen_slot f (slot id j); dropped = drops-seen f dropped t })
          ∙ (λ m. record { state = seen_slot f (slot id j); dropped = drops_by_codel (sym (all_came p q (items dropped) [] drops t) m) });
      keys = Keeps-taken p q (items dropped) (keys_in i) (keys_in j) (all_taken p q (items dropped) [] drops t) h.keys;
      stays = (all_taken p q (items dropped) [] drops t).stays;
      place = record {
        id = refl;
        limit = h.setting.limit;
        discipline = h.setting.discipline;
        bw = h.setting.bw;
        seed = ap (λ d. d.seed) h.setting.draws;
        pipe = ap (λ d. d.pipe) h.setting.draws;
        number = ap (λ d. d.instance) h.setting.draws;
      };
      count = omega (
        arith,
        (all_taken p q (items dropped) [] drops t).count,
        ap length (all_came p q (items dropped) [] drops t),
        length-map (items dropped) (packet_at p.find),
      );
    }
