-- A packet that leaves an instance.
use Rattle.std.proofs.Common.{◌≡◌, ℕ, refl, sym, ap, ◌∙◌, subst, List, [], ◌∷◌, map, Some, None, arith}
use Rattle.std.specs.Prelude.{unwrap_or}
use Rattle.emu_model.specs.declared.packets.Packet.{Packet}
use Rattle.emu_model.specs.FlowIds.{FlowId}
use Rattle.emu_model.specs.Delay.{InFlight, leave, first_item}
use Rattle.packet_store.specs.Pocket.{Pocket, without}
use Rattle.pipe_core.specs.KeyedInstance.{KeyedInstance, seen_leaving, keys_in}
use Rattle.pipe_core.proofs.UseCounts.{total-cons, total-nil}
use Rattle.pipe_core.specs.declared.slot.Slot.{Slot}
use Rattle.pipe_core.specs.Moves.{some_packet, packet_at, AreNamed}
use Rattle.pipe_core.specs.Steps.{Exits}
use Rattle.pipe_core.proofs.KeyMoves.{Keeps-taken, Takes-first, named_first}

abbrev with_line : KeyedInstance → List (InFlight ℕ) → KeyedInstance
with_line i in_flight = record i { delay_line = record i.delay_line { line = record i.delay_line.line { in_flight = in_flight } } }

abbrev pub left : ℕ → KeyedInstance → KeyedInstance
left spare i = record i { delay_line = record { line = leave i.delay_line.line; spare = spare } }

first-found : (p : Pocket) (i : KeyedInstance) (in_flight : List (InFlight ℕ)) (key : ℕ) →
    AreNamed p (keys_in (with_line i in_flight)) → Some key ≡ first_item in_flight → p.find key ≡ None → ⊥
first-found p i [] key n first none = absurd (cc)
first-found p i (x ∷ xs) key n first none =
    let here : key ≡ x.item = cc in
    named_first p x.item (keys_in (with_line i xs)) n (ap p.find (sym here) ∙ none)

pub exit-found : (p : Pocket) (i : KeyedInstance) (key : ℕ) →
    AreNamed p (keys_in i) → Some key ≡ first_item i.delay_line.line.in_flight → p.find key ≡ None → ⊥
exit-found p i key = first-found p i i.delay_line.line.in_flight key

abbrev slot : FlowId → KeyedInstance → Slot
slot id i = record { id = id; instance = i }

exit-by : (p q : Pocket) (id : FlowId) (i : KeyedInstance) (in_flight : List (InFlight ℕ)) (key spare : ℕ) (packet : Packet) →
    AreNamed p (keys_in (with_line i in_flight)) → Some key ≡ first_item in_flight → Some packet ≡ p.find key → q ≡ without p key →
    Exits (Some packet) p q (slot id (with_line i in_flight)) (slot id (left spare (with_line i in_flight)))
exit-by p q id i [] key spare packet n first value taken = absurd (cc)
exit-by p q id i (x ∷ xs) key spare packet n first value taken =
    let here : key ≡ x.item = cc in
    let keys : List ℕ = keys_in (with_line i xs) in
    record {
      packet = ap (λ o. Some (unwrap_or o some_packet)) (value ∙ ap p.find here);
      shown = λ f. refl;
      keys = Keeps-taken p q (x.item ∷ []) (x.item ∷ keys) keys
          (Takes-first p q x.item keys n (taken ∙ ap (without p) here))
          (λ g. omega (arith, total-cons g x.item keys, total-cons g x.item [], total-nil g));
      stays = (Takes-first p q x.item keys n (taken ∙ ap (without p) here)).stays;
      place = record { id = refl; limit = refl; discipline = refl; bw = refl; seed = refl; pipe = refl; number = refl };
      queue = refl;
      service = refl;
    }

pub exit-is : (p q : Pocket) (id : FlowId) (i j : KeyedInstance) (key spare : ℕ) (packet : Packet) →
    AreNamed p (keys_in i) → Some key ≡ first_item i.delay_line.line.in_flight → Some packet ≡ p.find key → q ≡ without p key →
    j ≡ left spare i → Exits (Some packet) p q (slot id i) (slot id j)
exit-is p q id i j key spare packet n first value taken e =
    subst (λ k. Exits (Some packet) p q (slot id i) (slot id k)) (sym e)
    (exit-by p q id i i.delay_line.line.in_flight key spare packet n first value taken)

front-seen : (p : Pocket) (in_flight : List (InFlight ℕ)) (key : ℕ) (packet : Packet) → Some key ≡ first_item in_flight → Some packet ≡ p.find key →
    Some packet ≡ first_item (map (seen_leaving (packet_at p.find)) in_flight)
front-seen p [] key packet first value = absurd (cc)
front-seen p (x ∷ xs) key packet first value =
    let here : key ≡ x.item = cc in ap (λ o. Some (unwrap_or o some_packet)) (value ∙ ap p.find here)

pub front-is : (p : Pocket) (i : KeyedInstance) (key : ℕ) (packet : Packet) → Some key ≡ first_item i.delay_line.line.in_flight → Some packet ≡ p.find key →
    Some packet ≡ first_item (map (seen_leaving (packet_at p.find)) i.delay_line.line.in_flight)
front-is p i key packet first value = front-seen p i.delay_line.line.in_flight key packet first value
