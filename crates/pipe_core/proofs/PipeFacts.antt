-- One instance of a pipe changes.
use Rattle.std.proofs.Common.{◌≡◌, ℕ, zero, suc, ◌+◌, ◌<◌, ◌≤◌, refl, sym, ap, ◌∙◌, subst, List, [], ◌∷◌, ◌++◌, map, length, Option, Some, None, IsSome, take, drop, get_or, set, add-one, append-nil, arith}
use Rattle.std.specs.Prelude.{slice_get, unwrap_or, option_map, option_to_list, is_some, flat_map}
use Rattle.std.specs.Option.{option_map_or}
use Rattle.std.specs.List.{All}
use Rattle.std.proofs.Math.Seq.{take-suc}
use Rattle.std.proofs.lemmas.List.{take_all, map-append, length-map}
use Rattle.std.proofs.lemmas.List.Elements.{All-nil, All-cons}
use Rattle.emu_model.specs.declared.packets.Packet.{Packet}
use Rattle.emu_model.specs.declared.pipes.PipeConfig.{PipeConfig}
use Rattle.emu_model.specs.declared.records.DropCause.TheVariants.{NoInstance}
use Rattle.emu_model.specs.Lists.{change_at}
use Rattle.emu_model.specs.Delay.{InFlight, first_exit}
use Rattle.emu_model.specs.DropTail.{Queued, bytes_of}
use Rattle.emu_model.specs.Commands.{shown_words}
use Rattle.emu_model.specs.FlowIds.{FlowId, flow_id, instance_of}
use Rattle.emu_model.specs.Loss.{is_lost}
use Rattle.emu_model.specs.Pipes.{InService, Instance, PipeState, After, Drop, no_drop, drop_one, drawn_one, instance_arrive, put_instance, change_one, with_instance, draw, arrive_at, pipe_arrive, instance_configure, held_in, pipe_packets}
use Rattle.packet_store.specs.Pocket.{Pocket}
use Rattle.pipe_core.specs.Uses.{total, uses, one_at, one}
use Rattle.pipe_core.specs.KeyedInstance.{seen_waiting, seen_leaving, seen_service, keys_in, IsTuned}
use Rattle.pipe_core.proofs.Dequeues.{bytes-seen}
use Rattle.pipe_core.proofs.Shows.{seen_instance-agree, configure-shown, configure-keys}
use Rattle.pipe_core.proofs.UseCounts.{total-nil, total-append, total-length}
use Rattle.pipe_core.specs.declared.slot.Slot.{Slot}
use Rattle.pipe_core.specs.Moves.{packet_at, some_packet, AreNamed, Keeps}
use Rattle.pipe_core.specs.Keyed.{KeyedPipe, seen_slot, seen_pipe, view, shown_of, ids_of, keys_of, IsSlot, AreSlots, IsPipe}
use Rattle.pipe_core.specs.Steps.{IsSamePlace, configured_slot}
use Rattle.pipe_core.proofs.KeyMoves.{found-some, Keeps-part, AreNamed-part}

-- a list at a place
pub slice_get-at : {A B : Type 0} (h : A → B) (before : List A) (x : A) (behind : List A) →
    slice_get (map h (before ++ x ∷ behind)) (length before) ≡ Some (h x)
slice_get-at h [] x behind = refl
slice_get-at h (b ∷ before) x behind = slice_get-at h before x behind

change_at-at : {A B : Type 0} (h : A → B) (before : List A) (x y : A) (behind : List A) →
    change_at (length before) (λ i. h y) (map h (before ++ x ∷ behind)) ≡ map h (before ++ y ∷ behind)
change_at-at h [] x y behind = refl
change_at-at h (b ∷ before) x y behind = ap (λ l. h b ∷ l) (change_at-at h before x y behind)

pub change_at-with : {A B : Type 0} (h : A → B) (f : B → B) (before : List A) (x y : A) (behind : List A) → h y ≡ f (h x) →
    map h (before ++ y ∷ behind) ≡ change_at (length before) f (map h (before ++ x ∷ behind))
change_at-with h f [] x y behind e = ap (λ b. b ∷ map h behind) e
change_at-with h f (b ∷ before) x y behind e = ap (λ l. h b ∷ l) (change_at-with h f before x y behind e)

-- the keys of all instances
pub keys_of-nil : keys_of [] ≡ []
unfolding keys_of
keys_of-nil = refl

pub keys_of-cons : (s : Slot) (ss : List Slot) → keys_of (s ∷ ss) ≡ keys_in s.instance ++ keys_of ss
unfolding keys_of
keys_of-cons s ss = refl

pub total-slots : (g : ℕ → ℕ) (s : Slot) (ss : List Slot) →
    total g (keys_of (s ∷ ss)) ≡ total g (keys_in s.instance) + total g (keys_of ss)
total-slots g s ss = ap (total g) (keys_of-cons s ss) ∙ total-append g (keys_in s.instance) (keys_of ss)

pub total-split : (g : ℕ → ℕ) (before : List Slot) (x : Slot) (behind : List Slot) →
    total g (keys_of (before ++ x ∷ behind))
    ≡ total g (keys_of before) + total g (keys_in x.instance) + total g (keys_of behind)
total-split g [] x behind = omega (arith, total-slots g x behind, ap (total g) keys_of-nil, total-nil g)
total-split g (b ∷ before) x behind =
    omega (arith, total-slots g b (before ++ x ∷ behind), total-slots g b before, total-split g before x behind)

beside : List Slot → List Slot → (ℕ → ℕ) → ℕ
beside before behind g = total g (keys_of before) + total g (keys_of behind)

split-beside : (before behind : List Slot) (x : Slot) (g : ℕ → ℕ) →
    total g (keys_of (before ++ x ∷ behind)) ≡ total g (keys_in x.instance) + beside before behind g
unfolding beside
split-beside before behind x g = omega (arith, total-split g before x behind)

pub Keeps-lift : (p q : Pocket) (before behind : List Slot) (x y : Slot) → Keeps p q (keys_in x.instance) (keys_in y.instance) →
    Keeps p q (keys_of (before ++ x ∷ behind)) (keys_of (before ++ y ∷ behind))
Keeps-lift p q before behind x y =
    Keeps-part p q (keys_in x.instance) (keys_in y.instance) (keys_of (before ++ x ∷ behind)) (keys_of (before ++ y ∷ behind))
    (beside before behind) (split-beside before behind x) (split-beside before behind y)

pub AreNamed-at : (p : Pocket) (before behind : List Slot) (x : Slot) →
    AreNamed p (keys_of (before ++ x ∷ behind)) → AreNamed p (keys_in x.instance)
AreNamed-at p before behind x =
    AreNamed-part p (keys_in x.instance) (keys_of (before ++ x ∷ behind)) (beside before behind) (split-beside before behind x)

-- names that agree on a pipe's keys show it alike
pub seen-agree : (f g : ℕ → Packet) (ss : List Slot) → ((k : ℕ) → 0 < uses k (keys_of ss) → g k ≡ f k) →
    map (seen_slot g) ss ≡ map (seen_slot f) ss
seen-agree f g [] same = refl
seen-agree f g (s ∷ ss) same = λ i.
    seen_instance-agree f g s.id s.instance (λ k within. same k (omega (arith, within, total-slots (one_at k) s ss))) i
    ∷ seen-agree f g ss (λ k within. same k (omega (arith, within, total-slots (one_at k) s ss))) i

-- where nothing is taken, what was shown before is shown still
pub view-stays : (p q : Pocket) (pipe : KeyedPipe) → AreNamed p (keys_of pipe.slots) →
    ((k : ℕ) → IsSome (p.find k) → q.find k ≡ p.find k) → view q pipe ≡ view p pipe
view-stays p q pipe n stays =
    λ i. record {
      number = pipe.number;
      config = pipe.config;
      instances = seen-agree (packet_at p.find) (packet_at q.find) pipe.slots
          (λ k within. ap (λ o. unwrap_or o some_packet) (stays k (found-some (p.find k) (omega (arith, within, n.each k))))) i;
    }

-- the invariant, where one instance changed
IsSlot-same : (config : PipeConfig) (seed number k : ℕ) (x y : Slot) → IsSamePlace x y → IsSlot config seed number k x → IsSlot config seed number k y
IsSlot-same config seed number k x y same s = record {
  tuned = record {
    limit = same.limit ∙ s.tuned.limit;
    discipline = same.discipline ∙ s.tuned.discipline;
    bw = same.bw ∙ s.tuned.bw;
  };
  seed_is = same.seed ∙ s.seed_is;
  pipe_is = same.pipe ∙ s.pipe_is;
  number_is = same.number ∙ s.number_is;
}

AreSlots-change : (config : PipeConfig) (seed number k : ℕ) (before behind : List Slot) (x y : Slot) → IsSamePlace x y →
    AreSlots config seed number k (before ++ x ∷ behind) → AreSlots config seed number k (before ++ y ∷ behind)
unfolding AreSlots
AreSlots-change config seed number k [] behind x y same a = (IsSlot-same config seed number k x y same a.0, a.1)
AreSlots-change config seed number k (b ∷ before) behind x y same a =
    (a.0, AreSlots-change config seed number (k + 1) before behind x y same a.1)

AreSlots-at : (config : PipeConfig) (seed number k : ℕ) (before behind : List Slot) (x : Slot) →
    AreSlots config seed number k (before ++ x ∷ behind) → IsSlot config seed number (k + length before) x
unfolding AreSlots
AreSlots-at config seed number k [] behind x a =
    let here : k ≡ k + 0 = omega arith in subst (λ j. IsSlot config seed number j x) here a.0
AreSlots-at config seed number k (b ∷ before) behind x a =
    let here : (k + 1) + length before ≡ k + suc (length before) = omega arith in
    subst (λ j. IsSlot config seed number j x) here (AreSlots-at config seed number (k + 1) before behind x a.1)

pub ids-change : (before behind : List Slot) (x y : Slot) → y.id ≡ x.id → ids_of (before ++ y ∷ behind) ≡ ids_of (before ++ x ∷ behind)
ids-change [] behind x y e = ap (λ i. i ∷ ids_of behind) e
ids-change (b ∷ before) behind x y e = ap (λ l. b.id ∷ l) (ids-change before behind x y e)

pub length-change : (before behind : List Slot) (x y : Slot) → length (before ++ y ∷ behind) ≡ length (before ++ x ∷ behind)
length-change [] behind x y = refl
length-change (b ∷ before) behind x y = ap suc (length-change before behind x y)

pub IsPipe-change : (config : PipeConfig) (seed number : ℕ) (ids : List FlowId) (before behind : List Slot) (x y : Slot) → IsSamePlace x y →
    IsPipe config seed number ids (before ++ x ∷ behind) → IsPipe config seed number ids (before ++ y ∷ behind)
IsPipe-change config seed number ids before behind x y same p = record {
  ids_are = p.ids_are ∙ sym (ids-change before behind x y same.id);
  few = omega (arith, p.few, length-change before behind x y);
  slots_are = AreSlots-change config seed number 0 before behind x y same p.slots_are;
}

pub IsPipe-at : (config : PipeConfig) (seed number : ℕ) (ids : List FlowId) (before behind : List Slot) (x : Slot) →
    IsPipe config seed number ids (before ++ x ∷ behind) → IsSlot config seed number (length before) x
IsPipe-at config seed number ids before behind x p =
    let here : 0 + length before ≡ length before = omega arith in
    subst (λ j. IsSlot config seed number j x) here (AreSlots-at config seed number 0 before behind x p.slots_are)

-- what the definition does to instance k, where the code changed it so
pub changed : (f : ℕ → Packet) (pipe : KeyedPipe) (k : ℕ) (before behind : List Slot) (x y : Slot) (turn : Instance → After Instance) (drops : List Drop) →
    pipe.slots ≡ before ++ x ∷ behind → k ≡ length before → turn (seen_slot f x) ≡ record { state = seen_slot f y; dropped = drops } →
    change_one k turn (seen_pipe f pipe) ≡ record { state = seen_pipe f (record pipe { slots = before ++ y ∷ behind }); dropped = drops }
changed f pipe k before behind x y turn drops was place did =
    let shown : PipeState = seen_pipe f (record pipe { slots = before ++ x ∷ behind }) in
    (λ i. change_one (place i) turn (seen_pipe f (record pipe { slots = was i })))
    ∙ ap (λ o. option_map_or (λ j. put_instance (length before) shown (turn j)) o (no_drop shown)) (slice_get-at (seen_slot f) before x behind)
    ∙ ap (put_instance (length before) shown) did
    ∙ (λ i. record { state = record shown { instances = change_at-at (seen_slot f) before x y behind i }; dropped = drops })

pub ids-seen : (f : ℕ → Packet) (slots : List Slot) → map (λ i. i.id) (map (seen_slot f) slots) ≡ ids_of slots
ids-seen f [] = refl
ids-seen f (s ∷ ss) = ap (λ l. s.id ∷ l) (ids-seen f ss)

-- the arrival at a pipe that has no instance for the packet
pub arrive-nowhere : (f : ℕ → Packet) (seed now : ℕ) (packet : Packet) (old : KeyedPipe) →
    instance_of (ids_of old.slots) (flow_id old.config.mask packet) ≡ None →
    pipe_arrive seed now packet (seen_pipe f old) ≡ drop_one (seen_pipe f old) packet NoInstance
arrive-nowhere f seed now packet old none =
    ap (λ o. option_map_or (arrive_at seed now packet (seen_pipe f old)) o (drop_one (seen_pipe f old) packet NoInstance))
    (ap (λ ids. instance_of ids (flow_id old.config.mask packet)) (ids-seen f old.slots) ∙ none)

-- and at one that has it, once it is made
pub arrive-there : (f : ℕ → Packet) (now : ℕ) (packet : Packet) (old mid : KeyedPipe) (k : ℕ) (before behind : List Slot) (x y : Slot) (drops : List Drop) →
    instance_of (ids_of old.slots) (flow_id old.config.mask packet) ≡ Some k →
    with_instance (flow_id old.config.mask packet) k (seen_pipe f old) ≡ seen_pipe f mid →
    mid.number ≡ old.number → mid.config ≡ old.config → mid.slots ≡ before ++ x ∷ behind → k ≡ length before →
    IsSlot old.config old.seed old.number k x →
    (let d = x.instance.draws in
    instance_arrive old.config now packet (is_lost d.seed d.pipe d.instance d.drawn old.config.plr) (drawn_one (seen_slot f x)))
    ≡ record { state = seen_slot f y; dropped = drops } →
    pipe_arrive old.seed now packet (seen_pipe f old)
    ≡ record { state = seen_pipe f (record mid { slots = before ++ y ∷ behind }); dropped = drops }
arrive-there f now packet old mid k before behind x y drops there made number config was place slot did =
    let shown : PipeState = seen_pipe f old in
    let turn : Instance → After Instance =
    λ (i : Instance). instance_arrive old.config now packet (draw old.seed shown k i) (drawn_one i) in
    ap (λ o. option_map_or (arrive_at old.seed now packet shown) o (drop_one shown packet NoInstance))
    (ap (λ ids. instance_of ids (flow_id old.config.mask packet)) (ids-seen f old.slots) ∙ there)
    ∙ ap (change_one k turn) made
    ∙ changed f mid k before behind x y turn drops was place
    ((λ i. instance_arrive old.config now packet
    (is_lost (sym slot.seed_is i) (sym slot.pipe_is i) (sym slot.number_is i) x.instance.draws.drawn old.config.plr) (drawn_one (seen_slot f x))) ∙ did)

-- where nothing is put, what is there still was there before
pub view-left : (p q : Pocket) (pipe : KeyedPipe) → AreNamed q (keys_of pipe.slots) →
    ((k : ℕ) → IsSome (q.find k) → q.find k ≡ p.find k) → view q pipe ≡ view p pipe
view-left p q pipe n stays =
    λ i. record {
      number = pipe.number;
      config = pipe.config;
      instances = seen-agree (packet_at p.find) (packet_at q.find) pipe.slots
          (λ k within. ap (λ o. unwrap_or o some_packet) (stays k (found-some (q.find k) (omega (arith, within, n.each k))))) i;
    }

-- a pipe without instances
pub IsPipe-none : (config : PipeConfig) (seed number : ℕ) (ids : List FlowId) (slots : List Slot) → ids ≡ [] → slots ≡ [] →
    IsPipe config seed number ids slots
unfolding AreSlots
IsPipe-none config seed number ids slots e f =
    rw (e, f) (record { ids_are = refl; few = omega arith; slots_are = tt })

pub first_exit-seen : (f : ℕ → Packet) (in_flight : List (InFlight ℕ)) → first_exit (map (seen_leaving f) in_flight) ≡ first_exit in_flight
first_exit-seen f [] = refl
first_exit-seen f (x ∷ xs) = refl

pub finish-seen : (f : ℕ → Packet) (busy : Option (InService ℕ)) →
    option_map (λ s. s.period.finish) (option_map (seen_service f) busy) ≡ option_map (λ s. s.period.finish) busy
finish-seen f None = refl
finish-seen f (Some s) = refl

pub is_some-seen : (f : ℕ → Packet) (busy : Option (InService ℕ)) → is_some (option_map (seen_service f) busy) ≡ is_some busy
is_some-seen f None = refl
is_some-seen f (Some s) = refl

-- the numbers of an instance are those of the one that it shows
pub numbers-seen : (f : ℕ → Packet) (s : Slot) → shown_of (seen_slot f s) ≡ record {
  waiting = length s.instance.queue.waiting;
  bytes = bytes_of s.instance.queue.waiting;
  busy = is_some s.instance.service.busy;
  in_flight = length s.instance.delay_line.line.in_flight;
  drawn = shown_words s.instance.draws.drawn;
}
numbers-seen f s = λ i. record {
  waiting = length-map s.instance.queue.waiting (seen_waiting f) i;
  bytes = bytes-seen f s.instance.queue.waiting i;
  busy = is_some-seen f s.instance.service.busy i;
  in_flight = length-map s.instance.delay_line.line.in_flight (seen_leaving f) i;
  drawn = shown_words s.instance.draws.drawn;
}

-- an instance that shows the same, with the same keys
pub map-change : {A B : Type 0} (h : A → B) (before behind : List A) (x y : A) → h y ≡ h x →
    map h (before ++ y ∷ behind) ≡ map h (before ++ x ∷ behind)
map-change h [] behind x y e = ap (λ b. b ∷ map h behind) e
map-change h (b ∷ before) behind x y e = ap (λ l. h b ∷ l) (map-change h before behind x y e)

pub keys-change : (before behind : List Slot) (x y : Slot) → keys_in y.instance ≡ keys_in x.instance →
    keys_of (before ++ y ∷ behind) ≡ keys_of (before ++ x ∷ behind)
keys-change [] behind x y e = keys_of-cons y behind ∙ ap (λ l. l ++ keys_of behind) e ∙ sym (keys_of-cons x behind)
keys-change (b ∷ before) behind x y e =
    keys_of-cons b (before ++ y ∷ behind) ∙ ap (λ l. keys_in b.instance ++ l) (keys-change before behind x y e)
    ∙ sym (keys_of-cons b (before ++ x ∷ behind))

-- what a pipe is shown to hold is what its keys name
items-seen : (f : ℕ → Packet) (ws : List (Queued ℕ)) → map (λ w. w.item) (map (seen_waiting f) ws) ≡ map f (map (λ w. w.item) ws)
items-seen f [] = refl
items-seen f (w ∷ ws) = ap (λ l. f w.item ∷ l) (items-seen f ws)

line-seen : (f : ℕ → Packet) (xs : List (InFlight ℕ)) → map (λ x. x.item) (map (seen_leaving f) xs) ≡ map f (map (λ x. x.item) xs)
line-seen f [] = refl
line-seen f (x ∷ xs) = ap (λ l. f x.item ∷ l) (line-seen f xs)

served-seen : (f : ℕ → Packet) (busy : Option (InService ℕ)) →
    option_to_list (option_map (λ s. s.item) (option_map (seen_service f) busy)) ≡ map f (option_to_list (option_map (λ s. s.item) busy))
served-seen f None = refl
served-seen f (Some s) = refl

instance-packets : (f : ℕ → Packet) (s : Slot) → held_in (seen_slot f s) ≡ map f (keys_in s.instance)
instance-packets f s =
    let in_flight : List ℕ = map (λ x. x.item) s.instance.delay_line.line.in_flight in
    let served : List ℕ = option_to_list (option_map (λ t. t.item) s.instance.service.busy) in
    let ws : List ℕ = map (λ w. w.item) s.instance.queue.waiting in
    (λ i. line-seen f s.instance.delay_line.line.in_flight i ++ served-seen f s.instance.service.busy i ++ items-seen f s.instance.queue.waiting i)
    ∙ (λ i. sym (map-append f in_flight served) i ++ map f ws)
    ∙ sym (map-append f (in_flight ++ served) ws)

packets-by : (f : ℕ → Packet) (ss : List Slot) → flat_map held_in (map (seen_slot f) ss) ≡ map f (keys_of ss)
packets-by f [] = ap (map f) (sym keys_of-nil)
packets-by f (s ∷ ss) =
    (λ i. instance-packets f s i ++ packets-by f ss i)
    ∙ sym (map-append f (keys_in s.instance) (keys_of ss))
    ∙ ap (map f) (sym (keys_of-cons s ss))

pub packets-named : (f : ℕ → Packet) (pipe : KeyedPipe) → pipe_packets (seen_pipe f pipe) ≡ map f (keys_of pipe.slots)
packets-named f pipe = packets-by f pipe.slots

pub views-agree : (f g : ℕ → Packet) (pipe : KeyedPipe) → ((k : ℕ) → 0 < uses k (keys_of pipe.slots) → g k ≡ f k) →
    seen_pipe g pipe ≡ seen_pipe f pipe
views-agree f g pipe same =
    λ i. record { number = pipe.number; config = pipe.config; instances = seen-agree f g pipe.slots same i }

-- configured anew, instance by instance
pub configured-seen : (f : ℕ → Packet) (old new : PipeConfig) (ss : List Slot) →
    map (seen_slot f) (map (configured_slot old new) ss) ≡ map (instance_configure old new) (map (seen_slot f) ss)
configured-seen f old new [] = refl
configured-seen f old new (s ∷ ss) = λ i. configure-shown f s.id old new s.instance i ∷ configured-seen f old new ss i

pub configured-keys : (old new : PipeConfig) (ss : List Slot) → keys_of (map (configured_slot old new) ss) ≡ keys_of ss
configured-keys old new [] = refl
configured-keys old new (s ∷ ss) =
    keys_of-cons (configured_slot old new s) (map (configured_slot old new) ss)
    ∙ (λ i. configure-keys old new s.instance i ++ configured-keys old new ss i)
    ∙ sym (keys_of-cons s ss)

configured-ids : (old new : PipeConfig) (ss : List Slot) → ids_of (map (configured_slot old new) ss) ≡ ids_of ss
configured-ids old new [] = refl
configured-ids old new (s ∷ ss) = ap (λ l. s.id ∷ l) (configured-ids old new ss)

configured-slots : (old new : PipeConfig) (seed number k : ℕ) (ss : List Slot) →
    AreSlots old seed number k ss → AreSlots new seed number k (map (configured_slot old new) ss)
unfolding AreSlots
configured-slots old new seed number k [] a = tt
configured-slots old new seed number k (s ∷ ss) a = (
  record {
    tuned = record { limit = refl; discipline = refl; bw = refl };
    seed_is = a.0.seed_is;
    pipe_is = a.0.pipe_is;
    number_is = a.0.number_is;
  },
  configured-slots old new seed number (k + 1) ss a.1,
)

pub IsPipe-configured : (old new : PipeConfig) (seed number : ℕ) (ids : List FlowId) (ss : List Slot) →
    IsPipe old seed number ids ss → IsPipe new seed number ids (map (configured_slot old new) ss)
IsPipe-configured old new seed number ids ss p = record {
  ids_are = p.ids_are ∙ sym (configured-ids old new ss);
  few = omega (arith, p.few, length-map ss (configured_slot old new));
  slots_are = configured-slots old new seed number 0 ss p.slots_are;
}

slots-tuned : (config : PipeConfig) (seed number k : ℕ) (ss : List Slot) → AreSlots config seed number k ss →
    All (λ s. IsTuned config s.instance) ss
unfolding AreSlots
slots-tuned config seed number k [] a = All-nil (λ (s : Slot). IsTuned config s.instance)
slots-tuned config seed number k (s ∷ ss) a =
    All-cons (λ (t : Slot). IsTuned config t.instance) s ss a.0.tuned (slots-tuned config seed number (k + 1) ss a.1)

pub all-tuned : (config : PipeConfig) (seed number : ℕ) (ids : List FlowId) (ss : List Slot) → IsPipe config seed number ids ss →
    All (λ s. IsTuned config s.instance) ss
all-tuned config seed number ids ss p = slots-tuned config seed number 0 ss p.slots_are

-- how many keys stand in the first instances
pub keys-more : (slots : List Slot) (i : ℕ) (x : Slot) → i < length slots → x ≡ get_or slots i x →
    length (keys_of (take (i + 1) slots)) ≡ length (keys_of (take i slots)) + length (keys_in x.instance)
keys-more slots i x within value =
    let next : take (i + 1) slots ≡ take i slots ++ x ∷ [] =
    ap (λ n. take n slots) (add-one i) ∙ take-suc slots i x within ∙ ap (λ z. take i slots ++ z ∷ []) (sym value) in
    ap (λ ss. length (keys_of ss)) next
    ∙ omega (
      arith,
      total-split one (take i slots) x [],
      total-length (keys_of (take i slots ++ x ∷ [])),
      total-length (keys_of (take i slots)),
      total-length (keys_in x.instance),
      ap (total one) keys_of-nil,
      total-nil one,
    )

-- the first i of a list put through f
abbrev pub done : {A : Type 0} → (A → A) → List A → ℕ → List A
done f xs i = map f (take i xs) ++ drop i xs

pub done-get : {A : Type 0} (f : A → A) (xs : List A) (i : ℕ) (d : A) → get_or (done f xs i) i d ≡ get_or xs i d
done-get f [] zero d = refl
done-get f [] (suc i) d = refl
done-get f (x ∷ xs) zero d = refl
done-get f (x ∷ xs) (suc i) d = done-get f xs i d

pub done-length : {A : Type 0} (f : A → A) (xs : List A) (i : ℕ) → length (done f xs i) ≡ length xs
done-length f [] zero = refl
done-length f [] (suc i) = refl
done-length f (x ∷ xs) zero = refl
done-length f (x ∷ xs) (suc i) = ap suc (done-length f xs i)

pub done-more : {A : Type 0} (f : A → A) (xs : List A) (i : ℕ) (d : A) → i < length xs →
    set (done f xs i) i (f (get_or xs i d)) ≡ done f xs (suc i)
done-more f [] i d within = absurd (omega arith)
done-more f (x ∷ xs) zero d within = refl
done-more f (x ∷ xs) (suc i) d within =
    let less : i < length xs = omega (arith, within) in ap (λ l. f x ∷ l) (done-more f xs i d less)

pub done-all : {A : Type 0} (f : A → A) (xs : List A) → done f xs (length xs) ≡ map f xs
done-all f [] = refl
done-all f (x ∷ xs) = ap (λ l. f x ∷ l) (done-all f xs)

-- the item at a place stands first of those from there on
pub drop_at : {A : Type 0} (xs : List A) (i : ℕ) (x : A) → x ≡ get_or xs i x → i < length xs → drop i xs ≡ x ∷ drop (i + 1) xs
drop_at [] i x value within = absurd (omega arith)
drop_at (y ∷ ys) zero x value within = ap (λ z. z ∷ ys) (sym value)
drop_at (y ∷ ys) (suc i) x value within =
    let less : i < length ys = omega (arith, within) in
    let next : suc (i + 1) ≡ suc i + 1 = omega arith in
    drop_at ys i x value less ∙ ap (λ n. x ∷ drop n (y ∷ ys)) next

pub keys_at : (slots : List Slot) (i : ℕ) (x : Slot) → x ≡ get_or slots i x → i < length slots →
    keys_of (drop i slots) ≡ keys_in x.instance ++ keys_of (drop (i + 1) slots)
keys_at slots i x value within = ap keys_of (drop_at slots i x value within) ∙ keys_of-cons x (drop (i + 1) slots)

drop_end : {A : Type 0} (n : ℕ) (xs : List A) → length xs ≤ n → drop n xs ≡ []
drop_end zero [] within = refl
drop_end (suc n) [] within = refl
drop_end zero (x ∷ xs) within = absurd (omega (arith, within))
drop_end (suc n) (x ∷ xs) within = drop_end n xs (omega (arith, within))

-- a vector whose items were all written
pub written : {A : Type 0} (n : ℕ) (new items : List A) → n ≡ length items → length new ≡ length items →
    take n (new ++ drop (length new) items) ≡ new
written n new items is many =
    ap (take n) (ap (λ l. new ++ l) (drop_end (length new) items (omega arith)) ∙ append-nil new)
    ∙ take_all n new (omega arith)
