-- A move of which a part is done, by instances; and instances that differ in their keys alone.
use Rattle.std.proofs.Common.{◌≡◌, ℕ, ◌+◌, ◌<◌, ◌≤◌, refl, sym, ap, ◌∙◌, subst, List, [], ◌∷◌, ◌++◌, map, length, take, drop, get_or, set, append-nil, append_assoc, arith}
use Rattle.std.proofs.lemmas.List.{length-map, length-append, take-append-drop, take_all, take_more, take_more_set, drop_more, drop-set-lt, map-append, map-set, set-get_or}
use Rattle.emu_model.specs.declared.packets.Packet.{Packet}
use Rattle.emu_model.specs.declared.pipes.PipeConfig.{PipeConfig}
use Rattle.emu_model.specs.FlowIds.{FlowId}
use Rattle.packet_store.specs.Pocket.{Pocket}
use Rattle.pipe_core.specs.KeyedInstance.{keys_in}
use Rattle.pipe_core.specs.Blanks.{blank}
use Rattle.pipe_core.proofs.Blanked.{split_alike, seen_instance-same, keys_in-long}
use Rattle.pipe_core.specs.declared.slot.Slot.{Slot}
use Rattle.pipe_core.specs.Moves.{packet_at, AreNamed}
use Rattle.pipe_core.specs.Keyed.{seen_slot, ids_of, keys_of, IsSlot, AreSlots, IsPipe}
use Rattle.pipe_core.specs.Rehousing.{Rehouses, blank_slot}
use Rattle.pipe_core.proofs.KeyMoves.{AreNamed-after}
use Rattle.pipe_core.proofs.PipeFacts.{keys_of-nil, keys_of-cons}
use Rattle.pipe_core.proofs.Rehousings.{AreNamed-front, Rehouses-none, Rehouses-then}

-- the keys of instances after each other
pub keys_of-append : (xs ys : List Slot) → keys_of (xs ++ ys) ≡ keys_of xs ++ keys_of ys
keys_of-append [] ys = ap (λ l. l ++ keys_of ys) (sym keys_of-nil)
keys_of-append (x ∷ xs) ys =
    keys_of-cons x (xs ++ ys) ∙ ap (λ l. keys_in x.instance ++ l) (keys_of-append xs ys)
    ∙ sym (append_assoc (keys_in x.instance) (keys_of xs) (keys_of ys)) ∙ ap (λ l. l ++ keys_of ys) (sym (keys_of-cons x xs))

keys_of-one : (x : Slot) → keys_of (x ∷ []) ≡ keys_in x.instance
keys_of-one x = keys_of-cons x [] ∙ ap (λ l. keys_in x.instance ++ l) keys_of-nil ∙ append-nil (keys_in x.instance)

keys_of-push : (xs : List Slot) (x : Slot) → keys_of (xs ++ x ∷ []) ≡ keys_of xs ++ keys_in x.instance
keys_of-push xs x = keys_of-append xs (x ∷ []) ∙ ap (λ l. keys_of xs ++ l) (keys_of-one x)

-- of all these instances the first n hold new keys and their packets have moved, and the others are as
-- they were
pub record AreHalf (p q r s : Pocket) (all now : List Slot) (n : ℕ) : Type 0 where
  pub moved : Rehouses p q r s (keys_of (take n all)) (keys_of (take n now))
  pub rest : drop n now ≡ drop n all
  pub blanks : map blank_slot now ≡ map blank_slot all

pub slots_none : (p r : Pocket) (all : List Slot) → AreHalf p p r r all all 0
slots_none p r all = record {
  moved = subst (λ ks. Rehouses p p r r ks ks) (sym keys_of-nil) (Rehouses-none p r);
  rest = refl;
  blanks = refl;
}

pub blank-long : (all now : List Slot) → map blank_slot now ≡ map blank_slot all → length now ≡ length all
blank-long all now same = omega (arith, ap length same, length-map now blank_slot, length-map all blank_slot)

-- the next instance, in the list as it was
record IsNext (all now : List Slot) (n : ℕ) (x : Slot) : Type 0 where
  pub front : keys_of (take (n + 1) all) ≡ keys_of (take n all) ++ keys_in x.instance
  pub back : keys_of (drop n all) ≡ keys_in x.instance ++ keys_of (drop (n + 1) all)
  pub rest : drop (n + 1) now ≡ drop (n + 1) all
  pub here : n < length now

next : (p q r s : Pocket) (all now : List Slot) (n : ℕ) (x : Slot) → n < length all → x ≡ get_or now n x → AreHalf p q r s all now n →
    IsNext all now n x
next p q r s all now n x within value h =
    let here : n < length now = omega (arith, within, blank-long all now h.blanks) in
    let both : get_or now n x ∷ drop (n + 1) now ≡ get_or all n x ∷ drop (n + 1) all =
    sym (drop_more now n x here) ∙ h.rest ∙ drop_more all n x within in
    let first : get_or now n x ≡ get_or all n x = cc in
    let rest : drop (n + 1) now ≡ drop (n + 1) all = cc in
    let same : get_or all n x ≡ x = sym (value ∙ first) in
    record {
      front = ap keys_of (take_more all n x within ∙ ap (λ y. take n all ++ y ∷ []) same) ∙ keys_of-push (take n all) x;
      back = ap keys_of (drop_more all n x within ∙ ap (λ y. y ∷ drop (n + 1) all) same) ∙ keys_of-cons x (drop (n + 1) all);
      rest = rest;
      here = here;
    }

-- what is named by instances is named by the first of them and the others
apart_at : (p : Pocket) (all : List Slot) (n : ℕ) → AreNamed p (keys_of all) → AreNamed p (keys_of (take n all) ++ keys_of (drop n all))
apart_at p all n named =
    subst (AreNamed p) (ap keys_of (sym (take-append-drop n all)) ∙ keys_of-append (take n all) (drop n all)) named

pub slots_named : (p q r s : Pocket) (all now : List Slot) (n : ℕ) (x : Slot) → AreNamed p (keys_of all) → n < length all → x ≡ get_or now n x →
    AreHalf p q r s all now n → AreNamed q (keys_in x.instance)
slots_named p q r s all now n x named within value h =
    let i : IsNext all now n x = next p q r s all now n x within value h in
    let left : AreNamed q (keys_of (drop n all)) =
    AreNamed-after p q (keys_of (take n all)) (keys_of (drop n all)) (apart_at p all n named) h.moved.takes in
    AreNamed-front q (keys_in x.instance) (keys_of (drop (n + 1) all)) (subst (AreNamed q) i.back left)

-- how many keys are left
pub slots_left : (p q r s : Pocket) (all now : List Slot) (n : ℕ) (x : Slot) → n < length all → x ≡ get_or now n x →
    AreHalf p q r s all now n →
    length (keys_of all) ≡ length (keys_of (take n all)) + length (keys_in x.instance) + length (keys_of (drop (n + 1) all))
slots_left p q r s all now n x within value h =
    let i : IsNext all now n x = next p q r s all now n x within value h in
    let whole : keys_of all ≡ keys_of (take n all) ++ keys_of (drop n all) =
    ap keys_of (sym (take-append-drop n all)) ∙ keys_of-append (take n all) (drop n all) in
    omega (
      arith,
      ap length whole,
      length-append (keys_of (take n all)) (keys_of (drop n all)),
      ap length i.back,
      length-append (keys_in x.instance) (keys_of (drop (n + 1) all)),
    )

-- how many packets have come
pub slots_count : (p q r s : Pocket) (all now : List Slot) (n : ℕ) → AreHalf p q r s all now n →
    s.count ≡ r.count + length (keys_of (take n all))
slots_count p q r s all now n h = omega (
  arith,
  h.moved.gives.count,
  ap length h.moved.same,
  length-map (keys_of (take n now)) (packet_at s.find),
  length-map (keys_of (take n all)) (packet_at p.find),
)

-- one more instance has moved
pub slots_more : (p q r s : Pocket) (all now : List Slot) (n : ℕ) (x : Slot) → n < length all → x ≡ get_or now n x →
    AreHalf p q r s all now n →
    length (keys_of (take (n + 1) all)) ≡ length (keys_of (take n all)) + length (keys_in x.instance)
slots_more p q r s all now n x within value h =
    let i : IsNext all now n x = next p q r s all now n x within value h in
    omega (arith, ap length i.front, length-append (keys_of (take n all)) (keys_in x.instance))

blanks-set : (all now : List Slot) (n : ℕ) (x y : Slot) → x ≡ get_or now n x → blank_slot y ≡ blank_slot x →
    map blank_slot (set now n y) ≡ map blank_slot now
blanks-set all now n x y value same =
    map-set blank_slot now n y ∙ ap (λ (b : Slot). set (map blank_slot now) n b) same ∙ sym (map-set blank_slot now n x)
    ∙ ap (λ z. map blank_slot (set now n z)) value ∙ ap (map blank_slot) (set-get_or now n x)

pub slots_next : (p q t r s u : Pocket) (all now : List Slot) (n : ℕ) (x y : Slot) → AreNamed p (keys_of all) → n < length all → x ≡ get_or now n x →
    AreHalf p q r s all now n → Rehouses q t s u (keys_in x.instance) (keys_in y.instance) → blank_slot y ≡ blank_slot x →
    AreHalf p t r u all (set now n y) (n + 1)
slots_next p q t r s u all now n x y named within value h one same =
    let i : IsNext all now n x = next p q r s all now n x within value h in
    let whole : AreNamed p (keys_of (take (n + 1) all)) =
    AreNamed-front p (keys_of (take (n + 1) all)) (keys_of (drop (n + 1) all)) (apart_at p all (n + 1) named) in
    let both : Rehouses p t r u (keys_of (take n all) ++ keys_in x.instance) (keys_of (take n now) ++ keys_in y.instance) =
    Rehouses-then p q t r s u (keys_of (take n all)) (keys_in x.instance) (keys_of (take n now)) (keys_in y.instance)
    (subst (AreNamed p) i.front whole) h.moved one in
    let new : keys_of (take (n + 1) (set now n y)) ≡ keys_of (take n now) ++ keys_in y.instance =
    ap keys_of (take_more_set now n y i.here) ∙ keys_of-push (take n now) y in
    record {
      moved =
          subst (λ ks. Rehouses p t r u ks (keys_of (take (n + 1) (set now n y)))) (sym i.front)
          (subst (λ ks. Rehouses p t r u (keys_of (take n all) ++ keys_in x.instance) ks) (sym new) both);
      rest = drop-set-lt (n + 1) now n y (omega arith) ∙ i.rest;
      blanks = blanks-set all now n x y value same ∙ h.blanks;
    }

pub slots_all : (p q r s : Pocket) (all now : List Slot) (n : ℕ) → length all ≤ n → AreHalf p q r s all now n →
    Rehouses p q r s (keys_of all) (keys_of now)
slots_all p q r s all now n last h =
    let long : length now ≡ length all = blank-long all now h.blanks in
    subst (λ ss. Rehouses p q r s (keys_of ss) (keys_of now)) (take_all n all last)
    (subst (λ ss. Rehouses p q r s (keys_of (take n all)) (keys_of ss)) (take_all n now (omega (arith, last, long))) h.moved)

-- instances that differ in their keys alone show the same, where they name the same
pub slots-shown : (f g : ℕ → Packet) (xs ys : List Slot) → map blank_slot ys ≡ map blank_slot xs → map g (keys_of ys) ≡ map f (keys_of xs) →
    map (seen_slot g) ys ≡ map (seen_slot f) xs
slots-shown f g [] [] same shown = refl
slots-shown f g [] (y ∷ ys) same shown = absurd (cc)
slots-shown f g (x ∷ xs) [] same shown = absurd (cc)
slots-shown f g (x ∷ xs) (y ∷ ys) same shown =
    let head : blank_slot y ≡ blank_slot x = cc in
    let rest : map blank_slot ys ≡ map blank_slot xs = cc in
    let beside : blank y.instance ≡ blank x.instance = ap (λ (s : Slot). s.instance) head in
    let apart : map g (keys_in y.instance) ++ map g (keys_of ys) ≡ map f (keys_in x.instance) ++ map f (keys_of xs) =
    sym (map-append g (keys_in y.instance) (keys_of ys)) ∙ ap (map g) (sym (keys_of-cons y ys)) ∙ shown ∙ ap (map f) (keys_of-cons x xs)
    ∙ map-append f (keys_in x.instance) (keys_of xs) in
    let parts = split_alike (map f (keys_in x.instance)) (map f (keys_of xs)) (map g (keys_in y.instance)) (map g (keys_of ys))
    (omega (arith, keys_in-long x.instance y.instance beside, length-map (keys_in y.instance) g, length-map (keys_in x.instance) f)) apart in
    let first : seen_slot g y ≡ seen_slot f x =
    seen_instance-same f g y.id x.instance y.instance beside parts.0 ∙ ap (λ (s : Slot). seen_slot f (record { id = s.id; instance = x.instance })) head in
    λ i. first i ∷ slots-shown f g xs ys rest parts.1 i

-- and are the same pipe
ids-blank : (xs ys : List Slot) → map blank_slot ys ≡ map blank_slot xs → ids_of ys ≡ ids_of xs
ids-blank [] [] same = refl
ids-blank [] (y ∷ ys) same = absurd (cc)
ids-blank (x ∷ xs) [] same = absurd (cc)
ids-blank (x ∷ xs) (y ∷ ys) same =
    let head : blank_slot y ≡ blank_slot x = cc in
    let rest : map blank_slot ys ≡ map blank_slot xs = cc in
    λ i. (head i).id ∷ ids-blank xs ys rest i

slot-blank : (config : PipeConfig) (seed number k : ℕ) (x y : Slot) → blank_slot y ≡ blank_slot x → IsSlot config seed number k x → IsSlot config seed number k y
slot-blank config seed number k x y e s = record {
  tuned = record {
    limit = ap (λ (t : Slot). t.instance.queue.limit) e ∙ s.tuned.limit;
    discipline = ap (λ (t : Slot). t.instance.queue.discipline) e ∙ s.tuned.discipline;
    bw = ap (λ (t : Slot). t.instance.service.bw) e ∙ s.tuned.bw;
  };
  seed_is = ap (λ (t : Slot). t.instance.draws.seed) e ∙ s.seed_is;
  pipe_is = ap (λ (t : Slot). t.instance.draws.pipe) e ∙ s.pipe_is;
  number_is = ap (λ (t : Slot). t.instance.draws.instance) e ∙ s.number_is;
}

slots-blank : (config : PipeConfig) (seed number k : ℕ) (xs ys : List Slot) → map blank_slot ys ≡ map blank_slot xs →
    AreSlots config seed number k xs → AreSlots config seed number k ys
unfolding AreSlots
slots-blank config seed number k [] [] same a = tt
slots-blank config seed number k [] (y ∷ ys) same a = absurd (cc)
slots-blank config seed number k (x ∷ xs) [] same a = absurd (cc)
slots-blank config seed number k (x ∷ xs) (y ∷ ys) same a =
    let head : blank_slot y ≡ blank_slot x = cc in
    let rest : map blank_slot ys ≡ map blank_slot xs = cc in
    (slot-blank config seed number k x y head a.0, slots-blank config seed number (k + 1) xs ys rest a.1)

pub IsPipe-blank : (config : PipeConfig) (seed number : ℕ) (ids : List FlowId) (xs ys : List Slot) → map blank_slot ys ≡ map blank_slot xs →
    IsPipe config seed number ids xs → IsPipe config seed number ids ys
IsPipe-blank config seed number ids xs ys same p = record {
  ids_are = p.ids_are ∙ sym (ids-blank xs ys same);
  few = omega (arith, p.few, blank-long xs ys same);
  slots_are = slots-blank config seed number 0 xs ys same p.slots_are;
}
