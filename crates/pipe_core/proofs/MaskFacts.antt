-- Identifiers under a mask, and instances that keep theirs.
use Rattle.std.proofs.Common.{◌≡◌, ℕ, ◌<◌, ◌≤◌, nat_lt, nat_eq, Bool, true, false, cond, refl, sym, ap, ◌∙◌, subst, List, [], ◌∷◌, ◌++◌, length, Option, Some, None, position, arith}
use Rattle.std.specs.Prelude.{unwrap_or, if◌then◌else◌, ◌&&◌, not}
use Rattle.std.specs.List.{All, list_any, position_or_len}
use Rattle.std.specs.Option.{option_map_or}
use Rattle.std.specs.Int.Bits.{and_zero_l}
use Rattle.std.proofs.lemmas.Bool.Decides.{nat_tests}
use Rattle.std.proofs.lemmas.List.{map-append, length-map, length_push, get_or_append_left, length-append}
use Rattle.std.proofs.lemmas.List.Elements.{All-nil, All-head, All-push}
use Rattle.std.proofs.lemmas.List.Quantifiers.{position-Some}
use Rattle.std.proofs.lemmas.Grind.{common_steps}
use Rattle.std.proofs.lemmas.List.Folds.{list_any_none}
use Rattle.std.proofs.lemmas.List.Sums.{position_or_len_is, fails_before_first}
use Rattle.emu_model.specs.declared.packets.Packet.{Packet}
use Rattle.emu_model.specs.declared.pipes.Mask.{Mask}
use Rattle.emu_model.specs.FlowIds.{FlowId, protocol_number, flow_id, same_flow, different, new_instance, instance_of}
use Rattle.pipe_core.specs.declared.slot.Slot.{Slot}
use Rattle.pipe_core.specs.Keyed.{KeyedPipe, ids_of}
use Rattle.pipe_core.specs.Steps.{HasRoomAtSlot, HasRoomAt, HasInstance}
use Rattle.pipe_core.specs.Masks.{IsUnder, IsZero, IsMasked, KeepsIds}
use Rattle.pipe_core.proofs.Makings.{known, made_next}

abbrev nothing : FlowId
nothing = record { proto = 0; src = 0; dst = 0; sport = 0; dport = 0 }

under-zero : (mask : Mask) (id : FlowId) → IsZero mask → IsUnder mask id → id ≡ nothing
under-zero mask id z u =
    u.1
    ∙ (λ t. flow_id (record { proto = z.0 t; src = z.1 t; dst = z.2 t; sport = z.3 t; dport = z.4 t }) u.0)
    ∙ (λ t. record {
      proto = and_zero_l (protocol_number u.0.proto) t;
      src = and_zero_l u.0.src t;
      dst = and_zero_l u.0.dst t;
      sport = and_zero_l u.0.sport t;
      dport = and_zero_l u.0.dport t;
    })

-- where all packets have one identifier, the only instance is that of each
pub only-first : (unmasked : Bool) (mask : Mask) (ids : List FlowId) (id : FlowId) → IsMasked unmasked mask ids →
    unmasked ≡ true → length ids ≡ 1 → IsUnder mask id → position (same_flow id) ids ≡ Some 0
only-first unmasked mask [] id m all one u = absurd (omega (arith, one))
only-first unmasked mask (i ∷ []) id m all one u =
    let z : IsZero mask = m.zero all in
    let first : i ≡ nothing = under-zero mask i z (All-head (IsUnder mask) i [] m.each) in
    λ t. position (same_flow (under-zero mask id z u t)) (first t ∷ [])
only-first unmasked mask (i ∷ j ∷ is) id m all one u = absurd (omega (arith, one))

-- the invariant, without instances, and with one more
pub masked-none : (unmasked : Bool) (mask : Mask) (ids : List FlowId) → (unmasked ≡ true → IsZero mask) → ids ≡ [] →
    IsMasked unmasked mask ids
masked-none unmasked mask ids z none = record {
  zero = z;
  each = subst (All (IsUnder mask)) (sym none) (All-nil (IsUnder mask));
}

pub masked-more : (unmasked : Bool) (mask : Mask) (ids new : List FlowId) (id : FlowId) → IsMasked unmasked mask ids →
    list_any (same_flow id) ids ≡ false → new ≡ different ids (id ∷ []) → IsUnder mask id → IsMasked unmasked mask new
masked-more unmasked mask ids new id m unknown made u = record {
  zero = m.zero;
  each = subst (All (IsUnder mask)) (sym (made ∙ ap (λ b. if b then ids else ids ++ id ∷ []) unknown))
      (All-push (IsUnder mask) ids id m.each u);
}

-- what passes first passes first in a longer list
position-more : {A : Type 0} (p : A → Bool) (xs ys : List A) (k : ℕ) (d : A) → position p xs ≡ Some k →
    position p (xs ++ ys) ≡ Some k
position-more p xs ys k d h =
    let at = position-Some p xs k d h in
    let within : k < length (xs ++ ys) = omega (arith, at.0, length-append xs ys) in
    let same : position_or_len p (xs ++ ys) ≡ k =
    position_or_len_is p (xs ++ ys) k d (omega (arith, within))
    (λ j l. ap p (get_or_append_left xs ys d j (omega (arith, l, at.0))) ∙ at.2 j l)
    (λ l. ap p (get_or_append_left xs ys d k at.0) ∙ at.1) in
    let test : nat_lt (position_or_len p (xs ++ ys)) (length (xs ++ ys)) ≡ true = grind (arith, nat_tests) in
    (λ t. cond (test t) (Some (same t)) None)

-- where there is an instance of an identifier, it was found
found-first : (ids : List FlowId) (id : FlowId) (k : ℕ) → k < length ids → instance_of ids id ≡ Some k →
    position (same_flow id) ids ≡ Some k
found-first ids id k within e = go (position (same_flow id) ids) refl
  where
    go : (o : Option ℕ) → position (same_flow id) ids ≡ o → position (same_flow id) ids ≡ Some k
    go None none = absurd (omega (arith, within, made_next ids id k none e))
    go (Some j) some =
        some ∙ sym (ap (λ o. option_map_or (λ n. Some n) o (new_instance ids)) some) ∙ e

pub keeps-same : (old new : List Slot) → ids_of new ≡ ids_of old → KeepsIds old new
keeps-same old new same = record {
  long = omega (arith, ap length same, length-map old (λ (t : Slot). t.id), length-map new (λ (t : Slot). t.id));
  each = λ id k within e. ap (λ ids. instance_of ids id) same ∙ e;
}

pub keeps-push : (old new : List Slot) (s : Slot) → new ≡ old ++ s ∷ [] → KeepsIds old new
keeps-push old new s is = record {
  long = omega (arith, ap length is, length_push old s);
  each = λ id k within e.
      let many = length-map old (λ (t : Slot). t.id) in
      let first = found-first (ids_of old) id k (omega (arith, within, many)) e in
      let longer : ids_of new ≡ ids_of old ++ s.id ∷ [] = ap ids_of is ∙ map-append (λ (t : Slot). t.id) old (s ∷ []) in
      ap (λ ids. instance_of ids id) longer
      ∙ (known (ids_of old ++ s.id ∷ []) id k (position-more (same_flow id) (ids_of old) (s.id ∷ []) k id first)).0;
}

pub keeps-then : (a b c : List Slot) → KeepsIds a b → ids_of c ≡ ids_of b → KeepsIds a c
keeps-then a b c h same =
    let more = keeps-same b c same in
    record {
      long = omega (arith, h.long, more.long);
      each = λ id k within e. more.each id k (omega (arith, within, h.long)) (h.each id k within e);
    }

-- what passes nowhere
pub no-any : {A : Type 0} (p : A → Bool) (xs : List A) → None ≡ position p xs → list_any p xs ≡ false
no-any p xs h =
    let outside : length xs ≤ position_or_len p xs = grind (arith, common_steps) in
    list_any_none p xs (λ k d l. fails_before_first p xs k d (omega (arith, outside, l)))

-- a packet's instance, where it was found
pub instance-found : (packet : Packet) (old new : KeyedPipe) (k : ℕ) →
    Some k ≡ position (same_flow (flow_id old.config.mask packet)) (ids_of old.slots) →
    ids_of new.slots ≡ ids_of old.slots → new.config.mask ≡ old.config.mask → HasRoomAtSlot packet.size k new →
    HasInstance k packet new
instance-found packet old new k found same mask room =
    let at = known (ids_of old.slots) (flow_id old.config.mask packet) k (sym found) in
    record {
      inside = omega (arith, at.1, ap length same, length-map new.slots (λ (t : Slot). t.id));
      its = (λ t. instance_of (same t) (flow_id (mask t) packet)) ∙ at.0;
      ready = room;
    }

pub room-found : (packet : Packet) (p : KeyedPipe) (k : ℕ) → HasInstance k packet p → HasRoomAt packet p
room-found packet p k h = record {
  there = λ j is.
      let same : k ≡ j = ap (λ o. unwrap_or o k) (sym h.its ∙ is) in
      subst (λ m. HasRoomAtSlot packet.size m p) same h.ready;
  new = λ is.
      let same : k ≡ length p.slots = ap (λ o. unwrap_or o k) (sym h.its ∙ is) in absurd (omega (arith, same, h.inside));
}

pub no-ids : (ids : List FlowId) → length ids ≡ 0 → ids ≡ []
no-ids [] e = refl
no-ids (i ∷ is) e = absurd (omega (arith, e))

-- another mask that is the same
both : (a b : Bool) → (a && b) ≡ true → (a ≡ true) × (b ≡ true)
both true b e = (refl, e)
both false b e = absurd (cc)

equal : (m n : ℕ) → nat_eq m n ≡ true → m ≡ n
equal m n e = grind (arith, nat_tests, e)

not-false : (b : Bool) → not b ≡ false → b ≡ true
not-false true e = refl
not-false false e = absurd (cc)

abbrev same_mask : Mask → Mask → Bool
same_mask a b =
    nat_eq a.proto b.proto && (nat_eq a.src b.src && (nat_eq a.dst b.dst && (nat_eq a.sport b.sport && nat_eq a.dport b.dport)))

mask-is : (a b : Mask) → same_mask a b ≡ true → a ≡ b
mask-is a b e =
    let p = both _ _ e in
    let q = both _ _ p.1 in
    let r = both _ _ q.1 in
    let s = both _ _ r.1 in
    λ t. record {
      proto = equal a.proto b.proto p.0 t;
      src = equal a.src b.src q.0 t;
      dst = equal a.dst b.dst r.0 t;
      sport = equal a.sport b.sport s.0 t;
      dport = equal a.dport b.dport s.1 t;
    }

pub masked-same : (unmasked now : Bool) (old new : Mask) (ids : List FlowId) → IsMasked unmasked old ids →
    (now ≡ true → IsZero new) → not (same_mask new old) ≡ false → IsMasked now new ids
masked-same unmasked now old new ids m z same = record {
  zero = z;
  each = subst (λ mask. All (IsUnder mask) ids) (sym (mask-is new old (not-false (same_mask new old) same))) m.each;
}
