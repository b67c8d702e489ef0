-- The lists of the keys, from their links.
use Rattle.std.proofs.Common.{inl, inr, ◌≡◌, ℕ, ◌+◌, ◌-◌, ◌<◌, ◌≤◌, ◌==◌, ◌++◌, [], ◌∷◌, List, length, get_or, set, map, cond, Some, slice_get, refl, sym, ap, ◌∙◌, arith, length-append}
use Rattle.std.proofs.lemmas.List.{ext_get_or, get_or-drop, get_or-map, get_or-set_same, get_or-set_other}
use Rattle.std.proofs.lemmas.List.{length-drop, length-map, length-set}
use Rattle.std.proofs.Math.ListN.{get_or-append}
use Rattle.std.proofs.lemmas.Option.{slice_get-get_or, slice_get_within, get_or_from_slice_get}
use Rattle.std.proofs.lemmas.Bool.{cases_eq, cases_lt}
use Rattle.timer_wheel.specs.declared.ring.Link.{Link}
use Rattle.timer_wheel.specs.Rings.{blank, lists_in, list_of}
use Rattle.timer_wheel.proofs.Circles.{pick_same, pick_other}

abbrev list_in : Link → ℕ
list_in l = l.list

pub length_lists : (links : List Link) → length (lists_in links) ≡ length links - 2051
unfolding lists_in
length_lists links = length-drop 2051 (map list_in links) ∙ ap (λ n. n - 2051) (length-map links list_in)

pub at_lists : (links : List Link) (k : ℕ) → 2051 + k < length links → get_or (lists_in links) k 0 ≡ list_of links (2051 + k)
unfolding lists_in
at_lists links k h = get_or-drop 2051 (map list_in links) k 0 ∙ get_or-map list_in links (2051 + k) blank 0 h

pub get_lists : (links : List Link) (k : ℕ) → 2051 + k < length links → slice_get (lists_in links) k ≡ Some (list_of links (2051 + k))
get_lists links k h =
    let n : length (lists_in links) ≡ length links - 2051 = length_lists links in
    slice_get-get_or (lists_in links) k 0 (omega arith) ∙ ap Some (at_lists links k h)

pub from_lists : (links : List Link) (k c : ℕ) → slice_get (lists_in links) k ≡ Some c → (2051 + k < length links) × (list_of links (2051 + k) ≡ c)
from_lists links k c h =
    let n : length (lists_in links) ≡ length links - 2051 = length_lists links in
    let w : k < length (lists_in links) = slice_get_within (lists_in links) k c h in
    let l : 2051 + k < length links = omega arith in
    (l, sym (at_lists links k l) ∙ get_or_from_slice_get (lists_in links) k c 0 h)

-- one list changed
pub lists_set : (old new : List Link) (key c : ℕ) → length new ≡ length old → 2051 + key < length old
    → ((q : ℕ) → list_of new q ≡ cond (q == 2051 + key) c (list_of old q)) → lists_in new ≡ set (lists_in old) key c
lists_set old new key c long within change =
    let n : length (lists_in new) ≡ length new - 2051 = length_lists new in
    let m : length (lists_in old) ≡ length old - 2051 = length_lists old in
    ext_get_or 0 (lists_in new) (set (lists_in old) key c)
    (n ∙ ap (λ v. v - 2051) long ∙ sym m ∙ sym (length-set (lists_in old) key c))
    (λ q h.
    let q_in : 2051 + q < length new = omega arith in
    at_lists new q q_in ∙ change (2051 + q) ∙
    elim (cases_eq q key) as (λ _. cond (2051 + q == 2051 + key) c (list_of old (2051 + q)) ≡ get_or (set (lists_in old) key c) q 0) [
      | inl e ↦ pick_same (2051 + q) (2051 + key) c _ (ap (λ v. 2051 + v) e) ∙ sym (ap (λ v. get_or (set (lists_in old) key c) v 0) e ∙ get_or-set_same (lists_in old) key c 0 (omega arith))
      | inr ne ↦ pick_other (2051 + q) (2051 + key) c _ (λ e. ne (omega arith)) ∙ sym (get_or-set_other (lists_in old) key q c 0 ne ∙ at_lists old q (omega arith))
    ])

-- one key more
pub lists_push : (old new : List Link) (c : ℕ) → 2051 ≤ length old → length new ≡ length old + 1
    → ((q : ℕ) → q < length old → list_of new q ≡ list_of old q) → list_of new (length old) ≡ c → lists_in new ≡ lists_in old ++ c ∷ []
lists_push old new c low long same is =
    let n : length (lists_in new) ≡ length new - 2051 = length_lists new in
    let m : length (lists_in old) ≡ length old - 2051 = length_lists old in
    let r : length (lists_in old ++ c ∷ []) ≡ length (lists_in old) + 1 = length-append (lists_in old) (c ∷ []) in
    ext_get_or 0 (lists_in new) (lists_in old ++ c ∷ []) (omega arith)
    (λ q h.
    let q_in : 2051 + q < length new = omega arith in
    at_lists new q q_in ∙
    elim (cases_lt q (length (lists_in old))) as (λ _. list_of new (2051 + q) ≡ get_or (lists_in old ++ c ∷ []) q 0) [
      | inl l ↦ same (2051 + q) (omega arith) ∙ sym (get_or-append (lists_in old) (c ∷ []) 0 q l ∙ at_lists old q (omega arith))
      | inr g ↦ let e : q ≡ length (lists_in old) = omega arith in
          let f : 2051 + q ≡ length old = omega arith in
          ap (list_of new) f ∙ is ∙ sym (ap (λ v. get_or (lists_in old ++ c ∷ []) v 0) e ∙ last_of (lists_in old) c)
    ])
  where
    last_of : (xs : List ℕ) (y : ℕ) → get_or (xs ++ y ∷ []) (length xs) 0 ≡ y
    last_of [] y = refl
    last_of (x ∷ xs) y = last_of xs y

-- no key yet
pub lists_none : (links : List Link) → length links ≡ 2051 → lists_in links ≡ []
lists_none links h = let n : length (lists_in links) ≡ length links - 2051 = length_lists links in is_nil (lists_in links) (omega arith)
  where
    is_nil : (xs : List ℕ) → length xs ≡ 0 → xs ≡ []
    is_nil [] h = refl
    is_nil (x ∷ xs) h = absurd (omega arith)

-- where a key has its link
pub key_in : (links : List Link) (xs : List ℕ) (k : ℕ) → lists_in links ≡ xs → k < length xs → 2051 + k < length links
key_in links xs k is h =
    let n : length (lists_in links) ≡ length links - 2051 = length_lists links in
    let m : length xs ≡ length (lists_in links) = ap length (sym is) in
    omega arith
