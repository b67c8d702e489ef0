-- A move of which a part is done, by the places of a list of keys.
use Rattle.std.proofs.Common.{◌≡◌, ℕ, ◌+◌, ◌<◌, ◌≤◌, refl, sym, ap, ◌∙◌, subst, List, [], ◌∷◌, ◌++◌, length, take, drop, get_or, set, slice_get, Some, None, arith}
use Rattle.std.proofs.lemmas.List.{length-map, length-take, length-drop, take-append-drop, take_all, take_more, take_more_set, drop_more, drop-set-lt}
use Rattle.std.proofs.lemmas.Option.{slice_get-get_or, get_or_from_slice_get}
use Rattle.packet_store.specs.Pocket.{Pocket}
use Rattle.pipe_core.specs.Moves.{packet_at, AreNamed}
use Rattle.pipe_core.specs.Rehousing.{Rehouses}
use Rattle.pipe_core.proofs.KeyMoves.{AreNamed-after}
use Rattle.pipe_core.proofs.Rehousings.{AreNamed-front, Rehouses-none, Rehouses-then}

-- of all these keys the first n are new and their packets have moved, and the others are the old ones
pub record IsHalf (p q r s : Pocket) (all now : List ℕ) (n : ℕ) : Type 0 where
  pub moved : Rehouses p q r s (take n all) (take n now)
  pub rest : drop n now ≡ drop n all

pub half_none : (p r : Pocket) (all : List ℕ) → IsHalf p p r r all all 0
half_none p r all = record { moved = Rehouses-none p r; rest = refl }

pub half_long : (p q r s : Pocket) (all now : List ℕ) (n : ℕ) → n ≤ length all → IsHalf p q r s all now n → length now ≡ length all
half_long p q r s all now n within h = omega (
  arith,
  within,
  ap length h.rest,
  length-drop n now,
  length-drop n all,
  ap length h.moved.same,
  length-map (take n now) (packet_at s.find),
  length-map (take n all) (packet_at p.find),
  length-take n now,
  length-take n all,
)

-- the next key is there, and names a packet
pub half_there : (p q r s : Pocket) (all now : List ℕ) (n : ℕ) → n < length all → IsHalf p q r s all now n → None ≡ slice_get now n → ⊥
half_there p q r s all now n within h none =
    let here : n < length now = omega (arith, within, half_long p q r s all now n (omega (arith, within)) h) in
    let some = slice_get-get_or now n 0 here in
    absurd (cc (some, none))

record IsNext (all now : List ℕ) (n key : ℕ) : Type 0 where
  pub all_is : drop n all ≡ key ∷ drop (n + 1) all
  pub front : take (n + 1) all ≡ take n all ++ key ∷ []
  pub rest : drop (n + 1) now ≡ drop (n + 1) all
  pub here : n < length now

next : (p q r s : Pocket) (all now : List ℕ) (n key : ℕ) → n < length all → Some key ≡ slice_get now n → IsHalf p q r s all now n →
    IsNext all now n key
next p q r s all now n key within value h =
    let here : n < length now = omega (arith, within, half_long p q r s all now n (omega (arith, within)) h) in
    let is : get_or now n key ≡ key = get_or_from_slice_get now n key key (sym value) in
    let both : get_or now n key ∷ drop (n + 1) now ≡ get_or all n key ∷ drop (n + 1) all =
    sym (drop_more now n key here) ∙ h.rest ∙ drop_more all n key within in
    let first : get_or now n key ≡ get_or all n key = cc in
    let rest : drop (n + 1) now ≡ drop (n + 1) all = cc in
    let same : get_or all n key ≡ key = sym first ∙ is in
    record {
      all_is = drop_more all n key within ∙ ap (λ k. k ∷ drop (n + 1) all) same;
      front = take_more all n key within ∙ ap (λ k. take n all ++ k ∷ []) same;
      rest = rest;
      here = here;
    }

pub half_named : (p q r s : Pocket) (all now : List ℕ) (n key : ℕ) → AreNamed p all → n < length all → Some key ≡ slice_get now n →
    IsHalf p q r s all now n → AreNamed q (key ∷ [])
half_named p q r s all now n key named within value h =
    let i : IsNext all now n key = next p q r s all now n key within value h in
    let left : AreNamed q (drop n all) =
    AreNamed-after p q (take n all) (drop n all) (subst (AreNamed p) (sym (take-append-drop n all)) named) h.moved.takes in
    AreNamed-front q (key ∷ []) (drop (n + 1) all) (subst (AreNamed q) i.all_is left)

-- how many have come
pub half_count : (p q r s : Pocket) (all now : List ℕ) (n : ℕ) → n ≤ length all → IsHalf p q r s all now n → s.count ≡ r.count + n
half_count p q r s all now n within h = omega (
  arith,
  within,
  h.moved.gives.count,
  half_long p q r s all now n within h,
  length-take n now,
)

pub half_next : (p q t r s u : Pocket) (all now : List ℕ) (n key there : ℕ) → AreNamed p all → n < length all → Some key ≡ slice_get now n →
    IsHalf p q r s all now n → Rehouses q t s u (key ∷ []) (there ∷ []) → IsHalf p t r u all (set now n there) (n + 1)
half_next p q t r s u all now n key there named within value h one =
    let i : IsNext all now n key = next p q r s all now n key within value h in
    let whole : AreNamed p (take (n + 1) all) =
    AreNamed-front p (take (n + 1) all) (drop (n + 1) all) (subst (AreNamed p) (sym (take-append-drop (n + 1) all)) named) in
    let both : Rehouses p t r u (take n all ++ key ∷ []) (take n now ++ there ∷ []) =
    Rehouses-then p q t r s u (take n all) (key ∷ []) (take n now) (there ∷ []) (subst (AreNamed p) i.front whole) h.moved one in
    record {
      moved =
          subst (λ ks. Rehouses p t r u ks (take (n + 1) (set now n there))) (sym i.front)
          (subst (λ ks. Rehouses p t r u (take n all ++ key ∷ []) ks) (sym (take_more_set now n there i.here)) both);
      rest = drop-set-lt (n + 1) now n there (omega arith) ∙ i.rest;
    }

pub half_all : (p q r s : Pocket) (all now : List ℕ) (n : ℕ) → n ≡ length all → IsHalf p q r s all now n → Rehouses p q r s all now
half_all p q r s all now n last h =
    let long : length now ≡ length all = half_long p q r s all now n (omega (arith, last)) h in
    subst (λ ks. Rehouses p q r s ks now) (take_all n all (omega (arith, last)))
    (subst (λ ks. Rehouses p q r s (take n all) ks) (take_all n now (omega (arith, last, long))) h.moved)
