-- The flow whose timer is told as the first.
use Rattle.std.proofs.Common.{◌≡◌, ℕ, zero, suc, ◌^◌, ◌<◌, ◌≤◌, Bool, true, false, ◌==◌, List, [], ◌∷◌, length, get_or, map, refl, sym, ap, subst, ◌∙◌, arith, inl, inr}
use Rattle.std.specs.Prelude.{Option, Some, None, IfSome, SomeIff, is_none, is_some, position}
use Rattle.std.specs.List.{list_any, position_or_len}
use Rattle.std.proofs.lemmas.Bool.{cases_lt, cases_eq, eqb-true, eq-eqb, both_ways}
use Rattle.std.proofs.lemmas.List.{length-map, get_or_default}
use Rattle.std.proofs.lemmas.List.Sums.{passes_at_first}
use Rattle.std.proofs.Math.ListN.{get_or-map}
use Rattle.emu_model.specs.declared.sources.Due.{Due}
use Rattle.due_index.specs.Least.{dues_in, least_of}
use Rattle.due_index.proofs.CallerLemmas.{least_leaf, least_of-leaf}
use Rattle.due_index.specs.Table.{place_in}
use Rattle.sources.specs.Kept.{KeptFlow, IsNumber}
use Rattle.sources.specs.Leaves.{expiry_due, AreTold, AreFound, IsRight, IsEarlyAt}
use Rattle.sources.proofs.FirstPlaces.{place_from_some, any_position, absent}
use Rattle.sources.proofs.Timers.{timers, told_length, leaf_place, none_told, first_right}

abbrev number_of : KeptFlow → ℕ
number_of f = f.state.number

abbrev has : ℕ → KeptFlow → Bool
has k f = f.state.number == k

abbrev numbers : List KeptFlow → List ℕ
numbers fs = map number_of fs

told_number : (os : List (Option Due)) (fs : List KeptFlow) (i : ℕ) → AreTold os fs → i < length fs →
    IfSome (get_or os i None) (λ d. d.source.number ≡ get_or (numbers fs) i 0)
told_number [] [] i h l = absurd (omega (arith, l))
told_number (o ∷ os) (f ∷ fs) zero h l = h.0.number
told_number (o ∷ os) (f ∷ fs) (suc i) h l = told_number os fs i h.1 (omega (arith, l))
told_number [] (f ∷ fs) i h l = absurd h
told_number (o ∷ os) [] i h l = absurd h

-- a number by its flow, whatever stands past the end
by_flow : (f : KeptFlow) (fs : List KeptFlow) (i : ℕ) (d : KeptFlow) → i < length (f ∷ fs) →
    get_or (numbers (f ∷ fs)) i 0 ≡ number_of (get_or (f ∷ fs) i d)
by_flow f fs i d l =
    let long = length-map (f ∷ fs) number_of in
    let l' : i < length (numbers (f ∷ fs)) = omega (arith, l, long) in
    get_or_default (numbers (f ∷ fs)) i 0 (number_of d) l' ∙ get_or-map number_of (f ∷ fs) i d

absent_number : (fs : List KeptFlow) (k i : ℕ) → None ≡ position (has k) fs → i < length fs →
    get_or (numbers fs) i 0 ≡ k → ⊥
absent_number [] k i none l e = absurd (omega (arith, l))
absent_number (f ∷ fs) k i none l e =
    let any : list_any (has k) (f ∷ fs) ≡ false = any_position (has k) (f ∷ fs) ∙ ap is_some (sym none) in
    let fails : has k (get_or (f ∷ fs) i f) ≡ false = absent (has k) (f ∷ fs) any i f l in
    both_ways _ fails (eq-eqb _ k (sym (by_flow f fs i f l) ∙ e))

placed_number : (fs : List KeptFlow) (k j : ℕ) → Some j ≡ position (has k) fs →
    (j < length fs) × (get_or (numbers fs) j 0 ≡ k)
placed_number [] k j e =
    let l = (place_from_some (has k) [] j e).within in absurd (omega (arith, l))
placed_number (f ∷ fs) k j e =
    let place = place_from_some (has k) (f ∷ fs) j e in
    let w : position_or_len (has k) (f ∷ fs) < length (f ∷ fs) = omega (arith, place.first, place.within) in
    let passes : has k (get_or (f ∷ fs) j f) ≡ true =
    ap (λ n. has k (get_or (f ∷ fs) n f)) (sym place.first) ∙ passes_at_first (has k) (f ∷ fs) f w in
    (place.within, by_flow f fs j f place.within ∙ eqb-true _ k passes)

module _ (os : List (Option Due)) (fs : List KeptFlow) (places : List (Option ℕ)) (told : Option Due)
    (h : AreTold os fs) (found : AreFound fs places) (is : told ≡ least_of (dues_in os)) where
  leaf : told ≡ least_leaf os
  leaf = is ∙ least_of-leaf os

  right : least_leaf os ≡ least_leaf (timers fs) → IsRight os fs
  right e = least_of-leaf os ∙ e ∙ sym (least_of-leaf (timers fs))

  pub right_none : is_none told ≡ true → IsRight os fs
  right_none e = right (none_told os fs h (sym leaf ∙ by told e))
    where
      by : (o : Option Due) → is_none o ≡ true → o ≡ None
      by None e = refl
      by (Some d) e = absurd (cc)

  there : is_none told ≡ false → (d : Due) × (told ≡ Some d)
  there e = by told e
    where
      by : (o : Option Due) → is_none o ≡ false → (d : Due) × (o ≡ Some d)
      by None e = absurd (cc)
      by (Some d) e = (d, refl)

  -- the number that a due tells
  abbrev pub FlowIs : Option ℕ → Type 0
  FlowIs r = IfSome told (λ d. d.source.number < 2 ^ 16 →
      SomeIff r ((1 ≤ d.source.number) × (d.source.number ≤ 65535)) d.source.number)

  pub record IsFirst (d : Due) : Type 0 where
    pub told_is : told ≡ Some d
    pub place : ℕ
    pub within : place < length fs
    pub leaf_is : get_or os place None ≡ Some d
    pub number : d.source.number ≡ get_or (numbers fs) place 0
    pub fits : IsNumber d.source.number

  first : is_none told ≡ false → (d : Due) × IsFirst d
  first e =
      let t = there e in
      let d = t.0 in
      let at = leaf_place os d (sym leaf ∙ t.1) in
      let l : at.0 < length fs = omega (arith, at.1, told_length os fs h) in
      let number : d.source.number ≡ get_or (numbers fs) at.0 0 =
      subst (λ o. IfSome o (λ d. d.source.number ≡ get_or (numbers fs) at.0 0)) at.2 (told_number os fs at.0 h l) in (
        d,
        record {
          told_is = t.1;
          place = at.0;
          within = l;
          leaf_is = at.2;
          number = number;
          fits = subst IsNumber (sym number) (found.fit at.0 0 (omega (arith, l, length-map fs number_of)));
        },
      )

  flow_at : (r : Option ℕ) (d : Due) → IsFirst d → FlowIs r →
      SomeIff r ((1 ≤ d.source.number) × (d.source.number ≤ 65535)) d.source.number
  flow_at r d f k =
      subst (λ o. IfSome o (λ d. d.source.number < 2 ^ 16 →
      SomeIff r ((1 ≤ d.source.number) × (d.source.number ≤ 65535)) d.source.number)) f.told_is k (omega (arith, f.fits.1))

  pub flow_there : is_none told ≡ false → FlowIs None → ⊥
  flow_there e k =
      let f = first e in
      let none = flow_at None f.0 f.1 k in
      none (f.1.fits.0, f.1.fits.1)

  pub place_there : (k n : ℕ) → is_none told ≡ false → FlowIs (Some k) → n ≡ k → None ≡ place_in places n → ⊥
  place_there k n e flow same none =
      let f = first e in
      let number : n ≡ f.0.source.number = same ∙ (flow_at (Some k) f.0 f.1 flow).1 in
      absent_number fs n f.1.place (none ∙ found.lead n) f.1.within (sym f.1.number ∙ sym number)

  pub record IsPlaced (j : ℕ) : Type 0 where
    pub within : j < length fs
    pub leaf_is : get_or os j None ≡ told

  same_place : (i j : ℕ) → i < length fs → j < length fs → get_or (numbers fs) i 0 ≡ get_or (numbers fs) j 0 → i ≡ j
  same_place i j li lj e = elim (cases_eq i j) [
    | inl same ↦ same
    | inr ne ↦
        let long = length-map fs number_of in
        elim (cases_lt i j) [
          | inl l ↦ absurd (found.different i j 0 l (omega (arith, lj, long)) e)
          | inr l ↦
              let less : j < i = omega (arith, l, ne) in
              absurd (found.different j i 0 less (omega (arith, li, long)) (sym e))
        ]
  ]

  pub placed : (k n j : ℕ) → is_none told ≡ false → FlowIs (Some k) → n ≡ k → Some j ≡ place_in places n → IsPlaced j
  placed k n j e flow same some =
      let f = first e in
      let number : n ≡ f.0.source.number = same ∙ (flow_at (Some k) f.0 f.1 flow).1 in
      let at = placed_number fs n j (some ∙ found.lead n) in
      let one : j ≡ f.1.place = same_place j f.1.place at.0 f.1.within (at.1 ∙ number ∙ f.1.number) in
      record {
        within = at.0;
        leaf_is = ap (λ n. get_or os n None) one ∙ f.1.leaf_is ∙ sym f.1.told_is;
      }

  pub right_same : (j : ℕ) (f : KeptFlow) (timer : Option Due) → IsPlaced j → f ≡ get_or fs j f → timer ≡ expiry_due f.state →
      timer ≡ told → IsRight os fs
  right_same j f timer p at e same = right (first_right os fs j f h p.within at (sym e ∙ same ∙ leaf))

  pub early_at : (j : ℕ) (f : KeptFlow) (timer : Option Due) → IsPlaced j → f ≡ get_or fs j f → timer ≡ expiry_due f.state →
      (timer ≡ told → ⊥) → IsEarlyAt j os fs
  early_at j f timer p at e ne = record {
    within = p.within;
    differs = λ g here same.
        let one : f ≡ g = at ∙ get_or_default fs j f g p.within ∙ sym here in
        ne (e ∙ ap (λ (f : KeptFlow). expiry_due f.state) one ∙ same ∙ p.leaf_is);
  }
