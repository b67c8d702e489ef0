-- The first element that passes a test: where it stands, and what stands there after a change.
use Rattle.std.proofs.Common.{◌≡◌, ℕ, suc, ◌+◌, ◌<◌, ◌≤◌, Bool, true, false, not, ◌||◌, cond, ltb, List, [], ◌∷◌, length, get_or, set, map, refl, sym, ◌∙◌, ap, arith, inl, inr}
use Rattle.std.specs.Prelude.{Option, Some, None, is_some, option_map, position, find}
use Rattle.std.specs.List.{All, list_any, position_or_len, slice_get}
use Rattle.std.proofs.lemmas.List.Folds.{find_at, list_any_at}
use Rattle.std.proofs.lemmas.List.Sums.{passes_at_first}
use Rattle.std.proofs.lemmas.Option.{slice_get-get_or, slice_get_past}
use Rattle.std.proofs.lemmas.Bool.{ltb-true, ltb-false, lt-ltb, le-ltb, cases_lt, both_ways, false_from_ne_true}
use Rattle.emu_model.specs.Lists.{replace_first}

module _ {X : Type 0} (p : X → Bool) where
  -- the place, if there is one
  pub record IsPlace (xs : List X) (i : ℕ) : Type 0 where
    pub first : position_or_len p xs ≡ i
    pub within : i < length xs

  some_is : (b : Bool) (q i : ℕ) → cond b (Some q) None ≡ Some i → (b ≡ true) × (q ≡ i)
  some_is true q i e = (refl, cc)
  some_is false q i e = absurd (cc)

  pub none_is : (b : Bool) (q : ℕ) → cond b (Some q) None ≡ None → b ≡ false
  none_is true q e = absurd (cc)
  none_is false q e = refl

  pub place_from_some : (xs : List X) (i : ℕ) → Some i ≡ position p xs → IsPlace xs i
  place_from_some xs i e =
      let h = some_is (ltb (position_or_len p xs) (length xs)) (position_or_len p xs) i (sym e) in
      let within : position_or_len p xs < length xs = ltb-true _ _ h.0 in
      record { first = h.1; within = omega (arith, h.1, within) }

  pub past_from_none : (xs : List X) → None ≡ position p xs → length xs ≤ position_or_len p xs
  past_from_none xs e =
      ltb-false _ _ (none_is (ltb (position_or_len p xs) (length xs)) (position_or_len p xs) (sym e))

  pub find_place : (xs : List X) (i : ℕ) (x : X) → IsPlace xs i → x ≡ get_or xs i x → find p xs ≡ Some x
  find_place xs i x h e =
      find_at p xs ∙ ap (slice_get xs) h.first ∙ slice_get-get_or xs i x h.within ∙ ap Some (sym e)

  pub passes_place : (xs : List X) (i : ℕ) (x : X) → IsPlace xs i → x ≡ get_or xs i x → p x ≡ true
  passes_place xs i x h e =
      let w : position_or_len p xs < length xs = omega (arith, h.first, h.within) in
      ap p (e ∙ ap (λ k. get_or xs k x) (sym h.first)) ∙ passes_at_first p xs x w

  pub find_past_all : (xs : List X) → length xs ≤ position_or_len p xs → find p xs ≡ None
  find_past_all xs h = find_at p xs ∙ slice_get_past xs (position_or_len p xs) h

  replace_first_is : (y : X) (xs : List X) → replace_first p y xs ≡ set xs (position_or_len p xs) y
  replace_first_is y [] = refl
  replace_first_is y (x ∷ xs) = by (replace_first_is y xs) (p x) where
    by : replace_first p y xs ≡ set xs (position_or_len p xs) y → (b : Bool) → cond b (y ∷ xs) (x ∷ replace_first p y xs)
        ≡ set (x ∷ xs) (cond (not b) (1 + position_or_len p xs) 0) y
    by rest true = refl
    by rest false = ap (λ ys. x ∷ ys) rest
        ∙ ap (λ k. set (x ∷ xs) k y) (let e : suc (position_or_len p xs) ≡ 1 + position_or_len p xs = omega arith in e)

  pub replace_place : (y : X) (xs : List X) (i : ℕ) → IsPlace xs i → replace_first p y xs ≡ set xs i y
  replace_place y xs i h = replace_first_is y xs ∙ ap (λ k. set xs k y) h.first

  pub list_any_is : (xs : List X) → list_any p xs ≡ is_some (find p xs)
  list_any_is [] = refl
  list_any_is (x ∷ xs) = by (list_any_is xs) (p x) where
    by : list_any p xs ≡ is_some (find p xs) → (b : Bool) → (b || list_any p xs) ≡ is_some (cond b (Some x) (find p xs))
    by rest true = refl
    by rest false = rest

  shifted : (a b : ℕ) → ltb a b ≡ ltb (1 + a) (suc b)
  shifted a b = elim (cases_lt a b) [
    | inl l ↦ lt-ltb a b l ∙ sym (lt-ltb (1 + a) (suc b) (omega (arith, l)))
    | inr l ↦ le-ltb a b l ∙ sym (le-ltb (1 + a) (suc b) (omega (arith, l)))
  ]

  any_below : (xs : List X) → list_any p xs ≡ ltb (position_or_len p xs) (length xs)
  any_below [] = sym (le-ltb 0 0 (omega arith))
  any_below (x ∷ xs) = by (any_below xs) (p x) where
    by : list_any p xs ≡ ltb (position_or_len p xs) (length xs) → (b : Bool) →
        (b || list_any p xs) ≡ ltb (cond (not b) (1 + position_or_len p xs) 0) (suc (length xs))
    by rest true = sym (lt-ltb 0 (suc (length xs)) (omega arith))
    by rest false = rest ∙ shifted (position_or_len p xs) (length xs)

  some_place : (b : Bool) (q : ℕ) → b ≡ is_some (cond b (Some q) None)
  some_place true q = refl
  some_place false q = refl

  pub any_position : (xs : List X) → list_any p xs ≡ is_some (position p xs)
  any_position xs = any_below xs ∙ some_place (ltb (position_or_len p xs) (length xs)) (position_or_len p xs)

  pub find_none : (xs : List X) → list_any p xs ≡ false → find p xs ≡ None
  find_none xs e = by (find p xs) (sym (list_any_is xs) ∙ e) where
    by : (o : Option X) → is_some o ≡ false → o ≡ None
    by None e = refl
    by (Some x) e = absurd (cc)

  -- where none passes
  pub absent : (xs : List X) → list_any p xs ≡ false → All (λ x. p x ≡ false) xs
  absent xs e = λ k d l. false_from_ne_true _ (λ passes. both_ways _ e (list_any_at p xs k d l passes))

module _ {X Y : Type 0} (h : Y → X) (p : X → Bool) where
  pub find-map : (ys : List Y) → find p (map h ys) ≡ option_map h (find (λ y. p (h y)) ys)
  find-map [] = refl
  find-map (y ∷ ys) = by (find-map ys) (p (h y)) where
    by : find p (map h ys) ≡ option_map h (find (λ z. p (h z)) ys) → (b : Bool) → cond b (Some (h y)) (find p (map h ys)) ≡ option_map h (cond b (Some y) (find (λ z. p (h z)) ys))
    by rest true = refl
    by rest false = rest

  pub replace_first-map : (z : Y) (ys : List Y) → replace_first p (h z) (map h ys) ≡ map h (replace_first (λ y. p (h y)) z ys)
  replace_first-map z [] = refl
  replace_first-map z (y ∷ ys) = by (replace_first-map z ys) (p (h y)) where
    by : replace_first p (h z) (map h ys) ≡ map h (replace_first (λ x. p (h x)) z ys) → (b : Bool) → cond b (h z ∷ map h ys) (h y ∷ replace_first p (h z) (map h ys))
        ≡ map h (cond b (z ∷ ys) (y ∷ replace_first (λ x. p (h x)) z ys))
    by rest true = refl
    by rest false = ap (λ zs. h y ∷ zs) rest

  is_some-map : (o : Option Y) → is_some (option_map h o) ≡ is_some o
  is_some-map None = refl
  is_some-map (Some y) = refl

  pub list_any-map : (ys : List Y) → list_any p (map h ys) ≡ list_any (λ y. p (h y)) ys
  list_any-map ys =
      list_any_is p (map h ys) ∙ ap is_some (find-map ys) ∙ is_some-map (find (λ y. p (h y)) ys)
      ∙ sym (list_any_is (λ y. p (h y)) ys)
