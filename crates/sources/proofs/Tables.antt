-- Where the first that passes stands, and where numbers lead, as one changes or one is added behind all others.
use Rattle.std.proofs.Common.{◌≡◌, ℕ, suc, ◌+◌, ◌<◌, ◌≤◌, ◌==◌, Bool, true, false, not, cond, ltb, eqb, List, [], ◌∷◌, ◌++◌, length, get_or, set, sym, ◌∙◌, ap, subst, arith, inl, inr}
use Rattle.std.specs.Prelude.{Option, Some, None, position}
use Rattle.std.specs.List.{position_or_len}
use Rattle.std.proofs.lemmas.Bool.{lt-ltb, le-ltb, eq-eqb, ne_eqb, cases_lt, cases_eq}
use Rattle.std.proofs.lemmas.List.{length-set, length_push, get_or-set_same, get_or-set_other}
use Rattle.std.proofs.lemmas.List.Folds.{position_or_len-set, position_or_len_push}
use Rattle.std.proofs.lemmas.List.Sums.{prefix_len-le-length}
use Rattle.due_index.specs.Table.{place_in}
use Rattle.sources.specs.Tables.{LeadsTo}
use Rattle.sources.proofs.FirstPlaces.{none_is}

-- a place below an end
abbrev below : ℕ → ℕ → Option ℕ
below q n = cond (ltb q n) (Some q) None

last : (n : ℕ) (b : Bool) → below (n + cond b 0 1) (suc n) ≡ cond b (Some n) None
last n true =
    ap (λ m. below m (suc n)) (let e : n + 0 ≡ n = omega arith in e)
    ∙ ap (λ c. cond c (Some n) None) (lt-ltb n (suc n) (omega arith))
last n false = ap (λ c. cond c (Some (n + 1)) None) (le-ltb (n + 1) (suc n) (omega arith))

one_more : (q n : ℕ) (b : Bool) → q ≤ n →
    below (cond (eqb q n) (n + cond b 0 1) q) (suc n) ≡ cond (ltb q n) (Some q) (cond b (Some n) None)
one_more q n b le = elim (cases_lt q n) [
  | inl l ↦ ap (λ e. below (cond e (n + cond b 0 1) q) (suc n)) (ne_eqb q n (λ e. omega (arith, e, l)))
      ∙ ap (λ c. cond c (Some q) None) (lt-ltb q (suc n) (omega (arith, l)))
      ∙ sym (ap (λ c. cond c (Some q) (cond b (Some n) None)) (lt-ltb q n l))
  | inr l ↦ ap (λ e. below (cond e (n + cond b 0 1) q) (suc n)) (eq-eqb q n (omega (arith, l, le)))
      ∙ last n b
      ∙ sym (ap (λ c. cond c (Some q) (cond b (Some n) None)) (le-ltb q n l))
]

module _ {X : Type 0} (p : X → Bool) where
  position-set : (xs : List X) (i : ℕ) (x y : X) → x ≡ get_or xs i x → p y ≡ p x →
      position p (set xs i y) ≡ position p xs
  position-set xs i x y at e =
      (λ t. below (position_or_len-set p xs i y x (e ∙ ap p at) t) (length-set xs i y t))

  position-push : (xs : List X) (y : X) → position p (xs ++ y ∷ [])
      ≡ cond (ltb (position_or_len p xs) (length xs)) (Some (position_or_len p xs)) (cond (p y) (Some (length xs)) None)
  position-push xs y =
      let long : length (xs ++ y ∷ []) ≡ suc (length xs) = omega (arith, length_push xs y) in
      (λ t. below (position_or_len_push p xs y t) (long t))
      ∙ one_more (position_or_len p xs) (length xs) (p y) (prefix_len-le-length (λ x. not (p x)) xs)

  position-push_first : (xs : List X) (y : X) → position p xs ≡ None → p y ≡ true →
      position p (xs ++ y ∷ []) ≡ Some (length xs)
  position-push_first xs y none passes =
      let q = position_or_len p xs in
      position-push xs y
      ∙ ap (λ c. cond c (Some q) (cond (p y) (Some (length xs)) None)) (none_is p (ltb q (length xs)) q none)
      ∙ ap (λ c. cond c (Some (length xs)) None) passes

  position-push_other : (xs : List X) (y : X) → p y ≡ false → position p (xs ++ y ∷ []) ≡ position p xs
  position-push_other xs y fails =
      position-push xs y
      ∙ ap (λ c. cond (ltb (position_or_len p xs) (length xs)) (Some (position_or_len p xs)) (cond c (Some (length xs)) None)) fails

module _ {X : Type 0} (number : X → ℕ) where
  -- one that changed keeps its number
  pub leads_changed : (xs : List X) (table : List (Option ℕ)) (i : ℕ) (x y : X) → LeadsTo number xs table →
      x ≡ get_or xs i x → number y ≡ number x → LeadsTo number (set xs i y) table
  leads_changed xs table i x y h at e k =
      h k ∙ sym (position-set (λ x. number x == k) xs i x y at (ap (λ n. n == k) e))

  -- one with a new number stands behind all others
  leads_pushed : (xs : List X) (table : List (Option ℕ)) (k n : ℕ) (y : X) → LeadsTo number xs table →
      position (λ x. number x == k) xs ≡ None → k < length table → n ≡ length xs → number y ≡ k →
      LeadsTo number (xs ++ y ∷ []) (set table k (Some n))
  leads_pushed xs table k n y h none entry long e j = elim (cases_eq j k) [
    | inl same ↦ subst (λ j. place_in (set table k (Some n)) j ≡ position (λ x. number x == j) (xs ++ y ∷ [])) (sym same)
        (get_or-set_same table k (Some n) None entry ∙ ap Some long
        ∙ sym (position-push_first (λ x. number x == k) xs y none (eq-eqb _ _ e)))
    | inr other ↦ get_or-set_other table k j (Some n) None other ∙ h j
        ∙ sym (position-push_other (λ x. number x == j) xs y (ne_eqb _ _ (λ f. other (sym f ∙ e))))
  ]

  -- the same, of the list and of the table that come of it
  pub leads_on : (xs ys : List X) (old new : List (Option ℕ)) (k n : ℕ) (y : X) → ys ≡ xs ++ y ∷ [] →
      new ≡ set old k (Some n) → LeadsTo number xs old → position (λ x. number x == k) xs ≡ None →
      k < length old → n ≡ length xs → number y ≡ k → LeadsTo number ys new
  leads_on xs ys old new k n y more put h none entry long e =
      subst (λ ys. LeadsTo number ys new) (sym more)
      (subst (λ t. LeadsTo number (xs ++ y ∷ []) t) (sym put) (leads_pushed xs old k n y h none entry long e))
