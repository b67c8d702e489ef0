-- The order by a number, and where that is the same by another order.
use Rattle.std.proofs.Common.{inl, inr, ◌≡◌, ℕ, ◌≤◌, Bool, true, false, ◌==◌, ◌&&◌, ◌||◌, nat_lt, eq-eqb, arith}
use Rattle.std.proofs.lemmas.Bool.{eqb-true, cases_order, lt-ltb, le-ltb, ne_eqb, cases_Bool}
use Rattle.std.specs.Cmp.{IsStrictWeakOrder}

module _ {X : Type 0} where
  abbrev pub first_by : (X → ℕ) → (X → X → Bool) → X → X → Bool
  first_by f r x y = nat_lt (f x) (f y) || (f x == f y && r x y)

  pub record NotBefore (f : X → ℕ) (r : X → X → Bool) (x y : X) : Type 0 where
    pub low : f y ≤ f x
    pub same : f x ≡ f y → r x y ≡ false

  pub not_before : (f : X → ℕ) (r : X → X → Bool) (x y : X) → first_by f r x y ≡ false →
      NotBefore f r x y
  not_before f r x y h =
      elim (cases_order (f x) (f y)) [
        | inl e ↦ let t : nat_lt (f x) (f y) ≡ false = le-ltb _ _ (omega arith) in
            let q : (f x == f y) ≡ true = eq-eqb _ _ e in
            record { low = omega arith; same = λ _. rw (t, q) at h }
        | inr w ↦ elim w [
          | inl l ↦ let t : nat_lt (f x) (f y) ≡ true = lt-ltb _ _ l in
              let bad : true ≡ false = rw t at h in
              cc
          | inr l ↦ record { low = omega arith; same = λ e. absurd (omega arith) }
        ]
      ]

  before_false : (f : X → ℕ) (r : X → X → Bool) (x y : X) → NotBefore f r x y →
      first_by f r x y ≡ false
  before_false f r x y n =
      let t : nat_lt (f x) (f y) ≡ false = le-ltb _ _ n.low in
      elim (cases_Bool (f x == f y)) [
        | inl q ↦ rw (t, q) (n.same (eqb-true _ _ q))
        | inr q ↦ rw (t, q)
      ]

  first_by-one_way : (f : X → ℕ) (r : X → X → Bool) → IsStrictWeakOrder r →
      (x y : X) → first_by f r x y ≡ true → first_by f r y x ≡ false
  first_by-one_way f r o x y h =
      elim (cases_order (f x) (f y)) [
        | inl e ↦ let t : nat_lt (f x) (f y) ≡ false = le-ltb _ _ (omega arith) in
            let q : (f x == f y) ≡ true = eq-eqb _ _ e in
            let before : r x y ≡ true = rw (t, q) at h in
            before_false f r y x (record { low = omega arith; same = λ _. o.one_way x y before })
        | inr w ↦ elim w [
          | inl l ↦ before_false f r y x
              (record { low = omega arith; same = λ e. absurd (omega arith) })
          | inr l ↦ let t : nat_lt (f x) (f y) ≡ false = le-ltb _ _ (omega arith) in
              let q : (f x == f y) ≡ false = ne_eqb _ _ (λ e. omega arith) in
              let bad : false ≡ true = rw (t, q) at h in
              cc
        ]
      ]

  pub first_by-order : (f : X → ℕ) (r : X → X → Bool) → IsStrictWeakOrder r →
      IsStrictWeakOrder (first_by f r)
  first_by-order f r o =
      record {
        one_way = first_by-one_way f r o;
        chain = λ x y z h k.
            let a : NotBefore f r x y = not_before f r x y h in
            let b : NotBefore f r y z = not_before f r y z k in
            let la : f y ≤ f x = a.low in
            let lb : f z ≤ f y = b.low in
            before_false f r x z (record {
              low = omega arith;
              same = λ e. o.chain x y z (a.same (omega arith)) (b.same (omega arith));
            });
      }

  -- those that neither comes before the other agree
  pub both_ways_equal : (f : X → ℕ) (r : X → X → Bool) (x y : X) → first_by f r x y ≡ false →
      first_by f r y x ≡ false → (f x ≡ f y) × (r x y ≡ false) × (r y x ≡ false)
  both_ways_equal f r x y h k =
      let a : NotBefore f r x y = not_before f r x y h in
      let b : NotBefore f r y x = not_before f r y x k in
      let la : f y ≤ f x = a.low in
      let lb : f x ≤ f y = b.low in
      (omega arith, a.same (omega arith), b.same (omega arith))
