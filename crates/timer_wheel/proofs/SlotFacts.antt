-- Which slots are marked, after a key goes from one list to another.
use Rattle.std.proofs.Common.{inl, inr, ◌≡◌, ◌≢◌, ℕ, zero, suc, [], ◌∷◌, ◌<◌, List, length, set, Option, Some, None, slice_get, refl, sym, ap, subst, ◌∙◌, arith, IfSome, IfNone}
use Rattle.std.proofs.lemmas.List.{get_or-set_same, length-set}
use Rattle.std.proofs.lemmas.Option.{slice_get-get_or}
use Rattle.std.proofs.lemmas.Bool.{cases_eq}
use Rattle.timer_wheel.specs.declared.marks.Marks.{Marks}
use Rattle.timer_wheel.specs.Marks.{mark_at}
use Rattle.timer_wheel.specs.Filled.{IsMarked}

pub set_there : {X : Type 0} (xs : List X) (k : ℕ) (x : X) → k < length xs → slice_get (set xs k x) k ≡ Some x
set_there xs k x h =
    let n : length (set xs k x) ≡ length xs = length-set xs k x in
    slice_get-get_or (set xs k x) k x (omega arith) ∙ ap Some (get_or-set_same xs k x x h)

pub set_elsewhere : {X : Type 0} (xs : List X) (k j : ℕ) (x : X) → j ≢ k → slice_get (set xs k x) j ≡ slice_get xs j
set_elsewhere [] k j x ne = refl
set_elsewhere (y ∷ ys) zero zero x ne = absurd (ne refl)
set_elsewhere (y ∷ ys) zero (suc j) x ne = refl
set_elsewhere (y ∷ ys) (suc k) zero x ne = refl
set_elsewhere (y ∷ ys) (suc k) (suc j) x ne = set_elsewhere ys k j x (λ e. ne (ap suc e))

pub first_slot : (lists : List ℕ) (m : Marks) → IsMarked lists m → (r : Option ℕ) → IfSome r (λ p. p < 2048) → IfSome r (λ p. (q : ℕ) → q < p → mark_at m q ≡ 0)
    → IfSome r (λ p. (q : ℕ) → q < p → (k : ℕ) → slice_get lists k ≢ Some q)
first_slot lists m w None h f = tt
first_slot lists m w (Some p) h f = λ q l. w.none q (omega arith) (f q l)

pub no_slot : (lists : List ℕ) (m : Marks) → IsMarked lists m → (r : Option ℕ) → IfNone r ((q : ℕ) → q < 2048 → mark_at m q ≡ 0)
    → IfNone r ((q : ℕ) → q < 2048 → (k : ℕ) → slice_get lists k ≢ Some q)
no_slot lists m w None f = λ q l. w.none q l (f q l)
no_slot lists m w (Some p) f = tt

pub record IsRenewed (m m' : Marks) (lists : List ℕ) (l : ℕ) : Type 0 where
  pub other : (q : ℕ) → q ≢ l → mark_at m' q ≡ mark_at m q
  pub there : l < 2048 → mark_at m' l ≡ 1 → (k : ℕ) × (slice_get lists k ≡ Some l)
  pub none : l < 2048 → mark_at m' l ≡ 0 → (k : ℕ) → slice_get lists k ≢ Some l

-- a key went from one list to another, and both marks are made anew
module _ (lists : List ℕ) (key was l : ℕ) (m m1 m2 : Marks) (w : IsMarked lists m) (k_in : key < length lists) (is : slice_get lists key ≡ Some was)
    (r1 : IsRenewed m m1 (set lists key l) was) (r2 : IsRenewed m1 m2 (set lists key l) l) where
  to_new : (q k : ℕ) → q ≢ was → slice_get lists k ≡ Some q → slice_get (set lists key l) k ≡ Some q
  to_new q k ne h =
      elim (cases_eq k key) [
        | inl e ↦ let bad : Some q ≡ Some was = sym h ∙ ap (slice_get lists) e ∙ is in absurd (ne cc)
        | inr nk ↦ set_elsewhere lists key k l nk ∙ h
      ]

  from_new : (q k : ℕ) → q ≢ l → slice_get (set lists key l) k ≡ Some q → slice_get lists k ≡ Some q
  from_new q k ne h =
      elim (cases_eq k key) [
        | inl e ↦ let bad : Some q ≡ Some l = sym h ∙ ap (slice_get (set lists key l)) e ∙ set_there lists key l k_in in absurd (ne cc)
        | inr nk ↦ sym (set_elsewhere lists key k l nk) ∙ h
      ]

  pub moved_marks : IsMarked (set lists key l) m2
  moved_marks =
      record {
        there = λ q h one.
            elim (cases_eq q l) [
              | inl e ↦ rw e (r2.there (rw (← e) h) (rw (← e) one))
              | inr ne ↦ let one1 : mark_at m1 q ≡ 1 = sym (r2.other q ne) ∙ one in
                  elim (cases_eq q was) [
                    | inl e ↦ rw e (r1.there (rw (← e) h) (rw (← e) one1))
                    | inr nf ↦ let f : (k : ℕ) × (slice_get lists k ≡ Some q) = w.there q h (sym (r1.other q nf) ∙ one1) in
                        (f.0, to_new q f.0 nf f.1)
                  ]
            ];
        none = λ q h zero k has.
            elim (cases_eq q l) [
              | inl e ↦ r2.none (rw (← e) h) (rw (← e) zero) k (subst (λ v. slice_get (set lists key l) k ≡ Some v) e has)
              | inr ne ↦ let zero1 : mark_at m1 q ≡ 0 = sym (r2.other q ne) ∙ zero in
                  elim (cases_eq q was) [
                    | inl e ↦ r1.none (rw (← e) h) (rw (← e) zero1) k (subst (λ v. slice_get (set lists key l) k ≡ Some v) e has)
                    | inr nf ↦ w.none q h (sym (r1.other q nf) ∙ zero1) k (from_new q k ne has)
                  ]
            ];
      }

pub put_marks : (lists new : List ℕ) (key was l : ℕ) (m m1 m2 : Marks) → IsMarked lists m → key < length lists → slice_get lists key ≡ Some was → new ≡ set lists key l
    → IsRenewed m m1 new was → IsRenewed m1 m2 new l → IsMarked new m2
put_marks lists new key was l m m1 m2 w k_in is e r1 r2 =
    subst (λ v. IsMarked v m2) (sym e)
    (moved_marks lists key was l m m1 m2 w k_in is (subst (λ v. IsRenewed m m1 v was) e r1) (subst (λ v. IsRenewed m1 m2 v l) e r2))
