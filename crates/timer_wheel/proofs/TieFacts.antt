-- Ties in order.
use Rattle.std.proofs.Common.{inl, inr, ◌≡◌, ◌⊎◌, ℕ, ◌+◌, ◌<◌, ◌≤◌, Bool, true, false, ◌==◌, ◌&&◌, ◌||◌, nat_lt, cond, List, [], ◌∷◌, ◌++◌, length, get_or, Some, None, slice_get, refl, sym, ap, subst, ◌∙◌, eq-eqb, arith, length-append}
use Rattle.std.proofs.lemmas.Bool.{cases_Bool, cases_eq, eqb-true, le-ltb}
use Rattle.std.proofs.lemmas.List.Sorted.{sorted_far, Contains-permutation}
use Rattle.std.proofs.lemmas.Option.{slice_get-get_or, get_or_from_slice_get, slice_get_within, slice_get_cases}
use Rattle.std.proofs.Math.ListN.{get_or-append}
use Rattle.std.specs.Cmp.{IsStrictWeakOrder}
use Rattle.std.specs.List.{Contains}
use Rattle.std.specs.List.Sorted.{IsSorted, IsPermutation}
use Rattle.std.specs.Ordering.{nat_cmp, ordering_then, is_eq, is_lt}
use Rattle.std.specs.declared.cmp.Ordering.{Ordering}
use Rattle.std.specs.declared.cmp.Ordering.TheVariants.{Less, Equal, Greater}
use Rattle.emu_model.specs.declared.sources.Class.{Class}
use Rattle.emu_model.specs.declared.sources.Class.TheVariants.{NextCommand, Exit, Finish, Expiry, Emission}
use Rattle.emu_model.specs.declared.sources.Source.{Source}
use Rattle.emu_model.specs.Dues.{rank}
use Rattle.timer_wheel.specs.declared.Entry.{Entry}
use Rattle.timer_wheel.specs.declared.ties.Tie.{Tie}
use Rattle.timer_wheel.specs.Rows.{is_before, source_before}
use Rattle.timer_wheel.specs.Ties.{TiesBook, Waits, IsRising, tie_of, tie_before}
use Rattle.timer_wheel.specs.contracts.ties.TieOrd.TheImpl.{cmp-value}
use Rattle.timer_wheel.proofs.EntryOrder.{is_before-order}

abbrev pub tie_cmp : Tie → Tie → Ordering
tie_cmp a b = ordering_then (nat_cmp a.owner b.owner) (ordering_then (nat_cmp (rank a.source.class) (rank b.source.class)) (nat_cmp a.source.number b.source.number))

at_classes : (o p m n : ℕ) (c d : Class) → cmp-value.it (record { owner = o; source = record { class = c; number = m } }) (record { owner = p; source = record { class = d; number = n } }) ≡ tie_cmp (record { owner = o; source = record { class = c; number = m } }) (record { owner = p; source = record { class = d; number = n } })
at_classes o p m n NextCommand NextCommand = refl
at_classes o p m n NextCommand Exit = refl
at_classes o p m n NextCommand Finish = refl
at_classes o p m n NextCommand Expiry = refl
at_classes o p m n NextCommand Emission = refl
at_classes o p m n Exit NextCommand = refl
at_classes o p m n Exit Exit = refl
at_classes o p m n Exit Finish = refl
at_classes o p m n Exit Expiry = refl
at_classes o p m n Exit Emission = refl
at_classes o p m n Finish NextCommand = refl
at_classes o p m n Finish Exit = refl
at_classes o p m n Finish Finish = refl
at_classes o p m n Finish Expiry = refl
at_classes o p m n Finish Emission = refl
at_classes o p m n Expiry NextCommand = refl
at_classes o p m n Expiry Exit = refl
at_classes o p m n Expiry Finish = refl
at_classes o p m n Expiry Expiry = refl
at_classes o p m n Expiry Emission = refl
at_classes o p m n Emission NextCommand = refl
at_classes o p m n Emission Exit = refl
at_classes o p m n Emission Finish = refl
at_classes o p m n Emission Expiry = refl
at_classes o p m n Emission Emission = refl

-- what the derived order compares
pub derived : (a b : Tie) → cmp-value.it a b ≡ tie_cmp a b
derived a b = at_classes a.owner b.owner a.source.number b.source.number a.source.class b.source.class

is_lt-then : (x y : Ordering) → is_lt (ordering_then x y) ≡ (is_lt x || (is_eq x && is_lt y))
is_lt-then Less y = refl
is_lt-then Equal y = refl
is_lt-then Greater y = refl

cmp-lt : (a b : ℕ) → is_lt (nat_cmp a b) ≡ nat_lt a b
cmp-lt a b = by (nat_lt a b) (a == b)
  where
    by : (s t : Bool) → is_lt (cond s Less (cond t Equal Greater)) ≡ s
    by true t = refl
    by false true = refl
    by false false = refl

not_both : (a b : ℕ) → (a == b) ≡ true → nat_lt a b ≡ false
not_both a b h = let e : a ≡ b = eqb-true a b h in le-ltb a b (omega arith)

cmp-eq : (a b : ℕ) → is_eq (nat_cmp a b) ≡ (a == b)
cmp-eq a b =
    elim (cases_Bool (a == b)) [
      | inl t ↦ let f : nat_lt a b ≡ false = not_both a b t in by_false (nat_lt a b) (a == b) f
      | inr n ↦ by_not (nat_lt a b) (a == b) n
    ]
  where
    by_false : (s t : Bool) → s ≡ false → is_eq (cond s Less (cond t Equal Greater)) ≡ t
    by_false s true h = ap (λ r. is_eq (cond r Less Equal)) h
    by_false s false h = ap (λ r. is_eq (cond r Less Greater)) h

    by_not : (s t : Bool) → t ≡ false → is_eq (cond s Less (cond t Equal Greater)) ≡ t
    by_not true t h = sym h
    by_not false true h = refl
    by_not false false h = refl

tie_lt : (a b : Tie) → is_lt (cmp-value.it a b) ≡ tie_before a b
tie_lt a b =
    ap is_lt (derived a b)
    ∙ is_lt-then (nat_cmp a.owner b.owner) (ordering_then (nat_cmp (rank a.source.class) (rank b.source.class)) (nat_cmp a.source.number b.source.number))
    ∙ (λ i. cmp-lt a.owner b.owner i || (cmp-eq a.owner b.owner i && is_lt-then (nat_cmp (rank a.source.class) (rank b.source.class)) (nat_cmp a.source.number b.source.number) i))
    ∙ (λ i. nat_lt a.owner b.owner || ((a.owner == b.owner) && (cmp-lt (rank a.source.class) (rank b.source.class) i || (cmp-eq (rank a.source.class) (rank b.source.class) i && cmp-lt a.source.number b.source.number i))))

abbrev at_due : ℕ → Tie → Entry
at_due d t = record { due = d; owner = t.owner; source = t.source }

-- at one due the order of entries is that of ties
pub before_at : (d : ℕ) (a b : Tie) → is_before (at_due d a) (at_due d b) ≡ tie_before a b
before_at d a b =
    let l : nat_lt d d ≡ false = le-ltb d d (omega arith) in
    let e : (d == d) ≡ true = eq-eqb d d refl in
    (λ i. l i || (e i && tie_before a b))

tie_order : IsStrictWeakOrder (λ a b. is_lt (cmp-value.it a b))
tie_order =
    record {
      one_way = λ a b h. same b a ∙ is_before-order.one_way (at_due 0 a) (at_due 0 b) (sym (same a b) ∙ h);
      chain = λ a b c h k. same a c ∙ is_before-order.chain (at_due 0 a) (at_due 0 b) (at_due 0 c) (sym (same a b) ∙ h) (sym (same b c) ∙ k);
    }
  where
    same : (a b : Tie) → is_lt (cmp-value.it a b) ≡ is_before (at_due 0 a) (at_due 0 b)
    same a b = tie_lt a b ∙ sym (before_at 0 a b)

pub rising_from_sort : (ts : List Tie) → IsSorted cmp-value.it ts → IsRising ts
rising_from_sort ts up i j d h k = sym (tie_lt (get_or ts j d) (get_or ts i d)) ∙ sorted_far (λ a b. is_lt (cmp-value.it a b)) tie_order ts up i j d h k
