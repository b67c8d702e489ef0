-- Rules in order: places by number, and where the jumps of a search go.
use Rattle.std.proofs.Common.{◌≡◌, ℕ, zero, suc, ◌+◌, ◌<◌, ◌≤◌, Bool, true, false, Option, Some, None, List, [], ◌∷◌, length, get_or, refl, sym, ap, ◌∙◌, inl, inr, arith, eqb, ltb, leb}
use Rattle.std.specs.Prelude.{◌||◌, ◌&&◌, ◌⊎◌, not, slice_get, option_map}
use Rattle.std.specs.List.Sorted.{IsPartitionedBy, IsPartitionPoint, IsNonDecreasingBy}
use Rattle.std.proofs.lemmas.Bool.{ltb-true, ltb-false, leb-true, lt-leb, le-leb, cases_lt}
use Rattle.std.proofs.lemmas.Bool.Decides.{nat_tests}
use Rattle.std.proofs.lemmas.Option.{same_Some, none-some, slice_get-get_or, slice_get_past}
use Rattle.std.proofs.lemmas.List.{length-map, get_or-map}
use Rattle.std.proofs.lemmas.List.Sums.{position_or_len_is, passes_at_first}
use Rattle.emu_model.specs.declared.packets.Place.{Place}
use Rattle.emu_model.specs.declared.rules.Action.{Action}
use Rattle.emu_model.specs.declared.rules.Action.TheVariants.{Allow, Deny, Count, SkipTo, Pipe}
use Rattle.emu_model.specs.declared.rules.Rule.{Rule}
use Rattle.emu_model.specs.Rules.{Counted, the_rules, place_of_number, goes_on, action_at, is_behind, start_behind, default_rule}
use Rattle.emu_rules.specs.Walk.{Precedes, Ascends, IsOrdered, GoesForward, target_of}
use Rattle.emu_rules.proofs.Walking.{action}

-- ---- places by number

Precedes-refl : (c : Counted) → Precedes c c
Precedes-refl c = record { number = omega arith; order = λ _. omega arith }

pub Ascends-at : (cs : List Counted) → Ascends cs → (i j : ℕ) (d : Counted) → i ≤ j → j < length cs → Precedes (get_or cs i d) (get_or cs j d)
Ascends-at [] h i j d le within = absurd (omega (arith, within))
Ascends-at (c ∷ cs) h zero zero d le within = Precedes-refl c
Ascends-at (c ∷ cs) h zero (suc j) d le within = h.0 j d (omega (arith, within))
Ascends-at (c ∷ cs) h (suc i) zero d le within = absurd (omega (arith, le))
Ascends-at (c ∷ cs) h (suc i) (suc j) d le within = Ascends-at cs h.1 i j d (omega (arith, le)) (omega (arith, within))

pub numbers_rise : (cs : List Counted) → Ascends cs → IsNonDecreasingBy (λ (c : Counted). c.rule.number) cs
numbers_rise cs h i j d le within = (Ascends-at cs h i j d le within).number

at_rule : (cs : List Counted) (k : ℕ) → k < length cs → get_or (the_rules cs) k default_rule.rule ≡ (get_or cs k default_rule).rule
at_rule cs k h = get_or-map (λ (c : Counted). c.rule) cs k default_rule default_rule.rule h

pub place-from_point : (n : ℕ) (cs : List Counted) (i : ℕ) → i ≤ length cs → IsPartitionPoint (λ c. ltb c.rule.number n ≡ true) (λ c. ltb c.rule.number n ≡ false) cs i → i ≡ place_of_number n (the_rules cs)
place-from_point n cs i within point =
    let len = length-map cs (λ (c : Counted). c.rule) in
    sym
    (position_or_len_is (λ r. leb n r.number) (the_rules cs) i default_rule.rule (omega (arith, len))
    (λ k h.
    let below = ltb-true _ _ (point.0 k default_rule (omega arith) h) in
    ap (λ r. leb n r.number) (at_rule cs k (omega arith)) ∙ lt-leb n _ below)
    (λ h.
    let l : i < length cs = omega (arith, h, len) in
    let above = ltb-false _ _ (point.1 i default_rule (omega arith) l) in
    ap (λ r. leb n r.number) (at_rule cs i l) ∙ le-leb n _ above))

-- a rule stands before the place of another or at it
abbrev pub is_not_behind : Place → Counted → Bool
is_not_behind p c = ltb c.rule.number p.number || (eqb c.rule.number p.number && leb c.order p.order)

not_behind_down : (n o n' o' m q : ℕ) → n ≤ n' → (n ≡ n' → o ≤ o') → (ltb n' m || (eqb n' m && leb o' q)) ≡ true → (ltb n m || (eqb n m && leb o q)) ≡ true
not_behind_down n o n' o' m q le same h = grind (arith, nat_tests)

pub partitioned_behind : (p : Place) (cs : List Counted) → Ascends cs → IsPartitionedBy (is_not_behind p) cs
partitioned_behind p cs h i j d le within t =
    let a = Ascends-at cs h i j d le within in
    let x = get_or cs i d in
    let y = get_or cs j d in
    not_behind_down x.rule.number x.order y.rule.number y.order p.number p.order a.number a.order t

behind_other : (n o m q : ℕ) → (ltb n m || (eqb n m && leb o q)) ≡ not (ltb m n || (eqb m n && ltb q o))
behind_other n o m q = grind (arith, nat_tests)

not_not : (a b : Bool) → a ≡ not b → (a ≡ true → b ≡ false) × (a ≡ false → b ≡ true)
not_not a true e = (λ t. absurd (cc), λ _. refl)
not_not a false e = (λ _. refl, λ t. absurd (cc))

pub start_behind-from_point : (p : Place) (cs : List Counted) (i : ℕ) → i ≤ length cs → IsPartitionPoint (λ c. is_not_behind p c ≡ true) (λ c. is_not_behind p c ≡ false) cs i → i ≡ start_behind p cs
start_behind-from_point p cs i within point =
    let other = λ (c : Counted). not_not (is_not_behind p c) (is_behind p c) (behind_other c.rule.number c.order p.number p.order) in
    sym
    (position_or_len_is (is_behind p) cs i default_rule within
    (λ k h. (other (get_or cs k default_rule)).0 (point.0 k default_rule (omega arith) h))
    (λ h. (other (get_or cs i default_rule)).1 (point.1 i default_rule (omega arith) h)))

-- ---- jumps

pub goes-by : (rs : List Rule) (k : ℕ) (a : Action) (j : ℕ) → goes_on rs k (Some a) ≡ Some j → ((target_of a ≡ None) × (j ≡ k + 1)) ⊎ ((n : ℕ) × (target_of a ≡ Some n) × (j ≡ place_of_number n rs))
goes-by rs k Allow j e = absurd (none-some j e)
goes-by rs k Deny j e = absurd (none-some j e)
goes-by rs k Count j e = inl (refl, sym (same_Some _ _ e))
goes-by rs k (SkipTo n) j e = inr (n, refl, sym (same_Some _ _ e))
goes-by rs k (Pipe n) j e = absurd (none-some j e)

target_forward : (own : ℕ) (a : Action) (n : ℕ) → GoesForward own a → target_of a ≡ Some n → own < n
target_forward own Allow n h e = absurd (none-some n e)
target_forward own Deny n h e = absurd (none-some n e)
target_forward own Count n h e = absurd (none-some n e)
target_forward own (SkipTo m) n h e = let same : m ≡ n = same_Some m n e in omega (arith, h, same)
target_forward own (Pipe m) n h e = absurd (none-some n e)

-- where a search goes on, a rule is
pub goes_within : (cs : List Counted) (k j : ℕ) → goes_on (the_rules cs) k (action_at (the_rules cs) k) ≡ Some j → (k < length cs) × (slice_get cs k ≡ Some (get_or cs k default_rule))
goes_within cs k j e =
    elim (cases_lt k (length cs)) [
      | inl l ↦ (l, slice_get-get_or cs k default_rule l)
      | inr past ↦
          let none : slice_get (the_rules cs) k ≡ None =
          slice_get_past (the_rules cs) k (omega (arith, past, length-map cs (λ (c : Counted). c.rule))) in
          absurd (none-some j (sym (ap (λ (o : Option Rule). goes_on (the_rules cs) k (option_map (λ (r : Rule). r.action) o)) none) ∙ e))
    ]

pub jumps_forward : (cs : List Counted) → IsOrdered cs → (k j : ℕ) → goes_on (the_rules cs) k (action_at (the_rules cs) k) ≡ Some j → k < j
jumps_forward cs h k j e =
    let rs = the_rules cs in
    let at = goes_within cs k j e in
    let c = get_or cs k default_rule in
    elim (goes-by rs k c.rule.action j (sym (ap (goes_on rs k) (action cs k c at.1)) ∙ e)) [
      | inl next ↦ omega (arith, next.1)
      | inr to ↦
          let n = to.0 in
          let up : c.rule.number < n = target_forward c.rule.number c.rule.action n (h.forward k default_rule at.0) to.1 in
          elim (cases_lt k (place_of_number n rs)) [
            | inl l ↦ omega (arith, l, to.2)
            | inr back ↦
                let m = place_of_number n rs in
                let l : m < length cs = omega (arith, back, at.0) in
                let passes = passes_at_first (λ r. leb n r.number) rs default_rule.rule (omega (arith, l, length-map cs (λ (c : Counted). c.rule))) in
                let high : n ≤ (get_or cs m default_rule).rule.number =
                leb-true n _ (sym (ap (λ (r : Rule). leb n r.number) (at_rule cs m l)) ∙ passes) in
                let rises = numbers_rise cs h.ascends m k default_rule back at.0 in
                absurd (omega (arith, up, high, rises))
          ]
    ]

-- a jump that is aimed by its rule's target is the place at which a search goes on
pub aimed : (rs : List Rule) (k : ℕ) (a : Action) (v j : ℕ) → ((target_of a ≡ None) × (v ≡ k + 1)) ⊎ ((n : ℕ) × (target_of a ≡ Some n) × (v ≡ place_of_number n rs)) → goes_on rs k (Some a) ≡ Some j → v ≡ j
aimed rs k a v j (inl next) g =
    elim (goes-by rs k a j g) [
      | inl on ↦ next.1 ∙ sym on.1
      | inr to ↦ absurd (none-some to.0 (sym next.0 ∙ to.1))
    ]
aimed rs k a v j (inr far) g =
    elim (goes-by rs k a j g) [
      | inl on ↦ absurd (none-some far.0 (sym on.0 ∙ far.1))
      | inr to ↦
          far.2 ∙ ap (λ n. place_of_number n rs) (same_Some far.0 to.0 (sym far.1 ∙ to.1)) ∙ sym to.2
    ]
