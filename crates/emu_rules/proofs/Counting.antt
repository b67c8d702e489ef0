-- A walk that counts at each place as it comes there meets the definition, which counts at all
-- places of the search at once: no place comes twice.
use Rattle.std.proofs.Common.{◌≡◌, ℕ, zero, suc, ◌+◌, ◌-◌, ◌<◌, ◌≤◌, Bool, true, false, cond, Option, Some, None, List, [], ◌∷◌, length, get_or, set, refl, sym, ap, ◌∙◌, subst, inl, inr, arith, eqb}
use Rattle.std.specs.Prelude.{◌||◌, slice_get, slice_index}
use Rattle.std.specs.List.{list_any, last_or}
use Rattle.std.proofs.lemmas.Bool.{cases_eq, ne_eqb, eq-eqb, or_from}
use Rattle.std.proofs.lemmas.Option.{same_Some, slice_get_within, get_or_from_slice_get, option_and_then_some}
use Rattle.std.proofs.lemmas.List.{length-set, map-set, set-get_or, get_or-set_same, get_or-set_other, same_lists, get_or-map}
use Rattle.emu_model.specs.declared.packets.Packet.{Packet}
use Rattle.emu_model.specs.declared.rules.Action.{Action}
use Rattle.emu_model.specs.declared.rules.Action.TheVariants.{Allow, Deny, Count, SkipTo, Pipe}
use Rattle.emu_model.specs.declared.rules.Rule.{Rule}
use Rattle.emu_model.specs.declared.rules.Verdict.{Verdict}
use Rattle.emu_model.specs.Rules.{Counted, least_match, goes_on, action_at, next_match, matches_from, verdict_by, verdict_of_match, the_rules}
use Rattle.emu_rules.specs.declared.counted.Amount.{Amount}
use Rattle.emu_rules.specs.Walk.{count_more, count_more_at, decision, AreJumps}
use Rattle.emu_rules.proofs.Walking.{least_match-within, action, ends, next-ends, next-goes, no_matches, jump, judged_at, Answers, Answers-ends, Answers-goes}

-- ---- counting at a list of places

abbrev pub at_place : ℕ → ℕ → Bool
at_place i k = eqb k i

pub length-count_more_at : (ks : List ℕ) (q : Amount) (i : ℕ) (cs : List Counted) → length (count_more_at ks q i cs) ≡ length cs
length-count_more_at ks q i [] = refl
length-count_more_at ks q i (c ∷ cs) = ap suc (length-count_more_at ks q (i + 1) cs)

get_or-count_more_at : (ks : List ℕ) (q : Amount) (i : ℕ) (cs : List Counted) (n : ℕ) (d : Counted) → n < length cs → get_or (count_more_at ks q i cs) n d ≡ cond (list_any (at_place (i + n)) ks) (count_more q (get_or cs n d)) (get_or cs n d)
get_or-count_more_at ks q i [] n d h = absurd (omega (arith, h))
get_or-count_more_at ks q i (c ∷ cs) zero d h =
    ap (λ k. cond (list_any (at_place k) ks) (count_more q c) c) (let e : i ≡ i + 0 = omega arith in e)
get_or-count_more_at ks q i (c ∷ cs) (suc n) d h =
    get_or-count_more_at ks q (i + 1) cs n d (omega (arith, h))
    ∙ ap (λ k. cond (list_any (at_place k) ks) (count_more q (get_or cs n d)) (get_or cs n d)) (let e : i + 1 + n ≡ i + suc n = omega arith in e)

pub count_more_at-none : (q : Amount) (i : ℕ) (cs : List Counted) → count_more_at [] q i cs ≡ cs
count_more_at-none q i [] = refl
count_more_at-none q i (c ∷ cs) = ap (λ rest. c ∷ rest) (count_more_at-none q (i + 1) cs)

-- a place that isn't among the others can be counted first
pub count_more_at-first : (k : ℕ) (ks : List ℕ) (q : Amount) (cs : List Counted) (c : Counted) → slice_get cs k ≡ Some c → list_any (at_place k) ks ≡ false → count_more_at (k ∷ ks) q 0 cs ≡ count_more_at ks q 0 (set cs k (count_more q c))
count_more_at-first k ks q cs c there fresh =
    let xs = count_more_at (k ∷ ks) q 0 cs in
    let new = set cs k (count_more q c) in
    let ys = count_more_at ks q 0 new in
    let within = slice_get_within cs k c there in
    let len = length-set cs k (count_more q c) in
    let same : length xs ≡ length ys = length-count_more_at (k ∷ ks) q 0 cs ∙ sym len ∙ sym (length-count_more_at ks q 0 new) in
    same_lists xs ys same
    (λ n d h.
    let l : n < length cs = omega (arith, h, length-count_more_at (k ∷ ks) q 0 cs) in
    let z : 0 + n ≡ n = omega arith in
    let left : get_or xs n d ≡ cond (eqb k n || list_any (at_place n) ks) (count_more q (get_or cs n d)) (get_or cs n d) =
    get_or-count_more_at (k ∷ ks) q 0 cs n d l ∙ ap (λ j. cond (list_any (at_place j) (k ∷ ks)) (count_more q (get_or cs n d)) (get_or cs n d)) z in
    let right : get_or ys n d ≡ cond (list_any (at_place n) ks) (count_more q (get_or new n d)) (get_or new n d) =
    get_or-count_more_at ks q 0 new n d (omega (arith, l, len)) ∙ ap (λ j. cond (list_any (at_place j) ks) (count_more q (get_or new n d)) (get_or new n d)) z in
    elim (cases_eq k n) [
      | inl e ↦
          let t : eqb k n ≡ true = eq-eqb k n e in
          let f : list_any (at_place n) ks ≡ false = ap (λ j. list_any (at_place j) ks) (sym e) ∙ fresh in
          let was : get_or cs n d ≡ c = ap (λ j. get_or cs j d) (sym e) ∙ get_or_from_slice_get cs k c d there in
          let is : get_or new n d ≡ count_more q c =
          ap (λ j. get_or new j d) (sym e) ∙ get_or-set_same cs k (count_more q c) d within in
          left
          ∙ ap (λ b. cond (b || list_any (at_place n) ks) (count_more q (get_or cs n d)) (get_or cs n d)) t
          ∙ ap (count_more q) was
          ∙ sym is
          ∙ sym (right ∙ ap (λ b. cond b (count_more q (get_or new n d)) (get_or new n d)) f)
      | inr ne ↦
          let t : eqb k n ≡ false = ne_eqb k n ne in
          let is : get_or new n d ≡ get_or cs n d = get_or-set_other cs k n (count_more q c) d (λ e. ne (sym e)) in
          left
          ∙ ap (λ b. cond (b || list_any (at_place n) ks) (count_more q (get_or cs n d)) (get_or cs n d)) t
          ∙ sym (right ∙ ap (λ x. cond (list_any (at_place n) ks) (count_more q x) x) is)
    ])

-- ---- the places of a search go up

abbrev Goes : List Rule → ℕ → ℕ → Type 0
Goes rs k n = (j : ℕ) × (goes_on rs k (action_at rs k) ≡ Some j) × (j ≤ n)

going : (rs : List Rule) (p : Packet) (k n : ℕ) → next_match p rs k ≡ Some n → Goes rs k n
going rs p k n e =
    option_and_then_some {P = Goes rs k n} (least_match p rs) (goes_on rs k (action_at rs k)) n e
    (λ j g m. (j, g, (least_match-within p rs j n m).0))

matches-behind : (rs : List Rule) → ((k j : ℕ) → goes_on rs k (action_at rs k) ≡ Some j → k < j) → (m : ℕ) (p : Packet) (at : Option ℕ) (i : ℕ) → ((k : ℕ) → at ≡ Some k → i < k) → list_any (at_place i) (matches_from m p rs at) ≡ false
matches-behind rs forward zero p at i h = refl
matches-behind rs forward (suc m) p None i h = refl
matches-behind rs forward (suc m) p (Some k) i h =
    let above : i < k = h k refl in
    or_from (eqb k i) (list_any (at_place i) (matches_from m p rs (next_match p rs k)))
    (ne_eqb k i (λ e. absurd (omega arith)))
    (matches-behind rs forward m p (next_match p rs k) i (λ n e.
    let from = going rs p k n e in
    let up : k < from.0 = forward k from.0 from.1 in
    omega (arith, from.2)))

-- ---- a rule that counts keeps what a search reads

pub the_rules-counted : (q : Amount) (cs : List Counted) (k : ℕ) (c : Counted) → slice_get cs k ≡ Some c → the_rules (set cs k (count_more q c)) ≡ the_rules cs
the_rules-counted q cs k c there =
    let l = slice_get_within cs k c there in
    let own : c.rule ≡ get_or (the_rules cs) k c.rule =
    sym (get_or-map (λ (c : Counted). c.rule) cs k c c.rule l ∙ ap (λ (c : Counted). c.rule) (get_or_from_slice_get cs k c c there)) in
    map-set (λ (c : Counted). c.rule) cs k (count_more q c)
    ∙ ap (set (the_rules cs) k) own
    ∙ set-get_or (the_rules cs) k c.rule

verdict_by-counted : (a : Action) (q : Amount) (c : Counted) → verdict_by a (count_more q c) ≡ verdict_by a c
verdict_by-counted Allow q c = refl
verdict_by-counted Deny q c = refl
verdict_by-counted Count q c = refl
verdict_by-counted (SkipTo n) q c = refl
verdict_by-counted (Pipe n) q c = refl

decision-counted : (a : Action) (q : Amount) (c : Counted) → decision a (count_more q c) ≡ decision a c
decision-counted Allow q c = refl
decision-counted Deny q c = refl
decision-counted Count q c = refl
decision-counted (SkipTo n) q c = refl
decision-counted (Pipe n) q c = refl

judged_at-counted : (q : Amount) (cs : List Counted) (k : ℕ) (c : Counted) → slice_get cs k ≡ Some c → (n : ℕ) → verdict_of_match (slice_get (set cs k (count_more q c)) n) ≡ verdict_of_match (slice_get cs n)
judged_at-counted q [] k c there n = refl
judged_at-counted q (x ∷ xs) zero c there zero =
    let same : x ≡ c = same_Some x c there in
    verdict_by-counted c.rule.action q c ∙ ap (λ (c : Counted). verdict_by c.rule.action c) (sym same)
judged_at-counted q (x ∷ xs) zero c there (suc n) = refl
judged_at-counted q (x ∷ xs) (suc k) c there zero = refl
judged_at-counted q (x ∷ xs) (suc k) c there (suc n) = judged_at-counted q xs k c there n

option_judged : (q : Amount) (cs : List Counted) (k : ℕ) (c : Counted) → slice_get cs k ≡ Some c → (at : Option ℕ) → judged_at (set cs k (count_more q c)) at ≡ judged_at cs at
option_judged q cs k c there None = refl
option_judged q cs k c there (Some n) = judged_at-counted q cs k c there n

Answers-counted : (p : Packet) (q : Amount) (cs : List Counted) (from : ℕ) (v : Verdict) (k : ℕ) (c : Counted) → slice_get cs k ≡ Some c → Answers p cs from v → Answers p (set cs k (count_more q c)) from v
Answers-counted p q cs from v k c there h =
    let new = set cs k (count_more q c) in (
      h.0,
      omega (arith, h.1, length-set cs k (count_more q c)),
      ap (λ rs. judged_at new (last_or None (matches_from h.0 p rs (least_match p rs from)))) (the_rules-counted q cs k c there)
          ∙ option_judged q cs k c there (last_or None (matches_from h.0 p (the_rules cs) (least_match p (the_rules cs) from)))
          ∙ h.2,
    )

-- ---- the counting walk

abbrev pub counted : ℕ → Packet → Amount → List Counted → ℕ → List Counted
counted m p q cs from = count_more_at (matches_from m p (the_rules cs) (least_match p (the_rules cs) from)) q 0 cs

-- a search from this place on leaves these rules
abbrev pub Leaves : Packet → Amount → List Counted → ℕ → List Counted → Type 0
Leaves p q cs from want = (m : ℕ) × (length cs ≤ m + from) × (counted m p q cs from ≡ want)

pub Leaves-none : (p : Packet) (q : Amount) (cs : List Counted) (from : ℕ) (want : List Counted) → Leaves p q cs from want → least_match p (the_rules cs) from ≡ None → cs ≡ want
Leaves-none p q cs from want h e =
    sym (count_more_at-none q 0 cs)
    ∙ ap (λ ks. count_more_at ks q 0 cs) (sym (no_matches h.0 p (the_rules cs)))
    ∙ ap (λ at. count_more_at (matches_from h.0 p (the_rules cs) at) q 0 cs) (sym e)
    ∙ h.2

leaves_ends : (m : ℕ) (p : Packet) (q : Amount) (cs : List Counted) (k : ℕ) (c : Counted) (w : Verdict) → 0 < m → slice_get cs k ≡ Some c → decision c.rule.action c ≡ Some w → count_more_at (matches_from m p (the_rules cs) (Some k)) q 0 cs ≡ set cs k (count_more q c)
leaves_ends zero p q cs k c w pos there d = absurd (omega arith)
leaves_ends (suc m) p q cs k c w pos there d =
    let rs = the_rules cs in
    let stops : next_match p rs k ≡ None =
    next-ends p rs k (ap (goes_on rs k) (action cs k c there) ∙ (ends rs k c.rule.action c w d).0) in
    ap (λ at. count_more_at (k ∷ matches_from m p rs at) q 0 cs) stops
    ∙ ap (λ ks. count_more_at (k ∷ ks) q 0 cs) (no_matches m p rs)
    ∙ count_more_at-first k [] q cs c there refl
    ∙ count_more_at-none q 0 (set cs k (count_more q c))

pub Leaves-ends : (p : Packet) (q : Amount) (cs : List Counted) (from : ℕ) (want : List Counted) (k : ℕ) (c : Counted) (w : Verdict) → Leaves p q cs from want → least_match p (the_rules cs) from ≡ Some k → slice_get cs k ≡ Some c → decision c.rule.action (count_more q c) ≡ Some w → set cs k (count_more q c) ≡ want
Leaves-ends p q cs from want k c w h e there d =
    let b = least_match-within p (the_rules cs) from k e in
    let l = slice_get_within cs k c there in
    sym (leaves_ends h.0 p q cs k c w (omega (arith, h.1, b.0)) there (sym (decision-counted c.rule.action q c) ∙ d))
    ∙ ap (λ at. count_more_at (matches_from h.0 p (the_rules cs) at) q 0 cs) (sym e)
    ∙ h.2

leaves_goes : (m : ℕ) (p : Packet) (q : Amount) (cs : List Counted) (jumps : List ℕ) (k : ℕ) (c : Counted) → 0 < m → AreJumps (the_rules cs) jumps → slice_get cs k ≡ Some c → decision c.rule.action c ≡ None → count_more_at (matches_from m p (the_rules cs) (Some k)) q 0 cs ≡ counted (m - 1) p q (set cs k (count_more q c)) (slice_index jumps k)
leaves_goes zero p q cs jumps k c pos are there d = absurd (omega arith)
leaves_goes (suc m) p q cs jumps k c pos are there d =
    let rs = the_rules cs in
    let j = slice_index jumps k in
    let g = jump cs jumps k c are there d in
    let next : next_match p rs k ≡ least_match p rs j = next-goes p rs k j g.0 in
    let new = set cs k (count_more q c) in
    let fresh : list_any (at_place k) (matches_from m p rs (least_match p rs j)) ≡ false =
    matches-behind rs are.forward m p (least_match p rs j) k (λ n e.
    let b = least_match-within p rs j n e in
    omega (arith, g.1, b.0)) in
    ap (λ at. count_more_at (k ∷ matches_from m p rs at) q 0 cs) next
    ∙ count_more_at-first k (matches_from m p rs (least_match p rs j)) q cs c there fresh
    ∙ ap (λ rs. count_more_at (matches_from m p rs (least_match p rs j)) q 0 new) (sym (the_rules-counted q cs k c there))
    ∙ ap (λ n. counted n p q new j) (let less : m ≡ suc m - 1 = omega arith in less)

pub Leaves-goes : (p : Packet) (q : Amount) (cs : List Counted) (jumps : List ℕ) (from : ℕ) (want : List Counted) (k : ℕ) (c : Counted) → AreJumps (the_rules cs) jumps → Leaves p q cs from want → least_match p (the_rules cs) from ≡ Some k → slice_get cs k ≡ Some c → decision c.rule.action (count_more q c) ≡ None → Leaves p q (set cs k (count_more q c)) (slice_index jumps k) want
Leaves-goes p q cs jumps from want k c are h e there d =
    let b = least_match-within p (the_rules cs) from k e in
    let l = slice_get_within cs k c there in
    let on : decision c.rule.action c ≡ None = sym (decision-counted c.rule.action q c) ∙ d in
    let g = jump cs jumps k c are there on in (
      h.0 - 1,
      omega (arith, h.1, b.0, g.1, length-set cs k (count_more q c)),
      sym (leaves_goes h.0 p q cs jumps k c (omega (arith, h.1, b.0)) are there on)
          ∙ ap (λ at. count_more_at (matches_from h.0 p (the_rules cs) at) q 0 cs) (sym e)
          ∙ h.2,
    )

-- the verdict of the same walk

pub Answers-ends_counted : (p : Packet) (q : Amount) (cs : List Counted) (from : ℕ) (v : Verdict) (k : ℕ) (c : Counted) (w : Verdict) → Answers p cs from v → least_match p (the_rules cs) from ≡ Some k → slice_get cs k ≡ Some c → decision c.rule.action (count_more q c) ≡ Some w → w ≡ v
Answers-ends_counted p q cs from v k c w h e there d =
    Answers-ends p cs from v k c w h e there (sym (decision-counted c.rule.action q c) ∙ d)

pub Answers-goes_counted : (p : Packet) (q : Amount) (cs : List Counted) (jumps : List ℕ) (from : ℕ) (v : Verdict) (k : ℕ) (c : Counted) → AreJumps (the_rules cs) jumps → Answers p cs from v → least_match p (the_rules cs) from ≡ Some k → slice_get cs k ≡ Some c → decision c.rule.action (count_more q c) ≡ None → Answers p (set cs k (count_more q c)) (slice_index jumps k) v
Answers-goes_counted p q cs jumps from v k c are h e there d =
    Answers-counted p q cs (slice_index jumps k) v k c there
    (Answers-goes p cs jumps from v k c are h e there (sym (decision-counted c.rule.action q c) ∙ d))

-- ---- both at once, as the code has them: `new` is the rule that has counted

pub counting_ends : (p : Packet) (q : Amount) (cs : List Counted) (from : ℕ) (v : Verdict) (want : List Counted) (k : ℕ) (c new : Counted) (w : Verdict) → Answers p cs from v → Leaves p q cs from want → least_match p (the_rules cs) from ≡ Some k → slice_get cs k ≡ Some c → new ≡ count_more q c → decision new.rule.action new ≡ Some w → (w ≡ v) × (set cs k new ≡ want)
counting_ends p q cs from v want k c new w answers leaves e there is d =
    let d' : decision c.rule.action (count_more q c) ≡ Some w = sym (ap (λ (n : Counted). decision n.rule.action n) is) ∙ d in (
      Answers-ends_counted p q cs from v k c w answers e there d',
      ap (set cs k) is ∙ Leaves-ends p q cs from want k c w leaves e there d',
    )

-- what the walk keeps at its next place
pub record Goes_on (p : Packet) (q : Amount) (cs new : List Counted) (j : ℕ) (v : Verdict) (want : List Counted) : Type 0 where
  pub same : the_rules new ≡ the_rules cs
  pub answers : Answers p new j v
  pub leaves : Leaves p q new j want

pub counting_goes : (p : Packet) (q : Amount) (cs : List Counted) (jumps : List ℕ) (from : ℕ) (v : Verdict) (want : List Counted) (k : ℕ) (c new : Counted) → AreJumps (the_rules cs) jumps → Answers p cs from v → Leaves p q cs from want → least_match p (the_rules cs) from ≡ Some k → slice_get cs k ≡ Some c → new ≡ count_more q c → decision new.rule.action new ≡ None → Goes_on p q cs (set cs k new) (slice_index jumps k) v want
counting_goes p q cs jumps from v want k c new are answers leaves e there is d =
    let d' : decision c.rule.action (count_more q c) ≡ None = sym (ap (λ (n : Counted). decision n.rule.action n) is) ∙ d in
    subst (λ (n : Counted). Goes_on p q cs (set cs k n) (slice_index jumps k) v want) (sym is)
    (record {
      same = the_rules-counted q cs k c there;
      answers = Answers-goes_counted p q cs jumps from v k c are answers e there d';
      leaves = Leaves-goes p q cs jumps from want k c are leaves e there d';
    })

pub jump-counted : (p : Packet) (q : Amount) (cs : List Counted) (jumps : List ℕ) (k : ℕ) (c new : Counted) → AreJumps (the_rules cs) jumps → slice_get cs k ≡ Some c → new ≡ count_more q c → decision new.rule.action new ≡ None → k < slice_index jumps k
jump-counted p q cs jumps k c new are there is d =
    (jump cs jumps k c are there (sym (decision-counted c.rule.action q c) ∙ sym (ap (λ (n : Counted). decision n.rule.action n) is) ∙ d)).1

-- counting at one place
pub count_one : (q : Amount) (cs : List Counted) (k : ℕ) (c : Counted) → slice_get cs k ≡ Some c → set cs k (count_more q c) ≡ count_more_at (k ∷ []) q 0 cs
count_one q cs k c there =
    sym (count_more_at-first k [] q cs c there refl ∙ count_more_at-none q 0 (set cs k (count_more q c)))
