-- A search ends at a rule that decides: the default, which is the last, matches each packet and denies it, and a jump goes
-- forward, not beyond it.
use Rattle.std.proofs.Common.{◌≡◌, ℕ, zero, suc, ◌+◌, ◌/◌, ◌^◌, ◌<◌, ◌≤◌, Bool, true, false, cond, Option, Some, None, List, [], ◌∷◌, length, drop, refl, sym, ap, ◌∙◌, subst, inl, inr, ◌⊎◌, arith, add-one, eqb, ltb, leb}
use Rattle.std.specs.Prelude.{not, ◌&&◌, slice_get, filter, position, option_map, option_and_then}
use Rattle.std.specs.List.{AllByRecursion, list_any, position_or_len, last_or}
use Rattle.std.proofs.lemmas.Bool.{cases_Bool, or_parts, and_parts, ltb-true, ltb-false, leb-true, leb-false, lt-ltb, le-ltb, lt-leb, eq-eqb, ne_eqb}
use Rattle.std.proofs.Math.Nat.{div-eq_of_lt}
use Rattle.std.proofs.lemmas.Option.{same_Some, none-some, slice_get-map}
use Rattle.std.proofs.lemmas.List.{length-map}
use Rattle.emu_laws.proofs.Types.{Packet, Place, Action, Allow, Deny, Count, SkipTo, Pipe, Rule, Verdict, Dropped, Spec, Timed, BadNumber, BadSkip, RulesFull, NoRule}
use Rattle.emu_model.specs.Rules.{Counted, default_rule, rule_matches, least_match, place_of_number, goes_on, action_at, next_match, matches_from, is_behind, start_behind, verdict_by, verdict_of_match, the_rules, count_packet, count_at, new_rule, with_rule, is_rule_number, is_bad_skip, is_full}
use Rattle.emu_model.specs.Alone.{alone}
use Rattle.emu_laws.proofs.EachOf.{either, of_choice, each_weaker, each_got}
use Rattle.emu_laws.proofs.BooksKept.{KeepsBook, books_keep}
use Rattle.emu_laws.specs.SearchEnds.{decides, EndsAt, ends, passes, counts, skips, IsDecided, HasAddresses, SearchesAreDecided}

-- a jump goes to a greater number, the default's at most
Forward : ℕ → Action → Type 0
Forward own (SkipTo n) = (own < n) × (n ≤ 65535)
Forward own _ = Unit {0}

-- a rule that was added
record IsAdded (c : Counted) : Type 0 where
  number : c.rule.number ≤ 65534
  forward : Forward c.rule.number c.rule.action

-- the default, with none behind it
record IsLast (c : Counted) (cs : List Counted) : Type 0 where
  rule : c.rule ≡ default_rule.rule
  none : cs ≡ []

-- rules that were added, by number, and the default
InOrder : List Counted → Type 0
InOrder [] = ⊥
InOrder (c ∷ cs) = IsLast c cs ⊎ (IsAdded c × AllByRecursion (λ d. c.rule.number ≤ d.rule.number) cs × InOrder cs)

not_empty : (cs : List Counted) → InOrder cs → 0 < length cs
unfolding InOrder
not_empty [] h = absurd h
not_empty (c ∷ cs) h = omega arith

-- those behind a rule, and it itself, are at least at a number that it is at
from_first : (k : ℕ) (c : Counted) (cs : List Counted) → InOrder (c ∷ cs) → k ≤ c.rule.number →
    AllByRecursion (λ d. k ≤ d.rule.number) (c ∷ cs)
unfolding InOrder
from_first k c cs h le = elim h [
  | inl l ↦ (le, subst (AllByRecursion (λ d. k ≤ d.rule.number)) (sym l.none) tt)
  | inr a ↦ (le, each_weaker (λ d. c.rule.number ≤ d.rule.number) (λ d. k ≤ d.rule.number) (λ d g. omega (arith, g, le)) cs a.1)
]

number_of_last : (c : Counted) → c.rule ≡ default_rule.rule → c.rule.number ≡ 65535
number_of_last c e = ap (λ r. r.number) e

-- ---- what an adding keeps

each-with_rule : (P : Counted → Type 0) (o : ℕ) (r : Rule) (cs : List Counted) → P (new_rule o r) →
    AllByRecursion P cs → AllByRecursion P (with_rule o r cs)
each-with_rule P o r [] new h = (new, tt)
each-with_rule P o r (c ∷ cs) new h =
    either (AllByRecursion P) (ltb r.number c.rule.number) (new_rule o r ∷ c ∷ cs) (c ∷ with_rule o r cs) (new, h)
    (h.0, each-with_rule P o r cs new h.1)

in_order-with_rule : (o : ℕ) (r : Rule) (cs : List Counted) → r.number ≤ 65534 → Forward r.number r.action →
    InOrder cs → InOrder (with_rule o r cs)
unfolding InOrder
in_order-with_rule o r [] low f h = absurd h
in_order-with_rule o r (c ∷ cs) low f h =
    of_choice InOrder (ltb r.number c.rule.number) (new_rule o r ∷ c ∷ cs) (c ∷ with_rule o r cs)
    (λ t. inr (
      record { number = low; forward = f },
      from_first r.number c cs h (omega (arith, ltb-true r.number c.rule.number t)),
      h,
    ))
    (λ e.
    let le : c.rule.number ≤ r.number = ltb-false r.number c.rule.number e in
    elim h as (λ _. InOrder (c ∷ with_rule o r cs)) [
      | inl l ↦ absurd (omega (arith, number_of_last c l.rule, le, low))
      | inr a ↦ inr (
        a.0,
        each-with_rule (λ d. c.rule.number ≤ d.rule.number) o r cs le a.1,
        in_order-with_rule o r cs low f a.2,
      )
    ])

-- ---- what a deletion keeps

each-kept : (P : Counted → Type 0) (test : Counted → Bool) (cs : List Counted) → AllByRecursion P cs →
    AllByRecursion P (filter test cs)
each-kept P test [] h = tt
each-kept P test (c ∷ cs) h =
    either (AllByRecursion P) (test c) (c ∷ filter test cs) (filter test cs) (h.0, each-kept P test cs h.1)
    (each-kept P test cs h.1)

in_order-without : (n : ℕ) (cs : List Counted) → n ≤ 65534 → InOrder cs →
    InOrder (filter (λ c. not (eqb c.rule.number n)) cs)
unfolding InOrder
in_order-without n [] low h = absurd h
in_order-without n (c ∷ cs) low h =
    let test : Counted → Bool = λ c. not (eqb c.rule.number n) in
    elim h as (λ _. InOrder (filter (λ c. not (eqb c.rule.number n)) (c ∷ cs))) [
      | inl l ↦
          subst (λ xs. InOrder (filter (λ c. not (eqb c.rule.number n)) (c ∷ xs))) (sym l.none)
          (of_choice InOrder (not (eqb c.rule.number n)) (c ∷ []) []
          (λ _. inl (record { rule = l.rule; none = refl }))
          (λ e. absurd (other (eqb c.rule.number n) (ne_eqb c.rule.number n (λ g. omega (arith, g, low, number_of_last c l.rule))) e)))
      | inr a ↦
          of_choice InOrder (not (eqb c.rule.number n)) (c ∷ filter (λ c. not (eqb c.rule.number n)) cs)
          (filter (λ c. not (eqb c.rule.number n)) cs)
          (λ _. inr (
            a.0,
            each-kept (λ d. c.rule.number ≤ d.rule.number) test cs a.1,
            in_order-without n cs low a.2,
          ))
          (λ _. in_order-without n cs low a.2)
    ]
  where
    other : (b : Bool) → b ≡ false → not b ≡ false → ⊥
    other true e g = cc e
    other false e g = cc g

-- ---- what a search keeps

each-counted : (P : Counted → Type 0) (ks : List ℕ) (p : Packet) (i : ℕ) (cs : List Counted) →
    ((c : Counted) → P c → P (count_packet p c)) → AllByRecursion P cs → AllByRecursion P (count_at ks p i cs)
each-counted P ks p i [] same h = tt
each-counted P ks p i (c ∷ cs) same h = (
  either P (list_any (λ k. eqb k i) ks) (count_packet p c) c (same c h.0) h.0,
  each-counted P ks p (i + 1) cs same h.1,
)

in_order-counted : (ks : List ℕ) (p : Packet) (i : ℕ) (cs : List Counted) → InOrder cs → InOrder (count_at ks p i cs)
unfolding InOrder
in_order-counted ks p i [] h = h
in_order-counted ks p i (c ∷ cs) h =
    let rest : List Counted = count_at ks p (i + 1) cs in
    let hit : Bool = list_any (λ k. eqb k i) ks in
    elim h as (λ _. InOrder (count_at ks p i (c ∷ cs))) [
      | inl l ↦ inl (record {
        rule = either (λ x. x.rule ≡ default_rule.rule) hit (count_packet p c) c l.rule l.rule;
        none = subst (λ xs. count_at ks p (i + 1) xs ≡ []) (sym l.none) refl;
      })
      | inr a ↦
          let up : AllByRecursion (λ d. c.rule.number ≤ d.rule.number) rest =
          each-counted (λ d. c.rule.number ≤ d.rule.number) ks p (i + 1) cs (λ d g. g) a.1 in
          either (λ x. InOrder (x ∷ rest)) hit (count_packet p c) c
          (inr (record { number = a.0.number; forward = a.0.forward }, up, in_order-counted ks p (i + 1) cs a.2))
          (inr (a.0, up, in_order-counted ks p (i + 1) cs a.2))
    ]

-- ---- in every state

forward : (own : ℕ) (a : Action) → is_bad_skip own a ≡ false → Forward own a
unfolding Forward
forward own Allow e = tt
forward own Deny e = tt
forward own Count e = tt
forward own (SkipTo n) e =
    let parts = or_parts (leb n own) (ltb 65535 n) e in
    (leb-false n own parts.0, ltb-false 65535 n parts.1)
forward own (Pipe n) e = tt

accepted : (x y z : Bool) →
    cond (not x) (Some BadNumber) (cond y (Some BadSkip) (cond z (Some RulesFull) None)) ≡ None → (x ≡ true) × (y ≡ false)
accepted true true z e = absurd (cc e)
accepted true false z e = (refl, refl)
accepted false y z e = absurd (cc e)

known : (x y : Bool) → cond (not x) (Some BadNumber) (cond y None (Some NoRule)) ≡ None → x ≡ true
known true y e = refl
known false y e = absurd (cc e)

numbered : (n : ℕ) → is_rule_number n ≡ true → n ≤ 65534
numbered n e = leb-true n 65534 (and_parts (leb 1 n) (leb n 65534) e).1

book-keeps : KeepsBook (λ b. InOrder b.rules)
book-keeps = record {
  searched = λ start p b h. in_order-counted _ p 0 b.rules h;
  added = λ r b e h.
      let parts = accepted (is_rule_number r.number) (is_bad_skip r.number r.action) (is_full b) e in
      in_order-with_rule b.added r b.rules (numbered r.number parts.0) (forward r.number r.action parts.1) h;
  deleted = λ k b e h.
      in_order-without k b.rules (numbered k (known (is_rule_number k) (list_any (λ c. eqb c.rule.number k) b.rules) e)) h;
}

in_order : (spec : Spec) (c : List Timed) (n : ℕ) → InOrder (alone spec c n).net.book.rules
unfolding InOrder
in_order spec c n = books_keep (λ b. InOrder b.rules) book-keeps (inl (record { rule = refl; none = refl })) spec c n

-- ---- what stands at a place

rule_at : (cs : List Counted) (i : ℕ) → i < length cs → (c : Counted) × (slice_get cs i ≡ Some c)
rule_at [] i l = absurd (omega (arith, l))
rule_at (c ∷ cs) zero l = (c, refl)
rule_at (c ∷ cs) (suc i) l = rule_at cs i (omega (arith, l))

-- the default, or a rule that was added and has one behind it
at_place : (cs : List Counted) (i : ℕ) (c : Counted) → InOrder cs → slice_get cs i ≡ Some c →
    (c.rule ≡ default_rule.rule) ⊎ (IsAdded c × (i + 1 < length cs))
unfolding InOrder
at_place [] i c h e = absurd h
at_place (x ∷ xs) zero c h e =
    let same : x ≡ c = same_Some x c e in
    elim h [
      | inl l ↦ inl (ap (λ y. y.rule) (sym same) ∙ l.rule)
      | inr a ↦ inr (subst IsAdded same a.0, omega (arith, not_empty xs a.2))
    ]
at_place (x ∷ xs) (suc i) c h e = elim h [
  | inl l ↦ absurd (none-some c (ap (λ ys. slice_get ys i) (sym l.none) ∙ e))
  | inr a ↦ elim (at_place xs i c a.2 e) [
    | inl g ↦ inl g
    | inr b ↦ inr (b.0, omega (arith, b.1))
  ]
]

first_here : {A : Type 0} (f : A → Bool) (x : A) (xs : List A) → f x ≡ true → position_or_len f (x ∷ xs) ≡ 0
first_here f x xs e = rw e refl

first_later : {A : Type 0} (f : A → Bool) (x : A) (xs : List A) → f x ≡ false →
    position_or_len f (x ∷ xs) ≡ 1 + position_or_len f xs
first_later f x xs e = rw e refl

-- a jump ends at a rule, and one behind
within_number : (n : ℕ) (cs : List Counted) → InOrder cs → n ≤ 65535 → place_of_number n (the_rules cs) < length cs
unfolding InOrder
within_number n [] h le = absurd h
within_number n (c ∷ cs) h le =
    let test : Rule → Bool = λ r. leb n r.number in
    elim (cases_Bool (leb n c.rule.number)) [
      | inl t ↦ omega (arith, first_here test c.rule (the_rules cs) t)
      | inr f ↦ elim h [
        | inl l ↦ absurd (omega (arith, leb-false n c.rule.number f, number_of_last c l.rule, le))
        | inr a ↦ omega (arith, first_later test c.rule (the_rules cs) f, within_number n cs a.2 le)
      ]
    ]

behind_place : (n : ℕ) (cs : List Counted) (i : ℕ) (c : Counted) → InOrder cs → slice_get cs i ≡ Some c →
    c.rule.number < n → i < place_of_number n (the_rules cs)
unfolding InOrder
behind_place n [] i c h e up = absurd h
behind_place n (x ∷ xs) zero c h e up =
    let same : x.rule.number ≡ c.rule.number = ap (λ y. y.rule.number) (same_Some x c e) in
    omega (arith, first_later (λ r. leb n r.number) x.rule (the_rules xs) (lt-leb n x.rule.number (omega (arith, up, same))))
behind_place n (x ∷ xs) (suc i) c h e up = elim h [
  | inl l ↦ absurd (none-some c (ap (λ ys. slice_get ys i) (sym l.none) ∙ e))
  | inr a ↦
      let low : x.rule.number ≤ c.rule.number = each_got (λ d. x.rule.number ≤ d.rule.number) c xs i e a.1 in
      omega (
        arith,
        first_later (λ r. leb n r.number) x.rule (the_rules xs) (lt-leb n x.rule.number (omega (arith, up, low))),
        behind_place n xs i c a.2 e up,
      )
]

-- behind the place of any rule but the default a rule stands
start_within : (place : Place) (cs : List Counted) → InOrder cs → place.number < 65535 → start_behind place cs < length cs
unfolding InOrder
start_within place [] h low = absurd h
start_within place (c ∷ cs) h low = elim (cases_Bool (is_behind place c)) [
  | inl t ↦ omega (arith, first_here (is_behind place) c cs t)
  | inr f ↦ elim h [
    | inl l ↦
        let parts = or_parts (ltb place.number c.rule.number) (eqb place.number c.rule.number && ltb place.order c.order) f in
        absurd (omega (arith, ltb-false place.number c.rule.number parts.0, number_of_last c l.rule, low))
    | inr a ↦ omega (arith, first_later (is_behind place) c cs f, start_within place cs a.2 low)
  ]
]

-- ---- the least place that matches

drop_at : {A : Type 0} (xs : List A) (i : ℕ) (x : A) → slice_get xs i ≡ Some x → drop i xs ≡ x ∷ drop (suc i) xs
drop_at [] i x e = absurd (none-some x e)
drop_at (y ∷ ys) zero x e = ap (λ z. z ∷ ys) (same_Some y x e)
drop_at (y ∷ ys) (suc i) x e = drop_at ys i x e

position_here : {A : Type 0} (f : A → Bool) (x : A) (xs : List A) → f x ≡ true → position f (x ∷ xs) ≡ Some 0
position_here f x xs e = rw e (rw (lt-ltb 0 (length (x ∷ xs)) (omega arith)) refl)

position_later : {A : Type 0} (f : A → Bool) (x : A) (xs : List A) → f x ≡ false →
    position f (x ∷ xs) ≡ option_map suc (position f xs)
position_later f x xs e =
    let n : ℕ = position_or_len f xs in
    let one : suc n ≡ 1 + n = omega arith in
    rw e (elim (cases_Bool (ltb n (length xs))) [
      | inl t ↦
          ap (λ b. cond b (Some (1 + n)) None) (lt-ltb (1 + n) (length (x ∷ xs)) (omega (arith, ltb-true n (length xs) t)))
          ∙ ap Some (sym one) ∙ ap (λ b. option_map suc (cond b (Some n) None)) (sym t)
      | inr g ↦
          ap (λ b. cond b (Some (1 + n)) None) (le-ltb (1 + n) (length (x ∷ xs)) (omega (arith, ltb-false n (length xs) g)))
          ∙ ap (λ b. option_map suc (cond b (Some n) None)) (sym g)
    ])

from_next : (i : ℕ) (o : Option ℕ) → option_map (λ k. i + k) (option_map suc o) ≡ option_map (λ k. i + 1 + k) o
from_next i None = refl
from_next i (Some k) = ap Some (omega arith)

match_here : (p : Packet) (rs : List Rule) (i : ℕ) (r : Rule) → slice_get rs i ≡ Some r → rule_matches p r ≡ true →
    least_match p rs i ≡ Some i
match_here p rs i r e m =
    ap (λ l. option_map (λ k. i + k) (position (rule_matches p) l)) (drop_at rs i r e)
    ∙ ap (option_map (λ k. i + k)) (position_here (rule_matches p) r (drop (suc i) rs) m)
    ∙ ap Some (omega arith)

match_later : (p : Packet) (rs : List Rule) (i : ℕ) (r : Rule) → slice_get rs i ≡ Some r → rule_matches p r ≡ false →
    least_match p rs i ≡ least_match p rs (i + 1)
match_later p rs i r e m =
    ap (λ l. option_map (λ k. i + k) (position (rule_matches p) l)) (drop_at rs i r e)
    ∙ ap (option_map (λ k. i + k)) (position_later (rule_matches p) r (drop (suc i) rs) m)
    ∙ from_next i (position (rule_matches p) (drop (suc i) rs))
    ∙ ap (λ j. option_map (λ k. i + 1 + k) (position (rule_matches p) (drop j rs))) (sym (add-one i))

-- ---- the verdict of the places that are left

abbrev judged_at : List Counted → Option ℕ → Verdict
judged_at cs at = verdict_of_match (option_and_then (slice_get cs) at)

abbrev judged : ℕ → Packet → List Counted → Option ℕ → Verdict
judged m p cs at = judged_at cs (last_or None (matches_from m p (the_rules cs) at))

rule_of : (cs : List Counted) (i : ℕ) (c : Counted) → slice_get cs i ≡ Some c → slice_get (the_rules cs) i ≡ Some c.rule
rule_of cs i c e = slice_get-map (λ (c : Counted). c.rule) cs i ∙ ap (option_map (λ (c : Counted). c.rule)) e

action_of : (cs : List Counted) (i : ℕ) (c : Counted) → slice_get cs i ≡ Some c →
    action_at (the_rules cs) i ≡ Some c.rule.action
action_of cs i c e = ap (option_map (λ (r : Rule). r.action)) (rule_of cs i c e)

no_match : (m : ℕ) (p : Packet) (rs : List Rule) → matches_from m p rs None ≡ []
no_match zero p rs = refl
no_match (suc m) p rs = refl

no_further : (rs : List Rule) (i : ℕ) (a : Action) → decides a ≡ true → goes_on rs i (Some a) ≡ None
no_further rs i Allow e = refl
no_further rs i Deny e = refl
no_further rs i Count e = absurd (cc e)
no_further rs i (SkipTo n) e = absurd (cc e)
no_further rs i (Pipe n) e = refl

ends_here : (m : ℕ) (p : Packet) (cs : List Counted) (i : ℕ) (c : Counted) → slice_get cs i ≡ Some c →
    decides c.rule.action ≡ true → judged (suc m) p cs (Some i) ≡ verdict_by c.rule.action c
ends_here m p cs i c e d =
    let rs : List Rule = the_rules cs in
    let none : next_match p rs i ≡ None =
    ap (λ o. option_and_then (least_match p rs) (goes_on rs i o)) (action_of cs i c e)
    ∙ ap (option_and_then (least_match p rs)) (no_further rs i c.rule.action d) in
    ap (λ o. judged_at cs (last_or (Some i) (matches_from m p rs o))) none
    ∙ ap (λ ks. judged_at cs (last_or (Some i) ks)) (no_match m p rs)
    ∙ ap verdict_of_match e

-- a rule that goes on says nothing itself
says_nothing : (cs : List Counted) (i : ℕ) (ks : List ℕ) → judged_at cs (Some i) ≡ Dropped →
    judged_at cs (last_or (Some i) ks) ≡ judged_at cs (last_or None ks)
says_nothing cs i [] e = e
says_nothing cs i (k ∷ ks) e = refl

goes_further : (m : ℕ) (p : Packet) (cs : List Counted) (i j : ℕ) (c : Counted) → slice_get cs i ≡ Some c →
    goes_on (the_rules cs) i (Some c.rule.action) ≡ Some j → verdict_by c.rule.action c ≡ Dropped →
    judged (suc m) p cs (Some i) ≡ judged m p cs (least_match p (the_rules cs) j)
goes_further m p cs i j c e goes nothing =
    let rs : List Rule = the_rules cs in
    let next : next_match p rs i ≡ least_match p rs j =
    ap (λ o. option_and_then (least_match p rs) (goes_on rs i o)) (action_of cs i c e)
    ∙ ap (option_and_then (least_match p rs)) goes in
    ap (λ o. judged_at cs (last_or (Some i) (matches_from m p rs o))) next
    ∙ says_nothing cs i (matches_from m p rs (least_match p rs j)) (ap verdict_of_match e ∙ nothing)

-- ---- from rule to rule

-- the default matches each packet
address_zero : (a : ℕ) → a < 2 ^ 32 → eqb (a / 2 ^ 32) 0 ≡ true
address_zero a h = eq-eqb (a / 2 ^ 32) 0 (div-eq_of_lt h)

default_matches : (p : Packet) → HasAddresses p → rule_matches p default_rule.rule ≡ true
default_matches p h = rw (address_zero p.src h.src, address_zero p.dst h.dst) refl

record Found (m : ℕ) (p : Packet) (cs : List Counted) (i : ℕ) : Type 0 where
  rule : Counted
  path : EndsAt p cs i rule
  is : judged m p cs (least_match p (the_rules cs) i) ≡ verdict_by rule.rule.action rule

-- one rule further, where it is known of the places behind
module _ (m : ℕ) (p : Packet) (cs : List Counted) (i : ℕ) (h : InOrder cs) (enough : length cs ≤ suc m + i)
    (later : (k j : ℕ) → i < j → j < length cs → length cs ≤ k + j → Found k p cs j) where
  abbrev rs : List Rule
  rs = the_rules cs

  here : (c : Counted) → slice_get cs i ≡ Some c → rule_matches p c.rule ≡ true → least_match p rs i ≡ Some i
  here c e t = match_here p rs i c.rule (rule_of cs i c e) t

  done : (c : Counted) → slice_get cs i ≡ Some c → rule_matches p c.rule ≡ true → decides c.rule.action ≡ true →
      Found (suc m) p cs i
  done c e t word = record {
    rule = c;
    path = ends e t word;
    is = ap (judged (suc m) p cs) (here c e t) ∙ ends_here m p cs i c e word;
  }

  further : (j : ℕ) (c : Counted) → slice_get cs i ≡ Some c → rule_matches p c.rule ≡ true →
      goes_on rs i (Some c.rule.action) ≡ Some j → verdict_by c.rule.action c ≡ Dropped → i < j → j < length cs →
      ((r : Counted) → EndsAt p cs j r → EndsAt p cs i r) → Found (suc m) p cs i
  further j c e t goes nothing up there longer =
      let r : Found m p cs j = later m j up there (omega (arith, enough, up)) in
      record {
        rule = r.rule;
        path = longer r.rule r.path;
        is = ap (judged (suc m) p cs) (here c e t) ∙ goes_further m p cs i j c e goes nothing ∙ r.is;
      }

  matched : (c : Counted) → slice_get cs i ≡ Some c → rule_matches p c.rule ≡ true → (b : Action) →
      c.rule.action ≡ b → Found (suc m) p cs i
  unfolding Forward
  matched c e t Allow is = done c e t (ap decides is)
  matched c e t Deny is = done c e t (ap decides is)
  matched c e t (Pipe n) is = done c e t (ap decides is)
  matched c e t Count is = elim (at_place cs i c h e) [
    | inl l ↦ absurd (clash (sym (ap (λ r. r.action) l) ∙ is))
    | inr b ↦
        further (i + 1) c e t (ap (λ w. goes_on rs i (Some w)) is) (ap (λ w. verdict_by w c) is) (omega arith) b.1
        (λ r. counts e t is)
  ]
    where
      clash : Deny ≡ Count → ⊥
      clash g = cc g
  matched c e t (SkipTo n) is = elim (at_place cs i c h e) [
    | inl l ↦ absurd (clash (sym (ap (λ r. r.action) l) ∙ is))
    | inr b ↦
        let to : Forward c.rule.number (SkipTo n) = subst (Forward c.rule.number) is b.0.forward in
        further (place_of_number n rs) c e t (ap (λ w. goes_on rs i (Some w)) is) (ap (λ w. verdict_by w c) is)
        (behind_place n cs i c h e to.0) (within_number n cs h to.1) (λ r. skips e t is)
  ]
    where
      clash : Deny ≡ SkipTo n → ⊥
      clash g = cc g

  passed : (c : Counted) → slice_get cs i ≡ Some c → rule_matches p c.rule ≡ false → i + 1 < length cs →
      Found (suc m) p cs i
  passed c e f there =
      let r : Found (suc m) p cs (i + 1) = later (suc m) (i + 1) (omega arith) there (omega (arith, enough)) in
      record {
        rule = r.rule;
        path = passes e f r.path;
        is = ap (judged (suc m) p cs) (match_later p rs i c.rule (rule_of cs i c e) f) ∙ r.is;
      }

  from_rule : HasAddresses p → (c : Counted) → slice_get cs i ≡ Some c → Found (suc m) p cs i
  from_rule a c e = elim (cases_Bool (rule_matches p c.rule)) [
    | inl t ↦ matched c e t c.rule.action refl
    | inr f ↦ elim (at_place cs i c h e) [
      | inl l ↦ absurd (clash (sym (default_matches p a) ∙ sym (ap (rule_matches p) l) ∙ f))
      | inr b ↦ passed c e f b.1
    ]
  ]
    where
      clash : true ≡ false → ⊥
      clash g = cc g

search : (d m : ℕ) (p : Packet) (cs : List Counted) (i : ℕ) → InOrder cs → HasAddresses p → i < length cs →
    length cs ≤ d + i → length cs ≤ m + i → Found m p cs i
search zero m p cs i h a within far enough = absurd (omega (arith, within, far))
search (suc d) zero p cs i h a within far enough = absurd (omega (arith, within, enough))
search (suc d) (suc m) p cs i h a within far enough =
    let at : (c : Counted) × (slice_get cs i ≡ Some c) = rule_at cs i within in
    from_rule m p cs i h enough (λ k j up there more. search d k p cs j h a there (omega (arith, far, up)) more) a at.0 at.1

-- ---- it ends at one rule alone

same_rule : (cs : List Counted) (i : ℕ) (b c : Counted) → slice_get cs i ≡ Some b → slice_get cs i ≡ Some c → b ≡ c
same_rule cs i b c e g = same_Some b c (sym e ∙ g)

-- what one rule does with a search is told in one way
matches_once : (p : Packet) (cs : List Counted) (i : ℕ) (b c : Counted) → slice_get cs i ≡ Some b →
    slice_get cs i ≡ Some c → rule_matches p b.rule ≡ true → rule_matches p c.rule ≡ false → ⊥
matches_once p cs i b c e g t f = clash (sym t ∙ ap (λ x. rule_matches p x.rule) (same_rule cs i b c e g) ∙ f)
  where
    clash : true ≡ false → ⊥
    clash k = cc k

acts_once : (cs : List Counted) (i : ℕ) (b c : Counted) (v w : Action) → slice_get cs i ≡ Some b →
    slice_get cs i ≡ Some c → b.rule.action ≡ v → c.rule.action ≡ w → v ≡ w
acts_once cs i b c v w e g is are = sym is ∙ ap (λ x. x.rule.action) (same_rule cs i b c e g) ∙ are

decides_once : (cs : List Counted) (i : ℕ) (b c : Counted) (w : Action) → slice_get cs i ≡ Some b →
    slice_get cs i ≡ Some c → decides b.rule.action ≡ true → c.rule.action ≡ w → decides w ≡ false → ⊥
decides_once cs i b c w e g word is f =
    clash (sym word ∙ ap decides (acts_once cs i b c b.rule.action w e g refl is) ∙ f)
  where
    clash : true ≡ false → ⊥
    clash k = cc k

one_end : (p : Packet) (cs : List Counted) (i : ℕ) (a b : Counted) → EndsAt p cs i a → EndsAt p cs i b → a ≡ b
one_end p cs i a b (ends {c = x} e t word) (ends {c = y} e' t' word') = same_rule cs i a b e e'
one_end p cs i a b (ends e t word) (passes {b = y} e' f r) = absurd (matches_once p cs i a y e e' t f)
one_end p cs i a b (ends e t word) (counts {b = y} e' t' is r) = absurd (decides_once cs i a y Count e e' word is refl)
one_end p cs i a b (ends e t word) (skips {n = n} {b = y} e' t' is r) =
    absurd (decides_once cs i a y (SkipTo n) e e' word is refl)
one_end p cs i a b (passes {b = x} e f r) (ends e' t word) = absurd (matches_once p cs i b x e' e t f)
one_end p cs i a b (passes e f r) (passes e' f' r') = one_end p cs (i + 1) a b r r'
one_end p cs i a b (passes {b = x} e f r) (counts {b = y} e' t is r') = absurd (matches_once p cs i y x e' e t f)
one_end p cs i a b (passes {b = x} e f r) (skips {b = y} e' t is r') = absurd (matches_once p cs i y x e' e t f)
one_end p cs i a b (counts {b = x} e t is r) (ends e' t' word) = absurd (decides_once cs i b x Count e' e word is refl)
one_end p cs i a b (counts {b = x} e t is r) (passes {b = y} e' f r') = absurd (matches_once p cs i x y e e' t f)
one_end p cs i a b (counts e t is r) (counts e' t' is' r') = one_end p cs (i + 1) a b r r'
one_end p cs i a b (counts {b = x} e t is r) (skips {n = n} {b = y} e' t' is' r') =
    absurd (clash (acts_once cs i x y Count (SkipTo n) e e' is is'))
  where
    clash : Count ≡ SkipTo n → ⊥
    clash g = cc g
one_end p cs i a b (skips {n = n} {b = x} e t is r) (ends e' t' word) =
    absurd (decides_once cs i b x (SkipTo n) e' e word is refl)
one_end p cs i a b (skips {b = x} e t is r) (passes {b = y} e' f r') = absurd (matches_once p cs i x y e e' t f)
one_end p cs i a b (skips {n = n} {b = x} e t is r) (counts {b = y} e' t' is' r') =
    absurd (clash (acts_once cs i x y (SkipTo n) Count e e' is is'))
  where
    clash : SkipTo n ≡ Count → ⊥
    clash g = cc g
one_end p cs i a b (skips {n = n} {b = x} e t is r) (skips {n = k} {b = y} e' t' is' r') =
    one_end p cs (place_of_number n (the_rules cs)) a b r
    (subst (λ j. EndsAt p cs (place_of_number j (the_rules cs)) b)
    (same (acts_once cs i y x (SkipTo k) (SkipTo n) e' e is' is)) r')
  where
    same : SkipTo k ≡ SkipTo n → k ≡ n
    same g = cc g

searches : (p : Packet) (cs : List Counted) (start : ℕ) → InOrder cs → HasAddresses p → start < length cs →
    IsDecided start p cs
searches p cs start h a within =
    let m : ℕ = length (the_rules cs) in
    let same : m ≡ length cs = length-map cs (λ (c : Counted). c.rule) in
    let r : Found m p cs start =
    search (length cs) m p cs start h a within (omega arith) (omega (arith, same)) in
    record {
      rule = r.rule;
      path = r.path;
      only = λ other other_path. one_end p cs start other r.rule other_path r.path;
      verdict_is = r.is;
    }

pub searches_are_decided : SearchesAreDecided
searches_are_decided spec c n p place a low =
    let cs : List Counted = (alone spec c n).net.book.rules in
    let h : InOrder cs = in_order spec c n in
    (searches p cs 0 h a (not_empty cs h), searches p cs (start_behind place cs) h a (start_within place cs h low))
