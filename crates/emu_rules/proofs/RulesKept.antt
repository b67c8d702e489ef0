-- What an adding, a deletion and a search keep of a rule list.
use Rattle.std.proofs.Common.{◌≡◌, ℕ, suc, ◌+◌, ◌-◌, ◌<◌, ◌≤◌, Bool, true, false, cond, Some, None, List, [], ◌∷◌, length, refl, sym, ap, ◌∙◌, subst, inl, inr, arith, ltb, leb}
use Rattle.std.specs.Prelude.{◌||◌, not, All, filter, insert, ◌^◌}
use Rattle.std.proofs.lemmas.Bool.{ltb-true, ltb-false, lt-leb, le-leb, cases_Bool, cond_both}
use Rattle.std.proofs.lemmas.Bool.Decides.{nat_tests}
use Rattle.std.proofs.lemmas.List.Elements.{All-nil, All-cons, All-head, All-tail, All-weaker, All-filter}
use Rattle.emu_model.specs.declared.packets.Packet.{Packet}
use Rattle.emu_model.specs.declared.packets.Place.{Place}
use Rattle.emu_model.specs.declared.rules.Action.{Action}
use Rattle.emu_model.specs.declared.rules.Action.TheVariants.{Allow, Deny, Count, SkipTo, Pipe}
use Rattle.emu_model.specs.declared.rules.Rule.{Rule}
use Rattle.emu_model.specs.declared.records.Refusal.TheVariants.{BadNumber, BadSkip, RulesFull, NoRule}
use Rattle.emu_model.specs.Rules.{Counted, RuleBook, the_rules, place_of_number, new_rule, with_rule, is_bad_skip, is_rule_number, is_full, add_refusal, start_behind, verdict}
use Rattle.emu_rules.specs.Walk.{Precedes, Ascends, IsOrdered, IsRecounted, AreJumps, GoesForward}
use Rattle.emu_rules.specs.declared.cache.RuleCache.{RuleCache}
use Rattle.emu_rules.specs.RuleCache.{AreTrueOf, settled}
use Rattle.emu_rules.proofs.CallerLemmas.{IsOrdered-recounted, IsRecounted-settled, behind-recounted, length-recounted, older-recounted, rules-recounted, verdict-recounted}
use Rattle.emu_rules.specs.Sound.{IsSound}

-- ---- what an adding keeps

All-with_rule : (P : Counted → Type 0) (o : ℕ) (r : Rule) (cs : List Counted) → P (new_rule o r) → All P cs → All P (with_rule o r cs)
All-with_rule P o r [] new h = All-cons P (new_rule o r) [] new h
All-with_rule P o r (c ∷ cs) new h =
    cond_both (ltb r.number c.rule.number) (new_rule o r ∷ c ∷ cs) (c ∷ with_rule o r cs) (All P)
    (λ _. All-cons P (new_rule o r) (c ∷ cs) new h)
    (λ _. All-cons P c (with_rule o r cs) (All-head P c cs h) (All-with_rule P o r cs new (All-tail P c cs h)))

Ascends-with_rule : (o : ℕ) (r : Rule) (cs : List Counted) → All (λ c. c.order ≤ o) cs → Ascends cs → Ascends (with_rule o r cs)
Ascends-with_rule o r [] older h = (All-nil (Precedes (new_rule o r)), tt)
Ascends-with_rule o r (c ∷ cs) older h =
    let new = new_rule o r in
    cond_both (ltb r.number c.rule.number) (new ∷ c ∷ cs) (c ∷ with_rule o r cs) Ascends
    (λ t.
    let less = ltb-true r.number c.rule.number t in (
      All-cons (Precedes new) c cs
          (record { number = omega (arith, less); order = λ e. absurd (omega (arith, less, e)) })
          (All-weaker (Precedes c) (Precedes new) (λ x q. record { number = omega (arith, less, q.number); order = λ e. absurd (omega (arith, less, q.number, e)) }) cs h.0),
      h,
    ))
    (λ f.
    let le = ltb-false r.number c.rule.number f in
    let old : c.order ≤ o = All-head (λ c. c.order ≤ o) c cs older in (
      All-with_rule (Precedes c) o r cs (record { number = le; order = λ _. old }) h.0,
      Ascends-with_rule o r cs (All-tail (λ c. c.order ≤ o) c cs older) h.1,
    ))

pub with_rule-insert : (o : ℕ) (r : Rule) (cs : List Counted) → with_rule o r cs ≡ insert cs (place_of_number (r.number + 1) (the_rules cs)) (new_rule o r)
with_rule-insert o r [] = refl
with_rule-insert o r (c ∷ cs) =
    let new = new_rule o r in
    let rest = place_of_number (r.number + 1) (the_rules cs) in
    elim (cases_Bool (ltb r.number c.rule.number)) [
      | inl t ↦
          let here : leb (r.number + 1) c.rule.number ≡ true = le-leb _ _ (omega (arith, ltb-true r.number c.rule.number t)) in
          ap (λ b. cond b (new ∷ c ∷ cs) (c ∷ with_rule o r cs)) t
          ∙ ap (λ b. insert (c ∷ cs) (cond (not b) (1 + rest) 0) new) (sym here)
      | inr f ↦
          let later : leb (r.number + 1) c.rule.number ≡ false = lt-leb _ _ (omega (arith, ltb-false r.number c.rule.number f)) in
          let one : suc rest ≡ 1 + rest = omega arith in
          ap (λ b. cond b (new ∷ c ∷ cs) (c ∷ with_rule o r cs)) f
          ∙ ap (λ xs. c ∷ xs) (with_rule-insert o r cs)
          ∙ ap (λ i. insert (c ∷ cs) i new) one
          ∙ ap (λ b. insert (c ∷ cs) (cond (not b) (1 + rest) 0) new) (sym later)
    ]

good_skip : (own : ℕ) (a : Action) → is_bad_skip own a ≡ false → GoesForward own a
good_skip own Allow e = tt
good_skip own Deny e = tt
good_skip own Count e = tt
good_skip own (SkipTo n) e = grind (arith, nat_tests)
good_skip own (Pipe n) e = tt

pub record IsAccepted (r : Rule) (b : RuleBook) : Type 0 where
  pub forward : GoesForward r.number r.action
  pub more : b.added + 1 < 2 ^ 64

accepted : (x y z : Bool) → cond (not x) (Some BadNumber) (cond y (Some BadSkip) (cond z (Some RulesFull) None)) ≡ None → (y ≡ false) × (z ≡ false)
accepted true true z e = absurd (cc)
accepted true false true e = absurd (cc)
accepted true false false e = (refl, refl)
accepted false y z e = absurd (cc)

pub IsAccepted-from_none : (r : Rule) (b : RuleBook) → add_refusal r b ≡ None → IsAccepted r b
IsAccepted-from_none r b e =
    let h = accepted (is_rule_number r.number) (is_bad_skip r.number r.action) (is_full b) e in
    record {
      forward = good_skip r.number r.action h.0;
      more = let full : (ltb 256 (length b.rules) || leb (2 ^ 64 - 1) b.added) ≡ false = h.1 in grind (arith, nat_tests);
    }

pub IsOrdered-with_rule : (added : ℕ) (r : Rule) (cs : List Counted) → IsOrdered cs → All (λ c. c.order ≤ added) cs → GoesForward r.number r.action → IsOrdered (with_rule added r cs)
IsOrdered-with_rule added r cs h older forward = record {
  ascends = Ascends-with_rule added r cs older h.ascends;
  forward = All-with_rule (λ c. GoesForward c.rule.number c.rule.action) added r cs forward h.forward;
}

pub older-with_rule : (added : ℕ) (r : Rule) (cs : List Counted) → All (λ c. c.order ≤ added) cs → All (λ c. c.order ≤ added + 1) (with_rule added r cs)
older-with_rule added r cs older =
    All-with_rule (λ c. c.order ≤ added + 1) added r cs (let le : added ≤ added + 1 = omega arith in le)
    (All-weaker (λ c. c.order ≤ added) (λ c. c.order ≤ added + 1) (λ c h. omega (arith, h)) cs older)

-- ---- what a deletion keeps

pub no_rule : (x y : Bool) → x ≡ true → y ≡ false → cond (not x) (Some BadNumber) (cond y None (Some NoRule)) ≡ Some NoRule
no_rule x y t f = ap (λ b. cond (not b) (Some BadNumber) (cond y None (Some NoRule))) t ∙ ap (λ b. cond b None (Some NoRule)) f

Ascends-filter : (p : Counted → Bool) (cs : List Counted) → Ascends cs → Ascends (filter p cs)
Ascends-filter p [] h = tt
Ascends-filter p (c ∷ cs) h =
    cond_both (p c) (c ∷ filter p cs) (filter p cs) Ascends
    (λ _. (All-filter p (Precedes c) cs h.0, Ascends-filter p cs h.1))
    (λ _. Ascends-filter p cs h.1)

pub IsOrdered-filter : (p : Counted → Bool) (cs : List Counted) → IsOrdered cs → IsOrdered (filter p cs)
IsOrdered-filter p cs h = record {
  ascends = Ascends-filter p cs h.ascends;
  forward = All-filter p (λ c. GoesForward c.rule.number c.rule.action) cs h.forward;
}

-- ---- what counting keeps

pub IsSound-recounted : (cs new : List Counted) (jumps : List ℕ) (added : ℕ) (cache now : RuleCache) → IsSound cs jumps added cache → IsRecounted cs new → AreTrueOf (the_rules cs) now → IsSound new jumps added now
IsSound-recounted cs new jumps added cache now h same knows =
    let rs = rules-recounted cs new same in
    record {
      ordered = IsOrdered-recounted cs new same h.ordered;
      older = older-recounted added cs new same h.older;
      jumps_are = subst (λ rs. AreJumps rs jumps) (sym rs) h.jumps_are;
      paths_are = subst (λ rs. AreTrueOf rs now) (sym rs) knows;
    }

-- the rules as a look at them finds them
pub IsSound-settled : (cs : List Counted) (jumps : List ℕ) (added : ℕ) (cache now : RuleCache) → IsSound cs jumps added cache → AreTrueOf (the_rules cs) now → IsSound (settled cache cs) jumps added now
IsSound-settled cs jumps added cache now h knows =
    IsSound-recounted cs (settled cache cs) jumps added cache now h (IsRecounted-settled cache.held.items cs) knows

abbrev pub book : List Counted → ℕ → RuleBook
book rules added = record { rules = rules; added = added }

pub inserted : (added : ℕ) (r : Rule) (cs now read : List Counted) (new : Counted) (n place : ℕ) → now ≡ cs → read ≡ now → new ≡ new_rule added r → n ≡ new.rule.number → place ≡ place_of_number (n + 1) (the_rules read) → insert now place new ≡ with_rule added r cs
inserted added r cs now read new n place kept same is own at =
    let number : n ≡ r.number = own ∙ ap (λ (c : Counted). c.rule.number) is in
    let here : place ≡ place_of_number (r.number + 1) (the_rules cs) =
    at
    ∙ ap (λ i. place_of_number (i + 1) (the_rules read)) number
    ∙ ap (λ xs. place_of_number (r.number + 1) (the_rules xs)) (same ∙ kept) in
    ap (λ xs. insert xs place new) kept ∙ ap (λ i. insert cs i new) here ∙ ap (insert cs (place_of_number (r.number + 1) (the_rules cs))) is ∙ sym (with_rule-insert added r cs)

-- ---- what a look at the rules finds

pub verdict-settled : (start : ℕ) (p : Packet) (m : RuleCache) (cs : List Counted) → verdict start p (settled m cs) ≡ verdict start p cs
verdict-settled start p m cs = verdict-recounted start p cs (settled m cs) (IsRecounted-settled m.held.items cs)

pub behind-settled : (place : Place) (m : RuleCache) (cs : List Counted) → start_behind place (settled m cs) ≡ start_behind place cs
behind-settled place m cs = behind-recounted place cs (settled m cs) (IsRecounted-settled m.held.items cs)

pub length-settled : (m : RuleCache) (cs : List Counted) → length (settled m cs) ≡ length cs
length-settled m cs = length-recounted cs (settled m cs) (IsRecounted-settled m.held.items cs)

pub rules-settled : (m : RuleCache) (cs : List Counted) → the_rules (settled m cs) ≡ the_rules cs
rules-settled m cs = rules-recounted cs (settled m cs) (IsRecounted-settled m.held.items cs)
