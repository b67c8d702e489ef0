-- A rule that alone counts a packet.
use Rattle.std.proofs.Common.{◌≡◌, ℕ, zero, suc, ◌+◌, ◌-◌, ◌<◌, ◌≤◌, Bool, Option, true, false, Some, None, List, [], ◌∷◌, length, get_or, refl, sym, ap, ◌∙◌, subst, inl, inr, arith}
use Rattle.std.specs.Prelude.{slice_get, slice_index}
use Rattle.std.specs.List.{last_or}
use Rattle.std.proofs.lemmas.Bool.{cases_Bool}
use Rattle.std.proofs.lemmas.Option.{same_Some, none-some, slice_get-get_or}
use Rattle.std.proofs.lemmas.List.{length-map}
use Rattle.emu_model.specs.declared.packets.Packet.{Packet}
use Rattle.emu_model.specs.declared.rules.Action.{Action}
use Rattle.emu_model.specs.declared.rules.Action.TheVariants.{Allow, Deny, Count, SkipTo, Pipe}
use Rattle.emu_model.specs.declared.rules.Rule.{Rule}
use Rattle.emu_model.specs.declared.rules.Verdict.{Verdict}
use Rattle.emu_model.specs.Rules.{Counted, least_match, goes_on, action_at, next_match, matches_from, the_rules, default_rule}
use Rattle.emu_rules.specs.Walk.{decision, AreJumps, CountsAlone}
use Rattle.emu_rules.proofs.Walking.{least_match-within, action, ends, goes, jump, next-ends, next-goes, no_matches}

one_match : (m : ℕ) (p : Packet) (cs : List Counted) (k : ℕ) (c : Counted) (w : Verdict) → 0 < m →
    slice_get cs k ≡ Some c → decision c.rule.action c ≡ Some w →
    matches_from m p (the_rules cs) (Some k) ≡ k ∷ []
one_match zero p cs k c w pos there d = absurd (omega arith)
one_match (suc m) p cs k c w pos there d =
    let rs = the_rules cs in
    let stops : next_match p rs k ≡ None =
    next-ends p rs k (ap (goes_on rs k) (action cs k c there) ∙ (ends rs k c.rule.action c w d).0) in
    ap (λ at. k ∷ matches_from m p rs at) stops ∙ ap (λ ks. k ∷ ks) (no_matches m p rs)

-- the first match ends the search
pub alone : (start : ℕ) (p : Packet) (cs : List Counted) (k : ℕ) (c : Counted) (w : Verdict) →
    least_match p (the_rules cs) start ≡ Some k → slice_get cs k ≡ Some c →
    decision c.rule.action c ≡ Some w → CountsAlone start p (the_rules cs) k
alone start p cs k c w e there d =
    let rs = the_rules cs in
    let b = least_match-within p rs start k e in
    record {
      within = b.1;
      places = ap (matches_from (length rs) p rs) e ∙ one_match (length rs) p cs k c w (omega (arith, b.1)) there d;
    }

-- the first match, where there is one, ends no search
abbrev pub FirstGoesOn : ℕ → Packet → List Counted → Type 0
FirstGoesOn start p cs = (k : ℕ) (c : Counted) → least_match p (the_rules cs) start ≡ Some k →
    slice_get cs k ≡ Some c → decision c.rule.action c ≡ None

pub first_goes : (p : Packet) (cs : List Counted) (start from place : ℕ) (r : Counted) (b : Bool) →
    (b ≡ true → from ≡ start) → (b ≡ false → FirstGoesOn start p cs) →
    least_match p (the_rules cs) from ≡ Some place → slice_get cs place ≡ Some r →
    decision r.rule.action r ≡ None → FirstGoesOn start p cs
first_goes p cs start from place r b first later e there d = elim (cases_Bool b) [
  | inl t ↦ λ k c found read.
      let same : place ≡ k = same_Some place k (sym e ∙ ap (least_match p (the_rules cs)) (first t) ∙ found) in
      let rule : r ≡ c = same_Some r c (sym there ∙ ap (slice_get cs) same ∙ read) in
      subst (λ (c : Counted). decision c.rule.action c ≡ None) rule d
  | inr f ↦ later f
]

-- where none matches
pub none_goes : (p : Packet) (cs : List Counted) (start from : ℕ) (b : Bool) →
    (b ≡ true → from ≡ start) → (b ≡ false → FirstGoesOn start p cs) →
    least_match p (the_rules cs) from ≡ None → FirstGoesOn start p cs
none_goes p cs start from b first later e = elim (cases_Bool b) [
  | inl t ↦ λ k c found read.
      let bad : None ≡ Some k = sym e ∙ ap (least_match p (the_rules cs)) (first t) ∙ found in
      absurd (cc)
  | inr f ↦ later f
]

-- the place at which a search goes on that goes on at its first match
pub first-goes_on : (start : ℕ) (p : Packet) (cs : List Counted) → FirstGoesOn start p cs → (k : ℕ) →
    least_match p (the_rules cs) start ≡ Some k →
    (j : ℕ) × (goes_on (the_rules cs) k (action_at (the_rules cs) k) ≡ Some j)
first-goes_on start p cs h k e =
    let rs = the_rules cs in
    let b = least_match-within p rs start k e in
    let c = get_or cs k default_rule in
    let there = slice_get-get_or cs k default_rule (omega (arith, b.1, length-map cs (λ (c : Counted). c.rule))) in
    let g = goes rs k c.rule.action c (h k c e there) in
    (g.0.0, ap (goes_on rs k) (action cs k c there) ∙ g.0.1)

goes-no_decision : (rs : List Rule) (k : ℕ) (a : Action) (c : Counted) (j : ℕ) → goes_on rs k (Some a) ≡ Some j → decision a c ≡ None
goes-no_decision rs k Allow c j e = absurd (none-some j e)
goes-no_decision rs k Deny c j e = absurd (none-some j e)
goes-no_decision rs k Count c j e = refl
goes-no_decision rs k (SkipTo n) c j e = refl
goes-no_decision rs k (Pipe n) c j e = absurd (none-some j e)

-- where a search goes on, the rule ends none
pub no_decision : (cs : List Counted) (k : ℕ) (c : Counted) (j : ℕ) → slice_get cs k ≡ Some c →
    goes_on (the_rules cs) k (action_at (the_rules cs) k) ≡ Some j → decision c.rule.action c ≡ None
no_decision cs k c j there g =
    let rs = the_rules cs in
    goes-no_decision rs k c.rule.action c j (sym (ap (goes_on rs k) (action cs k c there)) ∙ g)

-- ---- the last match

-- a search from this place on, behind this last match, ends with that one
abbrev pub Lasts : Packet → List Rule → ℕ → Option ℕ → Option ℕ → Type 0
Lasts p rs from last want =
    (m : ℕ) × (length rs ≤ m + from) × (last_or last (matches_from m p rs (least_match p rs from)) ≡ want)

pub Lasts-none : (p : Packet) (rs : List Rule) (from : ℕ) (last want : Option ℕ) → Lasts p rs from last want →
    least_match p rs from ≡ None → last ≡ want
Lasts-none p rs from last want h e =
    sym (ap (λ at. last_or last (matches_from h.0 p rs at)) e ∙ ap (last_or last) (no_matches h.0 p rs)) ∙ h.2

pub Lasts-ends : (p : Packet) (cs : List Counted) (from : ℕ) (last want : Option ℕ) (k : ℕ) (c : Counted) (w : Verdict) →
    Lasts p (the_rules cs) from last want → least_match p (the_rules cs) from ≡ Some k → slice_get cs k ≡ Some c →
    decision c.rule.action c ≡ Some w → Some k ≡ want
Lasts-ends p cs from last want k c w h e there d =
    let rs = the_rules cs in
    let b = least_match-within p rs from k e in
    sym (ap (λ at. last_or last (matches_from h.0 p rs at)) e
    ∙ ap (last_or last) (one_match h.0 p cs k c w (omega (arith, h.1, b.0, b.1)) there d))
    ∙ h.2

matches-on : (m : ℕ) (p : Packet) (cs : List Counted) (jumps : List ℕ) (k : ℕ) (c : Counted) → 0 < m →
    AreJumps (the_rules cs) jumps → slice_get cs k ≡ Some c → decision c.rule.action c ≡ None →
    matches_from m p (the_rules cs) (Some k)
    ≡ k ∷ matches_from (m - 1) p (the_rules cs) (least_match p (the_rules cs) (slice_index jumps k))
matches-on zero p cs jumps k c pos are there d = absurd (omega arith)
matches-on (suc m) p cs jumps k c pos are there d =
    let rs = the_rules cs in
    let j = slice_index jumps k in
    ap (λ at. k ∷ matches_from m p rs at) (next-goes p rs k j (jump cs jumps k c are there d).0)
    ∙ ap (λ n. k ∷ matches_from n p rs (least_match p rs j)) (let less : m ≡ suc m - 1 = omega arith in less)

pub Lasts-goes : (p : Packet) (cs : List Counted) (jumps : List ℕ) (from : ℕ) (last want : Option ℕ) (k : ℕ) (c : Counted) →
    AreJumps (the_rules cs) jumps → Lasts p (the_rules cs) from last want → least_match p (the_rules cs) from ≡ Some k →
    slice_get cs k ≡ Some c → decision c.rule.action c ≡ None → Lasts p (the_rules cs) (slice_index jumps k) (Some k) want
Lasts-goes p cs jumps from last want k c are h e there d =
    let rs = the_rules cs in
    let b = least_match-within p rs from k e in
    let j = jump cs jumps k c are there d in (
      h.0 - 1,
      omega (arith, h.1, b.0, b.1, j.1),
      sym (ap (last_or last) (matches-on h.0 p cs jumps k c (omega (arith, h.1, b.0, b.1)) are there d))
          ∙ sym (ap (λ at. last_or last (matches_from h.0 p rs at)) e)
          ∙ h.2,
    )
