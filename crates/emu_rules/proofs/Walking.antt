-- A walk by kept jumps meets the definition of the search.
use Rattle.std.proofs.Common.{◌≡◌, ℕ, zero, suc, ◌+◌, ◌-◌, ◌<◌, ◌≤◌, true, false, cond, Option, Some, None, List, [], ◌∷◌, length, get_or, drop, refl, sym, ap, ◌∙◌, inl, inr, arith, ltb, length-drop}
use Rattle.std.specs.Prelude.{option_map, option_and_then, slice_get, slice_index}
use Rattle.std.specs.List.{position_or_len, last_or}
use Rattle.std.proofs.lemmas.Bool.{ltb-true, lt-ltb, le-ltb, cases_Bool}
use Rattle.std.proofs.lemmas.Option.{same_Some, none-some, slice_get-map, slice_get_within, slice_get_read}
use Rattle.std.proofs.lemmas.List.{get_or-drop, get_or-map, length-map}
use Rattle.std.proofs.lemmas.List.Sums.{position_or_len_is}
use Rattle.emu_model.specs.declared.packets.Packet.{Packet}
use Rattle.emu_model.specs.declared.rules.Action.{Action}
use Rattle.emu_model.specs.declared.rules.Action.TheVariants.{Allow, Deny, Count, SkipTo, Pipe}
use Rattle.emu_model.specs.declared.rules.Rule.{Rule}
use Rattle.emu_model.specs.declared.rules.Verdict.{Verdict}
use Rattle.emu_model.specs.declared.rules.Verdict.TheVariants.{Dropped}
use Rattle.emu_model.specs.Rules.{Counted, rule_matches, least_match, place_of_number, goes_on, action_at, next_match, matches_from, verdict_by, verdict_of_match, the_rules}
use Rattle.emu_rules.specs.Walk.{decision, AreJumps}

-- ---- the least place that matches

pub least_match-is : (p : Packet) (rs : List Rule) (from k : ℕ) (d : Rule) → from ≤ k → k < length rs → ((j : ℕ) → from ≤ j → j < k → rule_matches p (get_or rs j d) ≡ false) → rule_matches p (get_or rs k d) ≡ true → least_match p rs from ≡ Some k
least_match-is p rs from k d low within before here =
    let len = length-drop from rs in
    let back : from + (k - from) ≡ k = omega arith in
    let there : get_or (drop from rs) (k - from) d ≡ get_or rs k d =
    get_or-drop from rs (k - from) d ∙ ap (λ i. get_or rs i d) back in
    let place : position_or_len (rule_matches p) (drop from rs) ≡ k - from =
    position_or_len_is (rule_matches p) (drop from rs) (k - from) d (omega (arith, len))
    (λ j h. ap (rule_matches p) (get_or-drop from rs j d) ∙ before (from + j) (omega arith) (omega arith))
    (λ _. ap (rule_matches p) there ∙ here) in
    ap (λ n. option_map (λ i. from + i) (cond (ltb n (length (drop from rs))) (Some n) None)) place
    ∙ ap (λ b. option_map (λ i. from + i) (cond b (Some (k - from)) None)) (lt-ltb (k - from) (length (drop from rs)) (omega (arith, len)))
    ∙ ap Some back

pub least_match-none : (p : Packet) (rs : List Rule) (from : ℕ) (d : Rule) → ((j : ℕ) → from ≤ j → j < length rs → rule_matches p (get_or rs j d) ≡ false) → least_match p rs from ≡ None
least_match-none p rs from d before =
    let len = length-drop from rs in
    let n = length (drop from rs) in
    let place : position_or_len (rule_matches p) (drop from rs) ≡ n =
    position_or_len_is (rule_matches p) (drop from rs) n d (omega arith)
    (λ j h. ap (rule_matches p) (get_or-drop from rs j d) ∙ before (from + j) (omega arith) (omega (arith, len)))
    (λ h. absurd (omega (arith, h))) in
    ap (λ i. option_map (λ i. from + i) (cond (ltb i n) (Some i) None)) place
    ∙ ap (λ b. option_map (λ i. from + i) (cond b (Some n) None)) (le-ltb n n (omega arith))

placed : (from n len k : ℕ) → option_map (λ i. from + i) (cond (ltb n len) (Some n) None) ≡ Some k → (k ≡ from + n) × (n < len)
placed from n len k e =
    elim (cases_Bool (ltb n len)) [
      | inl t ↦ (sym (same_Some (from + n) k (rw t at e)), ltb-true n len t)
      | inr f ↦ absurd (none-some k (rw f at e))
    ]

pub least_match-within : (p : Packet) (rs : List Rule) (from k : ℕ) → least_match p rs from ≡ Some k → (from ≤ k) × (k < length rs)
least_match-within p rs from k e =
    let h = placed from (position_or_len (rule_matches p) (drop from rs)) (length (drop from rs)) k e in
    (omega (arith, h.0), omega (arith, h.0, h.1, length-drop from rs))

-- ---- one step of the walk

pub ends : (rs : List Rule) (k : ℕ) (a : Action) (c : Counted) (v : Verdict) → decision a c ≡ Some v → (goes_on rs k (Some a) ≡ None) × (verdict_by a c ≡ v)
ends rs k Allow c v e = (refl, same_Some _ _ e)
ends rs k Deny c v e = (refl, same_Some _ _ e)
ends rs k Count c v e = absurd (none-some _ e)
ends rs k (SkipTo n) c v e = absurd (none-some _ e)
ends rs k (Pipe n) c v e = (refl, same_Some _ _ e)

pub goes : (rs : List Rule) (k : ℕ) (a : Action) (c : Counted) → decision a c ≡ None → ((j : ℕ) × (goes_on rs k (Some a) ≡ Some j)) × (verdict_by a c ≡ Dropped)
goes rs k Allow c e = absurd (none-some _ (sym e))
goes rs k Deny c e = absurd (none-some _ (sym e))
goes rs k Count c e = ((k + 1, refl), refl)
goes rs k (SkipTo n) c e = ((place_of_number n rs, refl), refl)
goes rs k (Pipe n) c e = absurd (none-some _ (sym e))

pub action : (cs : List Counted) (k : ℕ) (c : Counted) → slice_get cs k ≡ Some c → action_at (the_rules cs) k ≡ Some c.rule.action
action cs k c e =
    ap (option_map (λ (r : Rule). r.action))
    (slice_get-map (λ (c : Counted). c.rule) cs k ∙ ap (option_map (λ (c : Counted). c.rule)) e)

pub next-ends : (p : Packet) (rs : List Rule) (k : ℕ) → goes_on rs k (action_at rs k) ≡ None → next_match p rs k ≡ None
next-ends p rs k e = ap (option_and_then (least_match p rs)) e

pub next-goes : (p : Packet) (rs : List Rule) (k j : ℕ) → goes_on rs k (action_at rs k) ≡ Some j → next_match p rs k ≡ least_match p rs j
next-goes p rs k j e = ap (option_and_then (least_match p rs)) e

pub no_matches : (m : ℕ) (p : Packet) (rs : List Rule) → matches_from m p rs None ≡ []
no_matches zero p rs = refl
no_matches (suc m) p rs = refl

-- ---- the verdict of the places that are left

abbrev pub judged_at : List Counted → Option ℕ → Verdict
judged_at cs at = verdict_of_match (option_and_then (slice_get cs) at)

abbrev pub judged : ℕ → Packet → List Counted → Option ℕ → Verdict
judged m p cs at = judged_at cs (last_or None (matches_from m p (the_rules cs) at))

-- a search from this place on gives the verdict
abbrev pub Answers : Packet → List Counted → ℕ → Verdict → Type 0
Answers p cs from v =
    (m : ℕ) × (length cs ≤ m + from) × (judged m p cs (least_match p (the_rules cs) from) ≡ v)

pub Answers-none : (p : Packet) (cs : List Counted) (from : ℕ) (v : Verdict) → Answers p cs from v → least_match p (the_rules cs) from ≡ None → Dropped ≡ v
Answers-none p cs from v h e =
    sym (ap (λ at. judged h.0 p cs at) e ∙ ap (λ ks. judged_at cs (last_or None ks)) (no_matches h.0 p (the_rules cs))) ∙ h.2

judged-ends : (m : ℕ) (p : Packet) (cs : List Counted) (k : ℕ) (c : Counted) (w : Verdict) → 0 < m → slice_get cs k ≡ Some c → decision c.rule.action c ≡ Some w → judged m p cs (Some k) ≡ w
judged-ends zero p cs k c w pos there d = absurd (omega arith)
judged-ends (suc m) p cs k c w pos there d =
    let rs = the_rules cs in
    let e = ends rs k c.rule.action c w d in
    let stops : next_match p rs k ≡ None =
    next-ends p rs k (ap (goes_on rs k) (action cs k c there) ∙ e.0) in
    ap (λ at. judged_at cs (last_or (Some k) (matches_from m p rs at))) stops
    ∙ ap (λ ks. judged_at cs (last_or (Some k) ks)) (no_matches m p rs)
    ∙ ap verdict_of_match there
    ∙ e.1

-- what goes on judges nothing
passed : (cs : List Counted) (k : ℕ) (ks : List ℕ) → judged_at cs (Some k) ≡ Dropped → judged_at cs (last_or (Some k) ks) ≡ judged_at cs (last_or None ks)
passed cs k [] e = e
passed cs k (j ∷ ks) e = refl

judged-goes : (m : ℕ) (p : Packet) (cs : List Counted) (k j : ℕ) (c : Counted) → 0 < m → slice_get cs k ≡ Some c → decision c.rule.action c ≡ None → goes_on (the_rules cs) k (action_at (the_rules cs) k) ≡ Some j → judged m p cs (Some k) ≡ judged (m - 1) p cs (least_match p (the_rules cs) j)
judged-goes zero p cs k j c pos there d g = absurd (omega arith)
judged-goes (suc m) p cs k j c pos there d g =
    let rs = the_rules cs in
    let e = goes rs k c.rule.action c d in
    ap (λ at. judged_at cs (last_or (Some k) (matches_from m p rs at))) (next-goes p rs k j g)
    ∙ passed cs k (matches_from m p rs (least_match p rs j)) (ap verdict_of_match there ∙ e.1)
    ∙ ap (λ n. judged n p cs (least_match p rs j)) (let less : m ≡ suc m - 1 = omega arith in less)

-- the place at which a search goes on
pub jump : (cs : List Counted) (jumps : List ℕ) (k : ℕ) (c : Counted) → AreJumps (the_rules cs) jumps → slice_get cs k ≡ Some c → decision c.rule.action c ≡ None → (goes_on (the_rules cs) k (action_at (the_rules cs) k) ≡ Some (slice_index jumps k)) × (k < slice_index jumps k)
jump cs jumps k c are there d =
    let rs = the_rules cs in
    let e = goes rs k c.rule.action c d in
    let g : goes_on rs k (action_at rs k) ≡ Some e.0.0 = ap (goes_on rs k) (action cs k c there) ∙ e.0.1 in
    let at : slice_index jumps k ≡ e.0.0 = are.there k e.0.0 g in
    let h = are.forward k e.0.0 g in
    (g ∙ ap Some (sym at), omega (arith, at, h))

pub Answers-ends : (p : Packet) (cs : List Counted) (from : ℕ) (v : Verdict) (k : ℕ) (c : Counted) (w : Verdict) → Answers p cs from v → least_match p (the_rules cs) from ≡ Some k → slice_get cs k ≡ Some c → decision c.rule.action c ≡ Some w → w ≡ v
Answers-ends p cs from v k c w h e there d =
    let b = least_match-within p (the_rules cs) from k e in
    let l = slice_get_within cs k c there in
    sym (ap (λ at. judged h.0 p cs at) e ∙ judged-ends h.0 p cs k c w (omega (arith, h.1, b.0)) there d) ∙ h.2

pub Answers-goes : (p : Packet) (cs : List Counted) (jumps : List ℕ) (from : ℕ) (v : Verdict) (k : ℕ) (c : Counted) → AreJumps (the_rules cs) jumps → Answers p cs from v → least_match p (the_rules cs) from ≡ Some k → slice_get cs k ≡ Some c → decision c.rule.action c ≡ None → Answers p cs (slice_index jumps k) v
Answers-goes p cs jumps from v k c are h e there d =
    let b = least_match-within p (the_rules cs) from k e in
    let l = slice_get_within cs k c there in
    let j = jump cs jumps k c are there d in
    (h.0 - 1, omega (arith, h.1, b.0, j.1), sym (judged-goes h.0 p cs k (slice_index jumps k) c (omega (arith, h.1, b.0)) there d j.0) ∙ sym (ap (λ at. judged h.0 p cs at) e) ∙ h.2)

-- ---- what the code reads

pub rule_read : (cs : List Counted) (k : ℕ) (c : Counted) (d : Rule) → k < length cs → c ≡ get_or cs k c → get_or (the_rules cs) k d ≡ c.rule
rule_read cs k c d within is =
    get_or-map (λ (c : Counted). c.rule) cs k c d within ∙ ap (λ (c : Counted). c.rule) (sym is)

pub matched_read : (p : Packet) (cs : List Counted) (from k : ℕ) (c : Counted) → least_match p (the_rules cs) from ≡ Some k → c ≡ get_or cs k c → slice_get cs k ≡ Some c
matched_read p cs from k c e is =
    let b = least_match-within p (the_rules cs) from k e in
    slice_get_read cs (length cs) k c refl (omega (arith, b.1, length-map cs (λ (c : Counted). c.rule))) is
