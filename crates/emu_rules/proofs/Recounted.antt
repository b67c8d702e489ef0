-- The same rules with other counters: a search finds the same among them.
use Rattle.std.proofs.Common.{◌≡◌, ℕ, zero, suc, ◌+◌, ◌≤◌, cond, Option, Some, None, List, [], ◌∷◌, ◌==◌, length, map, refl, sym, ap, ◌∙◌, subst}
use Rattle.std.specs.Prelude.{All, not, slice_get, option_and_then}
use Rattle.std.specs.List.{list_any, last_or}
use Rattle.std.proofs.lemmas.Bool.{cond_both}
use Rattle.std.proofs.lemmas.List.{length-map}
use Rattle.std.proofs.lemmas.List.Elements.{All-nil, All-cons, All-head, All-tail}
use Rattle.emu_model.specs.declared.packets.Packet.{Packet}
use Rattle.emu_model.specs.declared.packets.Place.{Place}
use Rattle.emu_model.specs.declared.rules.Action.{Action}
use Rattle.emu_model.specs.declared.rules.Action.TheVariants.{Allow, Deny, Count, SkipTo, Pipe}
use Rattle.emu_model.specs.declared.rules.Rule.{Rule}
use Rattle.emu_model.specs.Rules.{Counted, the_rules, matched_places, verdict, verdict_by, verdict_of_match, is_behind, start_behind}
use Rattle.emu_rules.specs.declared.counted.Amount.{Amount}
use Rattle.emu_rules.specs.Walk.{Precedes, Ascends, GoesForward, IsOrdered, IsRecounted, bare, count_more, count_more_at}

-- ---- what doesn't look at the counters

rules-bare : (cs : List Counted) → the_rules (map bare cs) ≡ the_rules cs
rules-bare [] = refl
rules-bare (c ∷ cs) = ap (λ (rs : List Rule). c.rule ∷ rs) (rules-bare cs)

pub rules-recounted : (cs new : List Counted) → IsRecounted cs new → the_rules new ≡ the_rules cs
rules-recounted cs new h = sym (rules-bare new) ∙ ap the_rules h.same ∙ rules-bare cs

pub length-recounted : (cs new : List Counted) → IsRecounted cs new → length new ≡ length cs
length-recounted cs new h =
    sym (length-map new bare) ∙ ap (λ (xs : List Counted). length xs) h.same ∙ length-map cs bare

behind-bare : (p : Place) (cs : List Counted) → start_behind p (map bare cs) ≡ start_behind p cs
behind-bare p [] = refl
behind-bare p (c ∷ cs) = ap (λ n. cond (not (is_behind p c)) (1 + n) 0) (behind-bare p cs)

pub behind-recounted : (p : Place) (cs new : List Counted) → IsRecounted cs new → start_behind p new ≡ start_behind p cs
behind-recounted p cs new h = sym (behind-bare p new) ∙ ap (start_behind p) h.same ∙ behind-bare p cs

verdict_by-bare : (a : Action) (c : Counted) → verdict_by a (bare c) ≡ verdict_by a c
verdict_by-bare Allow c = refl
verdict_by-bare Deny c = refl
verdict_by-bare Count c = refl
verdict_by-bare (SkipTo n) c = refl
verdict_by-bare (Pipe n) c = refl

match-bare : (cs : List Counted) (k : ℕ) → verdict_of_match (slice_get (map bare cs) k) ≡ verdict_of_match (slice_get cs k)
match-bare [] k = refl
match-bare (c ∷ cs) zero = verdict_by-bare c.rule.action c
match-bare (c ∷ cs) (suc k) = match-bare cs k

at-bare : (cs : List Counted) (at : Option ℕ) → verdict_of_match (option_and_then (slice_get (map bare cs)) at) ≡ verdict_of_match (option_and_then (slice_get cs) at)
at-bare cs None = refl
at-bare cs (Some k) = match-bare cs k

-- the verdict of a last match
pub at-recounted : (cs new : List Counted) (at : Option ℕ) → IsRecounted cs new → verdict_of_match (option_and_then (slice_get new) at) ≡ verdict_of_match (option_and_then (slice_get cs) at)
at-recounted cs new at h =
    sym (at-bare new at)
    ∙ ap (λ (xs : List Counted). verdict_of_match (option_and_then (slice_get xs) at)) h.same
    ∙ at-bare cs at

pub verdict-recounted : (start : ℕ) (p : Packet) (cs new : List Counted) → IsRecounted cs new → verdict start p new ≡ verdict start p cs
verdict-recounted start p cs new h =
    ap (λ rs. verdict_of_match (option_and_then (slice_get new) (last_or None (matched_places start p rs)))) (rules-recounted cs new h)
    ∙ at-recounted cs new (last_or None (matched_places start p (the_rules cs))) h

-- ---- the order of the rules

All-bare : (P Q : Counted → Type 0) → ((c : Counted) → P c → Q (bare c)) → (cs : List Counted) → All P cs → All Q (map bare cs)
All-bare P Q weaker [] h = All-nil Q
All-bare P Q weaker (c ∷ cs) h =
    All-cons Q (bare c) (map bare cs) (weaker c (All-head P c cs h)) (All-bare P Q weaker cs (All-tail P c cs h))

All-filled : (P Q : Counted → Type 0) → ((c : Counted) → P (bare c) → Q c) → (cs : List Counted) → All P (map bare cs) → All Q cs
All-filled P Q weaker [] h = All-nil Q
All-filled P Q weaker (c ∷ cs) h =
    All-cons Q c cs (weaker c (All-head P (bare c) (map bare cs) h)) (All-filled P Q weaker cs (All-tail P (bare c) (map bare cs) h))

Ascends-bare : (cs : List Counted) → Ascends cs → Ascends (map bare cs)
Ascends-bare [] h = tt
Ascends-bare (c ∷ cs) h =
    (All-bare (Precedes c) (Precedes (bare c)) (λ x q. record { number = q.number; order = q.order }) cs h.0, Ascends-bare cs h.1)

Ascends-filled : (cs : List Counted) → Ascends (map bare cs) → Ascends cs
Ascends-filled [] h = tt
Ascends-filled (c ∷ cs) h =
    (All-filled (Precedes (bare c)) (Precedes c) (λ x q. record { number = q.number; order = q.order }) cs h.0, Ascends-filled cs h.1)

pub All-recounted : (P : Counted → Type 0) → ((c : Counted) → P c → P (bare c)) → ((c : Counted) → P (bare c) → P c) → (cs new : List Counted) → IsRecounted cs new → All P cs → All P new
All-recounted P to from cs new h all =
    All-filled P P from new (subst (λ (xs : List Counted). All P xs) (sym h.same) (All-bare P P to cs all))

pub IsOrdered-recounted : (cs new : List Counted) → IsRecounted cs new → IsOrdered cs → IsOrdered new
IsOrdered-recounted cs new h o = record {
  ascends = Ascends-filled new (subst (λ (xs : List Counted). Ascends xs) (sym h.same) (Ascends-bare cs o.ascends));
  forward = All-recounted (λ c. GoesForward c.rule.number c.rule.action) (λ c f. f) (λ c f. f) cs new h o.forward;
}

pub older-recounted : (added : ℕ) (cs new : List Counted) → IsRecounted cs new → All (λ c. c.order ≤ added) cs → All (λ c. c.order ≤ added) new
older-recounted added cs new h older = All-recounted (λ c. c.order ≤ added) (λ c f. f) (λ c f. f) cs new h older

-- ---- counting leaves the same rules

pub IsRecounted-refl : (cs : List Counted) → IsRecounted cs cs
IsRecounted-refl cs = record { same = refl }

pub IsRecounted-then : (xs ys zs : List Counted) → IsRecounted xs ys → IsRecounted ys zs → IsRecounted xs zs
IsRecounted-then xs ys zs h k = record { same = k.same ∙ h.same }

bare-counted : (ks : List ℕ) (a : Amount) (i : ℕ) (cs : List Counted) → map bare (count_more_at ks a i cs) ≡ map bare cs
bare-counted ks a i [] = refl
bare-counted ks a i (c ∷ cs) =
    let hit = list_any (λ k. k == i) ks in
    let same : bare (cond hit (count_more a c) c) ≡ bare c =
    cond_both hit (count_more a c) c (λ x. bare x ≡ bare c) (λ _. refl) (λ _. refl) in
    ap (λ x. x ∷ map bare (count_more_at ks a (i + 1) cs)) same
    ∙ ap (λ (xs : List Counted). bare c ∷ xs) (bare-counted ks a (i + 1) cs)

pub IsRecounted-counted : (ks : List ℕ) (a : Amount) (cs : List Counted) → IsRecounted cs (count_more_at ks a 0 cs)
IsRecounted-counted ks a cs = record { same = bare-counted ks a 0 cs }
