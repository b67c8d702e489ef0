-- What a search for one packet tells of packets like it, and of counting.
use Rattle.std.proofs.Common.{◌≡◌, ℕ, zero, suc, ◌+◌, ◌&&◌, ◌==◌, cond, Some, None, List, [], ◌∷◌, length, drop, refl, sym, ap, ◌∙◌}
use Rattle.std.specs.Prelude.{Option, option_map, option_and_then, position, slice_get}
use Rattle.std.specs.List.{last_or, list_any}
use Rattle.std.proofs.lemmas.Bool.{cond_both}
use Rattle.emu_model.specs.declared.packets.Packet.{Packet}
use Rattle.emu_model.specs.declared.rules.Rule.{Rule}
use Rattle.emu_model.specs.Rules.{Counted, proto_matches, address_matches, port_matches, rule_matches, least_match, goes_on, action_at, next_match, matches_from, matched_places, verdict, verdict_of_match, the_rules, count_packet, count_at, counted_rules}
use Rattle.emu_rules.specs.Walk.{CountsAlone, IsAlike}

matches_alike : (p q : Packet) → IsAlike p q → rule_matches p ≡ rule_matches q
matches_alike p q h = λ t r.
    proto_matches r.proto (h.proto t)
    && address_matches r.src (h.src t) && port_matches r.sports (h.sport t)
    && address_matches r.dst (h.dst t) && port_matches r.dports (h.dport t)

pub least_alike : (p q : Packet) (rs : List Rule) → IsAlike p q → least_match p rs ≡ least_match q rs
least_alike p q rs h = λ t from.
    option_map (λ k. from + k) (position (matches_alike p q h t) (drop from rs))

from_alike : (n : ℕ) (p q : Packet) (rs : List Rule) (at : Option ℕ) → IsAlike p q →
    matches_from n p rs at ≡ matches_from n q rs at
from_alike zero p q rs at h = refl
from_alike (suc n) p q rs None h = refl
from_alike (suc n) p q rs (Some k) h =
    let next : next_match p rs k ≡ next_match q rs k =
    ap (λ f. option_and_then f (goes_on rs k (action_at rs k))) (least_alike p q rs h) in
    ap (λ at. k ∷ matches_from n p rs at) next
    ∙ ap (λ ks. k ∷ ks) (from_alike n p q rs (next_match q rs k) h)

-- the places that match are those of each packet like it
pub matched-alike : (start : ℕ) (p q : Packet) (rs : List Rule) → IsAlike p q →
    matched_places start p rs ≡ matched_places start q rs
matched-alike start p q rs h =
    ap (λ f. matches_from (length rs) p rs (f start)) (least_alike p q rs h)
    ∙ from_alike (length rs) p q rs (least_match q rs start) h

pub verdict-alike : (start : ℕ) (p q : Packet) (cs : List Counted) → IsAlike p q →
    verdict start p cs ≡ verdict start q cs
verdict-alike start p q cs h =
    ap (λ ks. verdict_of_match (option_and_then (slice_get cs) (last_or None ks)))
    (matched-alike start p q (the_rules cs) h)

pub alone-alike : (start : ℕ) (p q : Packet) (rs : List Rule) (k : ℕ) → IsAlike p q →
    CountsAlone start p rs k → CountsAlone start q rs k
alone-alike start p q rs k h a = record {
  within = a.within;
  places = sym (matched-alike start p q rs h) ∙ a.places;
}

-- the rule that counts alone is all that a search counts
pub counted-alone : (start : ℕ) (p : Packet) (cs : List Counted) (k : ℕ) →
    CountsAlone start p (the_rules cs) k →
    counted_rules start p cs ≡ count_at (k ∷ []) p 0 cs
counted-alone start p cs k a = ap (λ ks. count_at ks p 0 cs) a.places

-- counting changes no rule but its counters
pub rules-counted : (ks : List ℕ) (p : Packet) (i : ℕ) (cs : List Counted) →
    the_rules (count_at ks p i cs) ≡ the_rules cs
rules-counted ks p i [] = refl
rules-counted ks p i (c ∷ cs) =
    let hit = list_any (λ k. k == i) ks in
    let rest = count_at ks p (i + 1) cs in
    let same : (cond hit (count_packet p c) c).rule ≡ c.rule =
    cond_both hit (count_packet p c) c (λ x. x.rule ≡ c.rule) (λ _. refl) (λ _. refl) in
    ap (λ (r : Rule). r ∷ the_rules rest) same
    ∙ ap (λ (rs : List Rule). c.rule ∷ rs) (rules-counted ks p (i + 1) cs)
