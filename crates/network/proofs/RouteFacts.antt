-- What keeps a route, and whose it is.
use Rattle.std.proofs.Common.{◌≡◌, ℕ, zero, suc, ◌+◌, Bool, true, false, ◌==◌, refl, sym, ap, ◌∙◌, subst, List, [], ◌∷◌, ◌++◌, set, Option, Some, None, ◌⊎◌, inl, inr}
use Rattle.std.specs.Prelude.{if◌then◌else◌, option_and_then, slice_get}
use Rattle.std.specs.List.{last_or, list_any}
use Rattle.std.proofs.lemmas.Option.{same_Some}
use Rattle.emu_model.specs.declared.packets.Load.{Load}
use Rattle.emu_model.specs.declared.packets.Load.TheVariants.{Plain}
use Rattle.emu_model.specs.declared.packets.Packet.{Packet}
use Rattle.emu_model.specs.declared.rules.Action.{Action}
use Rattle.emu_model.specs.declared.rules.Action.TheVariants.{Allow, Deny, Count, SkipTo, Pipe}
use Rattle.emu_model.specs.declared.rules.Rule.{Rule}
use Rattle.emu_model.specs.declared.sources.SendSpec.{SendSpec}
use Rattle.emu_model.specs.Rules.{Counted, RuleBook, verdict, verdict_by, verdict_of_match, matched_places, the_rules, count_packet, count_at, counted_book}
use Rattle.emu_model.specs.Net.{packet_of}
use Rattle.emu_rules.specs.Walk.{CountsAlone, IsAlike}
use Rattle.emu_rules.proofs.CallerLemmas.{alone-alike, verdict-alike, rules-counted}
use Rattle.pipe_core.specs.Keyed.{KeyedPipe}
use Rattle.pipe_table.specs.Places.{KeepsPlaces}
use Rattle.sources.specs.Standing.{Heads}
use Rattle.network.specs.declared.flow_cache.Route.{Route}
use Rattle.network.specs.declared.flow_cache.CacheEntry.{CacheEntry}
use Rattle.network.specs.FlowCache.{IsRoute, AreKnown, header_on, plain}

-- counting changes no verdict
verdict_by-counted : (a : Action) (p : Packet) (c : Counted) → verdict_by a (count_packet p c) ≡ verdict_by a c
verdict_by-counted Allow p c = refl
verdict_by-counted Deny p c = refl
verdict_by-counted Count p c = refl
verdict_by-counted (SkipTo n) p c = refl
verdict_by-counted (Pipe n) p c = refl

match-counted : (b : Bool) (p : Packet) (c : Counted) →
    verdict_of_match (Some (if b then count_packet p c else c)) ≡ verdict_of_match (Some c)
match-counted true p c = verdict_by-counted c.rule.action p c
match-counted false p c = refl

read-counted : (ks : List ℕ) (p : Packet) (i : ℕ) (cs : List Counted) (k : ℕ) →
    verdict_of_match (slice_get (count_at ks p i cs) k) ≡ verdict_of_match (slice_get cs k)
read-counted ks p i [] k = refl
read-counted ks p i (c ∷ cs) zero = match-counted (list_any (λ k. k == i) ks) p c
read-counted ks p i (c ∷ cs) (suc k) = read-counted ks p (i + 1) cs k

verdict-counted : (ks : List ℕ) (q : Packet) (start : ℕ) (p : Packet) (cs : List Counted) →
    verdict start p (count_at ks q 0 cs) ≡ verdict start p cs
verdict-counted ks q start p cs =
    ap (λ rs. verdict_of_match (option_and_then (slice_get (count_at ks q 0 cs)) (last_or None (matched_places start p rs)))) (rules-counted ks q 0 cs)
    ∙ go (last_or None (matched_places start p (the_rules cs)))
  where
    go : (o : Option ℕ) → verdict_of_match (option_and_then (slice_get (count_at ks q 0 cs)) o) ≡ verdict_of_match (option_and_then (slice_get cs) o)
    go None = refl
    go (Some k) = read-counted ks q 0 cs k

pub route-counted : (ks : List ℕ) (q : Packet) (start : ℕ) (x : Packet) (w : Route) (cs : List Counted) (ps : List KeyedPipe) →
    IsRoute start x w cs ps → IsRoute start x w (count_at ks q 0 cs) ps
route-counted ks q start x w cs ps a = record {
  alone = subst (λ (rs : List Rule). CountsAlone start x rs w.rule) (sym (rules-counted ks q 0 cs)) a.alone;
  verdict = verdict-counted ks q start x cs ∙ a.verdict;
  routed = a.routed;
}

-- rooms may grow, and instances come
pub route-grown : (start : ℕ) (x : Packet) (w : Route) (cs : List Counted) (ps qs : List KeyedPipe) → KeepsPlaces ps qs →
    IsRoute start x w cs ps → IsRoute start x w cs qs
route-grown start x w cs ps qs keeps a = record {
  alone = a.alone;
  verdict = a.verdict;
  routed = keeps.routes w.number x w.pipe w.instance a.routed;
}

pub known_counted : (ks : List ℕ) (q : Packet) (cs : List Counted) (ps : List KeyedPipe) (h : Heads) (ls : List (Option CacheEntry)) →
    AreKnown cs ps h ls → AreKnown (count_at ks q 0 cs) ps h ls
known_counted ks q cs ps h ls known = record { header = known.header; each = λ line r e. route-counted ks q 0 (plain r.send) r.route cs ps (known.each line r e) }

pub known_searched : (start : ℕ) (q : Packet) (b : RuleBook) (ps : List KeyedPipe) (h : Heads) (ls : List (Option CacheEntry)) →
    AreKnown b.rules ps h ls → AreKnown (counted_book start q b).rules ps h ls
known_searched start q b ps h ls known = known_counted (matched_places start q (the_rules b.rules)) q b.rules ps h ls known

pub known_grown : (cs : List Counted) (ps qs : List KeyedPipe) (h : Heads) (ls : List (Option CacheEntry)) → KeepsPlaces ps qs →
    AreKnown cs ps h ls → AreKnown cs qs h ls
known_grown cs ps qs h ls keeps known = record { header = known.header; each = λ line r e. route-grown 0 (plain r.send) r.route cs ps qs keeps (known.each line r e) }

-- sources keep their headers
pub known_kept : (cs : List Counted) (ps : List KeyedPipe) (g h : Heads) (ls : List (Option CacheEntry)) → h ≡ g →
    AreKnown cs ps g ls → AreKnown cs ps h ls
known_kept cs ps g h ls same known = subst (λ (x : Heads). AreKnown cs ps x ls) (sym same) known

pub known_none : (cs : List Counted) (ps : List KeyedPipe) (h : Heads) (ls : List (Option CacheEntry)) → ls ≡ [] → AreKnown cs ps h ls
known_none cs ps h ls none = subst (AreKnown cs ps h) (sym none) (record { header = λ line r e. absurd (cc); each = λ line r e. absurd (cc) })

-- one line more, on which nothing stands
pub known_more : (cs : List Counted) (ps : List KeyedPipe) (h : Heads) (ls : List (Option CacheEntry)) →
    AreKnown cs ps h ls → AreKnown cs ps h (ls ++ None ∷ [])
known_more cs ps h ls known = record {
  header = λ line r e. known.header line r (before ls line r e);
  each = λ line r e. known.each line r (before ls line r e);
}
  where
    before : (ls : List (Option CacheEntry)) (line : ℕ) (r : CacheEntry) → slice_get (ls ++ None ∷ []) line ≡ Some (Some r) →
        slice_get ls line ≡ Some (Some r)
    before [] zero r e = absurd (cc)
    before [] (suc line) r e = absurd (cc)
    before (l ∷ ls) zero r e = e
    before (l ∷ ls) (suc line) r e = before ls line r e

-- a route is remembered
get-set : {A : Type 0} (xs : List A) (i j : ℕ) (y z : A) → slice_get (set xs i y) j ≡ Some z → (y ≡ z) × (i ≡ j) ⊎ (slice_get xs j ≡ Some z)
get-set [] i j y z e = inr e
get-set (x ∷ xs) zero zero y z e = inl (same_Some y z e, refl)
get-set (x ∷ xs) zero (suc j) y z e = inr e
get-set (x ∷ xs) (suc i) zero y z e = inr e
get-set (x ∷ xs) (suc i) (suc j) y z e = elim (get-set xs i j y z e) [
  | inl h ↦ inl (h.0, ap suc h.1)
  | inr h ↦ inr h
]

pub known_learned : (cs : List Counted) (ps : List KeyedPipe) (h : Heads) (ls : List (Option CacheEntry)) (i : ℕ) (r : CacheEntry) →
    AreKnown cs ps h ls → header_on i h ≡ Some r.send → IsRoute 0 (plain r.send) r.route cs ps → AreKnown cs ps h (set ls i (Some r))
known_learned cs ps h ls i r known header new = record {
  header = λ line s e. elim (get-set ls i line (Some r) (Some s) e) [
    | inl k ↦
        subst (λ (t : CacheEntry). header_on line h ≡ Some t.send) (same_Some r s k.0)
        (subst (λ (j : ℕ). header_on j h ≡ Some r.send) k.1 header)
    | inr k ↦ known.header line s k
  ];
  each = λ line s e. elim (get-set ls i line (Some r) (Some s) e) [
    | inl k ↦ subst (λ (t : CacheEntry). IsRoute 0 (plain t.send) t.route cs ps) (same_Some r s k.0) new
    | inr k ↦ known.each line s k
  ];
}

-- what the rules look at is the header's
module _ (a b : Load) (send : SendSpec) (i j : ℕ) where
  pub alike-made : IsAlike (packet_of a send i) (packet_of b send j)
  alike-made = record { proto = refl; src = refl; sport = refl; dst = refl; dport = refl }

-- the route of a header is that of each packet with it
pub route-made : (load : Load) (send : SendSpec) (number : ℕ) (w : Route) (cs : List Counted) (ps : List KeyedPipe) →
    IsRoute 0 (plain send) w cs ps → IsRoute 0 (packet_of load send number) w cs ps
route-made load send number w cs ps a = record {
  alone = alone-alike 0 (plain send) (packet_of load send number) (the_rules cs) w.rule (alike-made Plain load send 0 number) a.alone;
  verdict = verdict-alike 0 (packet_of load send number) (plain send) cs (alike-made load Plain send number 0) ∙ a.verdict;
  routed = record {
    stands = a.routed.stands;
    pipe = a.routed.pipe;
    there = a.routed.there;
    inside = a.routed.inside;
    its = a.routed.its;
  };
}
