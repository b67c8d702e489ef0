-- What is held of cached searches: each is true of the rules, and stays so where one counts, is settled, or makes place.
use Rattle.std.proofs.Common.{◌≡◌, ℕ, ◌<◌, Option, Some, None, List, [], ◌∷◌, ◌++◌, length, get_or, set, refl, sym, ap, ◌∙◌, subst}
use Rattle.std.specs.Prelude.{All, IfSome, slice_get}
use Rattle.std.specs.List.{last_or}
use Rattle.std.proofs.lemmas.Option.{same_Some, slice_get_within, slice_get_read, get_or_from_slice_get}
use Rattle.std.proofs.lemmas.List.Elements.{All-append, All-cons, All-nil, All-set}
use Rattle.emu_model.specs.declared.packets.Packet.{Packet}
use Rattle.emu_model.specs.declared.rules.Rule.{Rule}
use Rattle.emu_rules.specs.declared.cache.CachedSearch.{CachedSearch}
use Rattle.emu_rules.specs.declared.cache.RuleCache.{RuleCache}
use Rattle.emu_rules.specs.declared.search.Found.{Found}
use Rattle.emu_rules.specs.Walk.{IsAlike, IsFound}
use Rattle.emu_rules.specs.RuleCache.{AreTrueOf, IsHeldAt, IsIdle, IsSearchOf, IsTruePath, emptied, flow_packet}
use Rattle.emu_rules.proofs.Alike.{alone-alike, least_alike, matched-alike}

-- what a search finds for one packet it finds for each like it
pub found-alike : (start : ℕ) (p q : Packet) (rules : List Rule) (f : Found) → IsAlike p q → IsFound start p rules f → IsFound start q rules f
found-alike start p q rules f h found = record {
  last = found.last ∙ ap (last_or None) (matched-alike start p q rules h);
  alone = λ known. alone-alike start p q rules f.rule h (found.alone known);
  more = λ none k e. found.more none k (ap (λ (g : ℕ → Option ℕ). g start) (least_alike p q rules h) ∙ e);
}

-- what is said of all holds of the one at a place
pub at_place : {X : Type 0} (P : X → Type 0) (xs : List X) (k : ℕ) (x : X) → All P xs → slice_get xs k ≡ Some x → P x
at_place P xs k x h e =
    subst P (get_or_from_slice_get xs k x x e) (h k x (slice_get_within xs k x e))

pub held-true : (rules : List Rule) (m : RuleCache) (k : ℕ) (f : CachedSearch) → AreTrueOf rules m → slice_get m.held.items k ≡ Some (Some f) → IsTruePath rules m.age f
held-true rules m k f h e = at_place (λ o. IfSome o (IsTruePath rules m.age)) m.held.items k (Some f) h.each e

held-same : (m : RuleCache) (k : ℕ) (f : CachedSearch) (start : ℕ) (p : Packet) (h : IsHeldAt start p k m) → slice_get m.held.items k ≡ Some (Some f) → f ≡ h.f
held-same m k f start p h e = same_Some f h.f (same_Some (Some f) (Some h.f) (sym e ∙ h.there))

pub held-path : (m : RuleCache) (k : ℕ) (f : CachedSearch) (start : ℕ) (p : Packet) → IsHeldAt start p k m → slice_get m.held.items k ≡ Some (Some f) → IsSearchOf m.age start p f
held-path m k f start p h e = subst (IsSearchOf m.age start p) (sym (held-same m k f start p h e)) h.of

pub held-found : (rules : List Rule) (m : RuleCache) (k : ℕ) (f : CachedSearch) (start : ℕ) (p : Packet) → AreTrueOf rules m → IsHeldAt start p k m → slice_get m.held.items k ≡ Some (Some f) → IsFound start p rules f.found
held-found rules m k f start p h at e =
    let of = held-path m k f start p at e in
    let found = (held-true rules m k f h e).says of.age in
    found-alike start (flow_packet f) p rules f.found of.alike
    (subst (λ n. IsFound n (flow_packet f) rules f.found) of.from found)

-- ---- what is written at a place

pub emptied-idle : (o : Option CachedSearch) → IsIdle (emptied o)
emptied-idle None = tt
emptied-idle (Some f) = refl

pub emptied-true : (rules : List Rule) (age : ℕ) (o : Option CachedSearch) → IfSome o (IsTruePath rules age) → IfSome (emptied o) (IsTruePath rules age)
emptied-true rules age None h = tt
emptied-true rules age (Some f) h = record { early = h.early; says = h.says; idle = λ _. refl }

-- a place more
pub AreTrueOf-push : (rules : List Rule) (m new : RuleCache) → new.held.items ≡ m.held.items ++ None ∷ [] → new.age ≡ m.age → new.is_pending ≡ m.is_pending → AreTrueOf rules m → AreTrueOf rules new
AreTrueOf-push rules m new items age pending h = record {
  each = subst (λ (os : List (Option CachedSearch)). All (λ o. IfSome o (IsTruePath rules new.age)) os) (sym items)
      (All-append (λ o. IfSome o (IsTruePath rules new.age)) m.held.items (None ∷ [])
      (subst (λ n. All (λ o. IfSome o (IsTruePath rules n)) m.held.items) (sym age) h.each)
      (All-cons (λ o. IfSome o (IsTruePath rules new.age)) None [] tt (All-nil (λ o. IfSome o (IsTruePath rules new.age)))));
  idle = λ none. subst (All IsIdle) (sym items)
      (All-append IsIdle m.held.items (None ∷ []) (h.idle (sym pending ∙ none)) (All-cons IsIdle None [] tt (All-nil IsIdle)));
}

-- ---- what the code reads

pub read-path : (os : List (Option CachedSearch)) (k : ℕ) (o : Option CachedSearch) (f : CachedSearch) → k < length os → o ≡ get_or os k o → o ≡ Some f → slice_get os k ≡ Some (Some f)
read-path os k o f within read is = slice_get_read os (length os) k o refl within read ∙ ap Some is

pub held-within : (m : RuleCache) (k start : ℕ) (p : Packet) → IsHeldAt start p k m → k < length m.held.items
held-within m k start p h = slice_get_within m.held.items k (Some h.f) h.there

pub read-slot : (os : List (Option CachedSearch)) (k : ℕ) (o : Option CachedSearch) → k < length os → o ≡ get_or os k o → slice_get os k ≡ Some o
read-slot os k o within read = slice_get_read os (length os) k o refl within read

-- a new cached search is true of the rules
pub new-true : (rules : List Rule) (m new : RuleCache) (k : ℕ) (f : CachedSearch) → new.held.items ≡ set m.held.items k (Some f) → new.age ≡ m.age → new.is_pending ≡ m.is_pending → AreTrueOf rules m → IsTruePath rules m.age f → IsIdle (Some f) → AreTrueOf rules new
new-true rules m new k f items age pending h true_of idle = record {
  each = subst (λ (os : List (Option CachedSearch)). All (λ o. IfSome o (IsTruePath rules new.age)) os) (sym items)
      (subst (λ n. All (λ o. IfSome o (IsTruePath rules n)) (set m.held.items k (Some f))) (sym age)
      (All-set (λ o. IfSome o (IsTruePath rules m.age)) m.held.items k (Some f) true_of h.each));
  idle = λ none. subst (All IsIdle) (sym items) (All-set IsIdle m.held.items k (Some f) idle (h.idle (sym pending ∙ none)));
}

-- a cached search that is settled stays true of them
pub settled-true : (rules : List Rule) (m new : RuleCache) (k : ℕ) (o : Option CachedSearch) → new.held.items ≡ set m.held.items k (emptied o) → new.age ≡ m.age → new.is_pending ≡ m.is_pending → AreTrueOf rules m → slice_get m.held.items k ≡ Some o → AreTrueOf rules new
settled-true rules m new k o items age pending h e = record {
  each = subst (λ (os : List (Option CachedSearch)). All (λ o. IfSome o (IsTruePath rules new.age)) os) (sym items)
      (subst (λ n. All (λ o. IfSome o (IsTruePath rules n)) (set m.held.items k (emptied o))) (sym age)
      (All-set (λ o. IfSome o (IsTruePath rules m.age)) m.held.items k (emptied o)
      (emptied-true rules m.age o (at_place (λ o. IfSome o (IsTruePath rules m.age)) m.held.items k o h.each e)) h.each));
  idle = λ none. subst (All IsIdle) (sym items) (All-set IsIdle m.held.items k (emptied o) (emptied-idle o) (h.idle (sym pending ∙ none)));
}
