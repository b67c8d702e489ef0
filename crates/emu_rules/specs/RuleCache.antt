-- The contents of cached searches: the results of whole searches, and the counts that the rules don't have yet.
use Rattle.std.specs.Prelude.{◌≡◌, ℕ, ◌≤◌, ◌==◌, false, if◌then◌else◌, Option, Some, None, List, [], ◌∷◌, All, IfSome, slice_get}
use Rattle.emu_model.specs.declared.packets.Load.TheVariants.{Plain}
use Rattle.emu_model.specs.declared.packets.Packet.{Packet}
use Rattle.emu_model.specs.declared.rules.Rule.{Rule}
use Rattle.emu_model.specs.Rules.{Counted}
use Rattle.emu_rules.specs.declared.cache.CachedSearch.{CachedSearch}
use Rattle.emu_rules.specs.declared.cache.RuleCache.{RuleCache}
use Rattle.emu_rules.specs.Walk.{IsAlike, IsFound, counted_more, one_more}

-- a packet of the cached search's flow
abbrev pub flow_packet : CachedSearch → Packet
flow_packet f = record {
  proto = f.proto;
  src = f.src;
  sport = f.sport;
  dst = f.dst;
  dport = f.dport;
  size = 40;
  number = 0;
  load = Plain;
  place = record { number = 0; order = 0 };
}

-- a valid cached search, at age `now`, of the packet from place `start` on
pub record IsSearchOf (now start : ℕ) (p : Packet) (f : CachedSearch) : Type 0 where
  pub age : f.age ≡ now
  pub from : f.from ≡ start
  pub alike : IsAlike (flow_packet f) p

-- the cached search of the packet is at this place, and is valid
pub record IsHeldAt (start : ℕ) (p : Packet) (place : ℕ) (m : RuleCache) : Type 0 where
  pub f : CachedSearch
  pub there : slice_get m.held.items place ≡ Some (Some f)
  pub of : IsSearchOf m.age start p f

-- a cached search was cached at this age of the cache or before; one of this age has the result of every search for its
-- packets. If it counted no packet, it counted no byte
pub record IsTruePath (rules : List Rule) (age : ℕ) (f : CachedSearch) : Type 0 where
  pub early : f.age ≤ age
  pub says : f.age ≡ age → IsFound f.from (flow_packet f) rules f.found
  pub idle : f.counted.packets ≡ 0 → f.counted.bytes ≡ 0

-- the rules have everything that the cached search counted
abbrev pub IsIdle : Option CachedSearch → Type 0
IsIdle o = IfSome o (λ f. f.counted.packets ≡ 0)

-- all cached searches are correct for the rules, and none has counts unless some are pending
pub record AreTrueOf (rules : List Rule) (m : RuleCache) : Type 0 where
  pub each : All (λ o. IfSome o (IsTruePath rules m.age)) m.held.items
  pub idle : m.is_pending ≡ false → All IsIdle m.held.items

-- the cached search after it counted one more packet of this size
abbrev pub with_one : ℕ → CachedSearch → CachedSearch
with_one size f = record f { counted = one_more size f.counted }

-- the cached search with its counts set to 0
abbrev pub emptied : Option CachedSearch → Option CachedSearch
emptied None = None
emptied (Some f) = Some (record f { counted = record { packets = 0; bytes = 0 } })

-- the rules after the counts of a cached search were added
abbrev pub settled_by : Option CachedSearch → List Counted → List Counted
settled_by None cs = cs
settled_by (Some f) cs =
    if f.counted.packets == 0 then cs else counted_more f.from (flow_packet f) f.counted cs

-- the rules after the counts of all cached searches were added
abbrev pub settled_in : List (Option CachedSearch) → List Counted → List Counted
settled_in [] cs = cs
settled_in (o ∷ os) cs = settled_in os (settled_by o cs)

abbrev pub settled : RuleCache → List Counted → List Counted
settled m cs = settled_in m.held.items cs
