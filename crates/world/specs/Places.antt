-- A contract's view of a world: the tenant of each name, the shards, and the deques.
use Rattle.std.specs.Prelude.{◌≡◌, ℕ, ◌==◌, ◌<◌, if◌then◌else◌, List, [], length, count_by, slice_get, slice_index_or}
use Rattle.std.specs.Prelude.{Option, Some, None, option_map, option_and_then}
use Rattle.shard.specs.Mails.{MailBook}
use Rattle.shard.specs.Stand.{Stand, Seating, stands_of}
use Rattle.world.specs.declared.home.Home.{Home}
use Rattle.world.specs.declared.home.Home.TheVariants.{Handed, Seated, Queued, Left}
use Rattle.world.specs.declared.home.Desk.{Desk}
use Rattle.world.specs.declared.home.Place.{Place}
use Rattle.world.specs.declared.home.Place.TheVariants.{HandedOut, Resident, InDeque, Ended}
use Rattle.world.specs.Tenants.{Life, Standing, Over, Tenant, place_of}

-- what is stored for each name, the shards, and the names in each deque from its front
pub record Places : Type 0 where
  pub desks : List Desk
  pub shards : List (Seating MailBook)
  pub deques : List (List ℕ)

abbrev pub shard_at : List (Seating MailBook) → ℕ → Seating MailBook
shard_at shards i = slice_index_or shards i (record { seats = []; clock = 0 })

-- the resident of a slot of a shard
unfoldable pub stand_at : List (Seating MailBook) → ℕ → ℕ → Option (Stand MailBook)
stand_at shards i slot = slice_index_or (stands_of (shard_at shards i).seats) slot None

abbrev pub deque_at : List (List ℕ) → ℕ → List ℕ
deque_at deques i = slice_index_or deques i []

abbrev pub life_of : List (Seating MailBook) → Home → Option Life
life_of shards (Handed p) = Some (Standing p)
life_of shards (Seated i slot) = option_map Standing (stand_at shards i slot)
life_of shards (Queued i p) = Some (Standing p)
life_of shards (Left d) = Some (Over d)

abbrev pub tenant_of : List (Seating MailBook) → Desk → Option Tenant
tenant_of shards d = option_map (λ (life : Life).
    let t : Tenant = record { place = place_of d.home; life = life; closed = d.closed; last = d.last } in t)
    (life_of shards d.home)

-- the tenant of a name; None if the name was never registered
unfoldable pub tenant_at : Places → ℕ → Option Tenant
tenant_at w n = option_and_then (tenant_of w.shards) (slice_get w.desks n)

abbrev pub home_at : List Desk → ℕ → Option Home
home_at desks n = option_map (λ (d : Desk). d.home) (slice_get desks n)

-- the name of the resident of a slot of a shard
abbrev pub name_at : List (Seating MailBook) → ℕ → ℕ → Option ℕ
name_at shards i slot = option_map (λ (s : Stand MailBook). s.name) (stand_at shards i slot)

-- how often a name is in a deque
abbrev pub standings : List (List ℕ) → ℕ → ℕ → ℕ
standings deques i n = count_by (λ m. m == n) (deque_at deques i)

-- how often a name at this place is in a deque
abbrev pub wanted_in : Place → ℕ → ℕ
wanted_in HandedOut i = 0
wanted_in (Resident j slot) i = 0
wanted_in (InDeque j) i = if j == i then 1 else 0
wanted_in Ended i = 0

-- the name is at this place and at no other: it is in exactly that slot, and once in exactly that deque, if any
pub record IsOnlyAt (w : Places) (n : ℕ) (p : Place) : Type 0 where
  pub sits : (i slot : ℕ) → p ≡ Resident i slot → name_at w.shards i slot ≡ Some n
  pub sits_there : (i slot : ℕ) → name_at w.shards i slot ≡ Some n → p ≡ Resident i slot
  pub waits : (i : ℕ) → standings w.deques i n ≡ wanted_in p i

-- each registered name has a tenant, at exactly one place
abbrev pub AreAtOnePlace : Places → Type 0
AreAtOnePlace w = (n : ℕ) → n < length w.desks → (t : Tenant) × (tenant_at w n ≡ Some t) × IsOnlyAt w n t.place
