-- What holds of each name, whatever the other names do.
use Rattle.std.specs.Prelude.{◌≡◌, ℕ, ◌≤◌, ◌⊎◌, List, [], ◌++◌, length, take, Option, Some, None}
use Rattle.emu_model.specs.declared.commands.Timed.{Timed}
use Rattle.emu_model.specs.Net.{counters_of}
use Rattle.emu_model.specs.Alone.{alone}
use Rattle.emu_model.specs.RunLaws.{IsExtendedBy, TakesSteps}
use Rattle.experiment.specs.Kept.{last_moment}
use Rattle.shard.specs.Mails.{letters_of, posted_of}
use Rattle.shard.specs.Stand.{heard_from}
use Rattle.world.specs.declared.home.Home.{Home}
use Rattle.world.specs.declared.home.Home.TheVariants.{Seated}
use Rattle.world.specs.Tenants.{Life, Standing, Over, Tenant, Shown, shown, name_of, place_of}
use Rattle.world.specs.Places.{Places, tenant_at, home_at, name_at, standings, wanted_in}

-- the records and counters are those of running it alone, on the commands that came, for as many events as it made
pub record IsAlone (v : Shown) : Type 0 where
  pub records : v.records ≡ (alone v.spec v.commands v.events).net.records
  pub counters : v.counters ≡ counters_of (alone v.spec v.commands v.events).net

-- an experiment that has not ended shows the whole state of running it alone
abbrev pub IsAloneState : Life → Type 0
IsAloneState (Standing s) = s.state ≡ alone s.spec s.consumed s.state.steps
IsAloneState (Over d) = Unit {0}

-- the posted commands are those that came, and then those that wait
abbrev pub IsPosted : Shown → Type 0
IsPosted v = posted_of v.mail ≡ v.commands ++ v.mail.waiting

-- the read letters and then the unread ones are the first of the records
abbrev pub AreLetters : Shown → Type 0
AreLetters v = IsExtendedBy (v.mail.read ++ v.mail.unread) v.records

-- what holds of a name's tenant
pub record IsKept (n : ℕ) (t : Tenant) : Type 0 where
  pub name : name_of t.life ≡ n
  pub is_alone : IsAlone (shown t.life)
  pub whole : IsAloneState t.life
  pub takes : TakesSteps (shown t.life).spec (shown t.life).commands (shown t.life).events
  pub heard : (shown t.life).commands ≡ heard_from [] (shown t.life).mail.given
  pub told : (published : ℕ) × (letters_of (shown t.life).mail ≡ take published (shown t.life).records)
  pub rising : heard_from [] (posted_of (shown t.life).mail) ≡ posted_of (shown t.life).mail
  pub last : t.last ≡ last_moment 0 (posted_of (shown t.life).mail)

-- how often a name with this home is in a deque
abbrev pub waits_of : Option Home → ℕ → ℕ
waits_of None i = 0
waits_of (Some h) i = wanted_in (place_of h) i

pub record IsWorld (w : Places) : Type 0 where
  pub sits : (n i slot : ℕ) → home_at w.desks n ≡ Some (Seated i slot) → name_at w.shards i slot ≡ Some n
  pub sits_there : (n i slot : ℕ) → name_at w.shards i slot ≡ Some n → home_at w.desks n ≡ Some (Seated i slot)
  pub waits : (n i : ℕ) → standings w.deques i n ≡ waits_of (home_at w.desks n) i
  pub each : (n : ℕ) (t : Tenant) → tenant_at w n ≡ Some t → IsKept n t
  pub as_many : length w.deques ≡ length w.shards

-- the first list is a prefix of the second
abbrev pub AreFollowedBy : List Timed → List Timed → Type 0
AreFollowedBy c d = (more : List Timed) × (d ≡ c ++ more)

-- the records of the one with fewer events are a prefix of the other's; with equally many events the records and the
-- counters are equal
pub record AgreeUpTo (v w : Shown) : Type 0 where
  pub fewer : v.events ≤ w.events → IsExtendedBy v.records w.records
  pub more : w.events ≤ v.events → IsExtendedBy w.records v.records
  pub as_many : v.events ≡ w.events → (v.records ≡ w.records) × (v.counters ≡ w.counters)

-- two worlds agree on a name in each if both have the same spec and one list of commands is a prefix of the other
abbrev pub AgreeOnNames : Places → Places → Type 0
AgreeOnNames one other = (n m : ℕ) (s t : Tenant) → tenant_at one n ≡ Some s → tenant_at other m ≡ Some t →
    (shown s.life).spec ≡ (shown t.life).spec →
    AreFollowedBy (shown s.life).commands (shown t.life).commands
    ⊎ AreFollowedBy (shown t.life).commands (shown s.life).commands →
    AgreeUpTo (shown s.life) (shown t.life)
