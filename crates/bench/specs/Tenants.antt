-- What a tenant keeps, and whether a dossier is its own.
use Rattle.std.specs.Prelude.{◌≡◌, ◌<◌, ◌≤◌, ◌^◌, true, false, List, []}
use Rattle.emu_model.specs.declared.commands.Timed.{Timed}
use Rattle.emu_model.specs.declared.records.Record.{Record}
use Rattle.experiment.specs.Kept.{last_moment}
use Rattle.rtrb.specs.Ring.{known_free, known_items}
use Rattle.shard.specs.Stand.{Final}
use Rattle.bench.specs.declared.mail.RingMail.{RingMail}
use Rattle.bench.specs.declared.tenant.Tenant.{Tenant}
use Rattle.bench.specs.declared.tenant.PostError.{PostError}
use Rattle.bench.specs.declared.tenant.PostError.TheVariants.{Closed, TooLate, Early, NoMemory, MailFull}
use Rattle.emu_model.specs.Commands.{has_end}
use Rattle.bench.specs.Commands.{BeginsWith, Took}

-- the commands that were posted, and the letters that were read
abbrev pub posted : Tenant → List Timed
posted t = t.posted.items

abbrev pub letters_read : Tenant → List Record
letters_read t = t.read.items

-- 64 posted commands are not known to be taken
abbrev pub IsFull : Tenant → Type 0
IsFull t = known_free t.to ≡ 0

-- no letter is known to wait
abbrev pub NoneWaits : Tenant → Type 0
NoneWaits t = known_items t.from ≡ []

abbrev pub SameTenant : Tenant → Tenant → Type 0
SameTenant t u = (u.name ≡ t.name) × (u.spec ≡ t.spec)

-- no `end` was posted, and the command is neither too late nor too early
abbrev pub MayPost : List Timed → Timed → Type 0
MayPost ts c = (has_end ts ≡ false) × (c.moment ≤ 10 ^ 15) × (last_moment 0 ts ≤ c.moment)

-- the reason applies, and none before it does
abbrev pub PostFails : PostError → Tenant → Tenant → Timed → Type 0
PostFails Closed t u c = has_end (posted t) ≡ true
PostFails TooLate t u c = (has_end (posted t) ≡ false) × (10 ^ 15 < c.moment)
PostFails Early t u c = (has_end (posted t) ≡ false) × (c.moment ≤ 10 ^ 15) × (c.moment < last_moment 0 (posted t))
PostFails NoMemory t u c = MayPost (posted t) c
PostFails MailFull t u c = MayPost (posted t) c × IsFull u

-- the name and the spec are the tenant's, the commands were posted, and the letters that were read are the first records
pub record Fits (t : Tenant) (d : Final RingMail) : Type 0 where
  pub name : d.name ≡ t.name
  pub spec : d.spec ≡ t.spec
  pub took : Took d.ending t.posted.items d.commands
  pub told : BeginsWith d.records t.read.items
