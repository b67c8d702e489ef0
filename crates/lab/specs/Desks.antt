-- What the calls of a worker preserve of the names on its bench.
use Rattle.std.specs.Prelude.{◌≡◌, ◌+◌, ◌==◌, ℕ, List, cond}
use Rattle.std.specs.List.{sum_by}
use Rattle.shard.specs.declared.shard.TakeInError.{TakeInError}
use Rattle.shard.specs.declared.shard.TakeInError.TheVariants.{Crowded, NoMemory}
use Rattle.shard.specs.Stand.{Stand}
use Rattle.bench.specs.declared.bench.Bench.{Bench}
use Rattle.bench.specs.declared.mail.RingMail.{RingMail}
use Rattle.bench.specs.Custody.{times}
use Rattle.lab.specs.declared.worker.Desk.{Desk}
use Rattle.lab.specs.declared.worker.Given.{Given}
use Rattle.lab.specs.Joins.{dossiers_named}

-- the parcel that was not taken in
abbrev pub parcel_of : TakeInError RingMail → Stand RingMail
parcel_of (Crowded p) = p
parcel_of (NoMemory p) = p

-- the number of parcels with a name
abbrev pub parcels_named : ℕ → List (Stand RingMail) → ℕ
parcels_named x ps = sum_by (λ (p : Stand RingMail). cond (p.name == x) 1 0) ps

-- each name that has ended since then has one more dossier
abbrev pub KeepsDossiers : Desk → Desk → Type 0
KeepsDossiers a b = (x : ℕ) → times x b.bench.ended.items + dossiers_named x a.dossiers.items ≡ times x a.bench.ended.items + dossiers_named x b.dossiers.items

-- no parcel and no dossier was lost: a parcel that was handed out was admitted again or waits, and one that waits no
-- more was admitted
pub record LosesNone (a b : Desk) : Type 0 where
  pub parcels : (x : ℕ) → (times x b.bench.handed_out.items + parcels_named x a.waiting.items) + times x a.bench.admitted.items
      ≡ (times x a.bench.handed_out.items + parcels_named x b.waiting.items) + times x b.bench.admitted.items
  pub dossiers : KeepsDossiers a b

-- a parcel that was handed out, or waited, was admitted
pub record Readmits (p : Stand RingMail) (a b : Desk) : Type 0 where
  pub parcels : (x : ℕ) → (times x b.bench.handed_out.items + parcels_named x a.waiting.items) + (times x a.bench.admitted.items + cond (p.name == x) 1 0)
      ≡ (times x a.bench.handed_out.items + parcels_named x b.waiting.items) + times x b.bench.admitted.items
  pub dossiers : KeepsDossiers a b

-- after work on a bench until all its residents have ended: no dossier was lost, and no parcel that was on the bench or
-- waited for it
pub record HandsOver (b : Bench) (waiting : List (Stand RingMail)) (g : Given) : Type 0 where
  pub parcels : (x : ℕ) → (times x g.closing.handed_out.items + parcels_named x waiting) + times x b.admitted.items
      ≡ (times x b.handed_out.items + parcels_named x g.waiting.items) + times x g.closing.admitted.items
  pub dossiers : (x : ℕ) → times x g.closing.ended.items ≡ times x b.ended.items + dossiers_named x g.dossiers.items
