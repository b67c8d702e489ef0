-- A resident or a parcel as one value, and the experiment that it shows.
use Rattle.std.specs.Prelude.{ℕ, Option, List, ◌++◌}
use Rattle.emu_model.specs.declared.records.Record.{Record}
use Rattle.experiment.specs.Kept.{KeptExperiment}

-- an experiment with these records before its own
abbrev pub behind : List Record → KeptExperiment → KeptExperiment
behind rs e = record e { net = record e.net { log = record e.net.log { records = rs ++ e.net.log.records } } }

-- the name, the experiment with all its records, its mail, and the number of published records
pub record Moved (M : Type 0) : Type 0 where
  pub name : ℕ
  pub experiment : KeptExperiment
  pub mail : M
  pub published : ℕ

-- the same value with another mail
abbrev pub with_mail : {M : Type 0} → Moved M → M → Moved M
with_mail b mail = record b { mail = mail }

-- a resident of a shard: its owner in the store of packets, and the offset that is added to the times of its entry
pub record Residence (M : Type 0) : Type 0 where
  pub name : ℕ
  pub owner : ℕ
  pub experiment : KeptExperiment
  pub mail : M
  pub published : ℕ
  pub offset : Option ℕ
