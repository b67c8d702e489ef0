-- The final result of a tenant.
use Rattle.std.specs.Prelude.{ℕ, List}
use Rattle.emu_model.specs.declared.commands.Spec.{Spec}
use Rattle.emu_model.specs.declared.commands.Timed.{Timed}
use Rattle.emu_model.specs.declared.records.Record.{Record}
use Rattle.emu_model.specs.declared.records.Counters.{Counters}
use Rattle.emu_model.specs.declared.records.Ending.{Ending}
use Rattle.shard.specs.Stand.{Final}
use Rattle.bench.specs.declared.mail.RingMail.{RingMail}

-- a dossier without its mail
pub record Settled : Type 0 where
  pub name : ℕ
  pub spec : Spec
  pub commands : List Timed
  pub records : List Record
  pub counters : Counters
  pub ending : Ending
  pub events : ℕ

abbrev pub settled : Final RingMail → Settled
settled d = record {
  name = d.name;
  spec = d.spec;
  commands = d.commands;
  records = d.records;
  counters = d.counters;
  ending = d.ending;
  events = d.events;
}
