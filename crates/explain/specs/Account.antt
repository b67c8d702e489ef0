-- What the records of a report say that is told.
use Rattle.std.specs.Prelude.{ℕ, List, [], ◌∷◌}
use Rattle.emu_model.specs.declared.records.Record.{Record}
use Rattle.emu_model.specs.declared.records.Record.TheVariants.{CommandRefused}
use Rattle.report.specs.Words.{code_of}
use Rattle.explain.specs.declared.account.RefusedCommand.{RefusedCommand}
use Rattle.explain.specs.declared.notes.Note.{Note}

pub record Told : Type 0 where
  pub refusals : List RefusedCommand
  pub notes : List Note

-- the command of the experiment with this number that a record says was refused
abbrev pub refusals_by : ℕ → Record → List RefusedCommand
refusals_by e (CommandRefused moment k refusal) = record { experiment = e; command = k; code = code_of refusal } ∷ []
refusals_by e _ = []
