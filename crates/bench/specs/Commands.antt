-- Lists of commands, and the commands among them that an experiment takes.
use Rattle.std.specs.Prelude.{◌≡◌, List, length, take}
use Rattle.emu_model.specs.declared.commands.Timed.{Timed}
use Rattle.emu_model.specs.declared.records.Ending.{Ending}
use Rattle.emu_model.specs.declared.records.Ending.TheVariants.{Ended, Spent, Halted}

-- the second list is a prefix of the first
abbrev pub BeginsWith : {A : Type 0} → List A → List A → Type 0
BeginsWith all first = take (length first) all ≡ first

-- all posted commands, if the experiment ended by its command; otherwise a prefix of them
abbrev pub Took : Ending → List Timed → List Timed → Type 0
Took Ended posted commands = commands ≡ posted
Took Spent posted commands = BeginsWith posted commands
Took Halted posted commands = BeginsWith posted commands
