-- The refusal in an error of `add`, or None if memory ran out.
use Rattle.std.specs.Prelude.{Option, Some, None}
use Rattle.emu_model.specs.declared.records.Refusal.{Refusal}
use Rattle.emu_rules.specs.declared.list.AddError.{AddError}
use Rattle.emu_rules.specs.declared.list.AddError.TheVariants.{Refused, NoMemory}

abbrev pub refusal_of : AddError → Option Refusal
refusal_of (Refused r) = Some r
refusal_of NoMemory = None
