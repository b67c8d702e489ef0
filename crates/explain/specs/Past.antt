-- What stands before a line.
use Rattle.std.specs.Prelude.{◌≡◌, ℕ, ◌<◌, false, if◌then◌else◌, List, Option, Some, None}
use Rattle.std.specs.Str.{bytes_eq}
use Rattle.emu_model.specs.declared.commands.Command.{Command}
use Rattle.emu_model.specs.Commands.{is_end}
use Rattle.explain.specs.Lines.{nth_line}
use Rattle.explain.specs.declared.past.Earlier.{Earlier}
use Rattle.explain.specs.declared.past.Past.{Past}
use Rattle.control.specs.declared.fault.Cause.{Cause}
use Rattle.control.specs.declared.fault.Cause.TheVariants.{NoEnd, SameName, AfterEnd, Backwards}

-- of these lines that with its number, which is below another
abbrev pub IsBefore : List (List ℕ) → ℕ → Option Earlier → Type 0
IsBefore ls n None = Unit {0}
IsBefore ls n (Some e) = (nth_line e.number ls ≡ Some e.line.now) × (e.number < n)

pub record IsPastOf (ls : List (List ℕ)) (n : ℕ) (p : Past) : Type 0 where
  pub begun : IsBefore ls n p.begun
  pub command : IsBefore ls n p.command
  pub named : IsBefore ls n p.named

-- the line that a fault goes by
abbrev pub line_for : Cause → Past → Option Earlier
line_for NoEnd p = p.begun
line_for SameName p = p.named
line_for AfterEnd p = p.command
line_for Backwards p = p.command
line_for _ p = None

abbrev pub or_this : Option Earlier → Earlier → Option Earlier
or_this None x = Some x
or_this (Some y) x = Some y

-- the first line whose experiment has the name that is looked for, behind the line x, which begins another
abbrev pub named_with : Earlier → List ℕ → Option (List ℕ) → Option Earlier → Option Earlier
named_with x other None named = named
named_with x other (Some name) named = if bytes_eq name other then or_this named x else named

-- behind the line x, which begins an experiment of another name
abbrev pub with_begin : Earlier → List ℕ → Option (List ℕ) → Past → Past
with_begin x other name p = record { begun = Some x; command = None; has_ended = false; named = named_with x other name p.named }

-- behind the line x, which is a command
abbrev pub with_command : Earlier → Command → Past → Past
with_command x command p = record p { command = Some x; has_ended = is_end command }
