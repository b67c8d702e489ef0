-- The entry of a line of a scenario, and the faults of a line whatever precedes it.
use Rattle.std.specs.Prelude.{◌≡◌, ℕ, ◌<◌, Bool, true, false, ◌&&◌, not, List, [], ◌∷◌, length, Option, Some, None, Result, Ok, Err, ◌⊎◌, nat_lt, nat_le, ◌==◌, if◌then◌else◌}
use Rattle.std.specs.List.{list_all}
use Rattle.emu_model.specs.declared.commands.Spec.{Spec}
use Rattle.emu_model.specs.declared.commands.Timed.{Timed}
use Rattle.control_words.specs.Text.{words}
use Rattle.control_words.specs.Words.{◌>>=◌}
use Rattle.control_lines.specs.Grammar.{Line, Experiment, Command, IsLine}
use Rattle.control_lines.specs.Shape.{shape_of}
use Rattle.control_lines.specs.Ranges.{spec_within, timed_within}
use Rattle.control_lines.specs.declared.line.LineFault.{LineFault}
use Rattle.control_lines.specs.declared.line.LineFault.TheVariants.{TooLong, BadByte, BadWord, OutOfRange}
use Rattle.control_lines.specs.declared.line.LineEntry.{LineEntry}
use Rattle.control_lines.specs.declared.line.LineEntry.TheVariants as code

-- the entry of a line: nothing, an experiment, or a command
pub data Entry : Type 0 where
  Nothing : Entry
  Begins : List ℕ → Spec → Entry
  Does : Timed → Entry

abbrev pub view_entry : LineEntry → Entry
view_entry code.Nothing = Nothing
view_entry (code.Begins name spec) = Begins name.now spec
view_entry (code.Does command) = Does command

-- a line without words, or a comment
abbrev pub is_skipped : List (List ℕ) → Bool
is_skipped [] = true
is_skipped ([] ∷ ws) = false
is_skipped ((c ∷ cs) ∷ ws) = c == 35

abbrev pub is_printable : ℕ → Bool
is_printable c = nat_le 32 c && nat_le c 126

-- the entry of the line, if each number is in its range
unfoldable pub line_within : Line → Option Entry
line_within (Experiment h) = do
  spec ← spec_within h
  Some (Begins h.name spec)
line_within (Command c) = do
  timed ← timed_within c
  Some (Does timed)

-- the line spells this entry, with its numbers in their ranges
abbrev pub Says : List ℕ → Entry → Type 0
Says line e = ((is_skipped (words line) ≡ true) × (e ≡ Nothing)) ⊎ ((l : Line) × IsLine (words line) l × (line_within l ≡ Some e))

-- the faults of a line by itself
abbrev pub StandsAlone : LineFault → List ℕ → Type 0
StandsAlone TooLong line = 512 < length line
StandsAlone BadByte line = list_all is_printable line ≡ false
StandsAlone BadWord line = (is_skipped (words line) ≡ false) × ((l : Line) → IsLine (words line) l → ⊥)
StandsAlone OutOfRange line = (l : Line) × IsLine (words line) l × (line_within l ≡ None)

-- the order in which faults are reported
abbrev pub place : LineFault → ℕ
place TooLong = 0
place BadByte = 1
place BadWord = 2
place OutOfRange = 3

-- the first fault that applies
abbrev pub IsFirstAlone : LineFault → List ℕ → Type 0
IsFirstAlone c line = StandsAlone c line × ((other : LineFault) → place other < place c → StandsAlone other line → ⊥)

-- a line without a fault that spells `e`, and no other entry
pub record IsEntry (line : List ℕ) (e : Entry) : Type 0 where
  pub says : Says line e
  pub only : (other : Entry) → Says line other → other ≡ e
  pub fine : (c : LineFault) → StandsAlone c line → ⊥

-- ---- parsing a line
abbrev pub ranged : Option Entry → Result Entry LineFault
ranged None = Err OutOfRange
ranged (Some e) = Ok e

abbrev pub shaped : Option Line → Result Entry LineFault
shaped None = Err BadWord
shaped (Some l) = ranged (line_within l)

unfoldable pub entry_of : List ℕ → Result Entry LineFault
entry_of line =
    if nat_lt 512 (length line) then Err TooLong
    else if not (list_all is_printable line) then Err BadByte
    else if is_skipped (words line) then Ok Nothing
    else shaped (shape_of (words line))
