-- The relation between a rejected line and its faulty word.
use Rattle.std.specs.Prelude.{◌≡◌, ℕ, List, Some, None}
use Rattle.control_words.specs.Text.{words}
use Rattle.control_lines.specs.Entries.{StandsAlone}
use Rattle.control_lines.specs.declared.line.LineFault.TheVariants.{BadWord, OutOfRange}
use Rattle.control.specs.declared.word_fault.Blamed.{Blamed}
use Rattle.control.specs.declared.word_fault.Check.{Check}
use Rattle.control.specs.declared.word_fault.Check.TheVariants.{Forms, Ranges}
use Rattle.control.specs.declared.expected.Expected.TheVariants.{First}
use Rattle.control.specs.Walk.{walk}

-- a word of the line is faulty
abbrev pub HasBlamed : Check → List ℕ → Type 0
HasBlamed check line = (b : Blamed) × (walk check 0 First (words line) ≡ Some b)

-- if the words are faulty, one of them has a wrong form; if the numbers are, no form is wrong, and one number is out of range
abbrev pub RefusedAreBlamed : Type 0
RefusedAreBlamed = (line : List ℕ) → (StandsAlone BadWord line → HasBlamed Forms line) × (StandsAlone OutOfRange line → (walk Forms 0 First (words line) ≡ None) × HasBlamed Ranges line)
