-- Lines by their numbers, and places in a line.
use Rattle.std.specs.Prelude.{◌≡◌, ℕ, ◌+◌, ◌-◌, ◌≤◌, List, [], ◌∷◌, length, take, drop, Option, Some, None, if◌then◌else◌, ◌==◌}
use Rattle.std.specs.List.{prefix_len, position_or_len}
use Rattle.explain.specs.declared.span.Span.{Span}
use Rattle.control_words.specs.Text.{words}
use Rattle.control.specs.declared.fault.Cause.{Cause}
use Rattle.control.specs.declared.fault.Cause.TheVariants.{BadWord, OutOfRange, NoEnd, SameName, NoExperiment, AfterEnd, Backwards}
use Rattle.control.specs.declared.word_fault.Check.{Check}
use Rattle.control.specs.declared.word_fault.Check.TheVariants.{Forms, Ranges}
use Rattle.control.specs.FirstWrong.{IsFine, IsFirstWrong}

-- the line with this number, counted from 1
abbrev pub nth_line : ℕ → List (List ℕ) → Option (List ℕ)
nth_line n [] = None
nth_line n (l ∷ ls) = if n == 1 then Some l else nth_line (n - 1) ls

-- a line that has a byte
abbrev pub nonempty : Option (List ℕ) → Option (List ℕ)
nonempty None = None
nonempty (Some []) = None
nonempty (Some (b ∷ bs)) = Some (b ∷ bs)

-- a place, if there is one, lies in the line
abbrev pub IsWithin : Option Span → List ℕ → Type 0
IsWithin None line = Unit {0}
IsWithin (Some p) line = p.start + p.width ≤ length line

-- the same of the line that is shown, or of no byte where none is
abbrev pub IsInLine : Option Span → Option (List ℕ) → Type 0
IsInLine place None = IsWithin place []
IsInLine place (Some line) = IsWithin place line

-- the place has the first of these words, or, where there is none, no byte behind the line's last
abbrev pub IsFirstAt : List (List ℕ) → List ℕ → Span → Type 0
IsFirstAt [] line p = (p.start ≡ length line) × (p.width ≡ 0)
IsFirstAt (w ∷ ws) line p = take p.width (drop p.start line) ≡ w

-- behind what stands up to the first space, and the spaces there
abbrev pub past_first : List ℕ → ℕ
past_first bytes = let e = position_or_len (λ b. b == 32) bytes in e + prefix_len (λ b. b == 32) (drop e bytes)

pub record IsPastWord (line : List ℕ) (start after : ℕ) : Type 0 where
  pub value : after ≡ start + past_first (drop start line)
  pub within : after ≤ length line

-- the number of the word that is marked, where the cause alone says which
abbrev pub marked_word : Cause → Option ℕ
marked_word NoEnd = Some 0
marked_word SameName = Some 1
marked_word NoExperiment = Some 0
marked_word AfterEnd = Some 0
marked_word Backwards = Some 0
marked_word _ = None

-- the word with this number is marked, if there is a number
abbrev pub Marks : Option ℕ → Option Span → List ℕ → Type 0
Marks None place line = Unit {0}
Marks (Some k) None line = ⊥
Marks (Some k) (Some p) line = IsFirstAt (drop k (words line)) line p

-- the first word at fault is marked; nothing is, where no word is at fault
abbrev pub MarksWord : Check → Option Span → List ℕ → Type 0
MarksWord check None line = IsFine check (words line)
MarksWord check (Some p) line = (k : ℕ) × IsFirstWrong check (words line) k × IsFirstAt (drop k (words line)) line p

-- the same, where the cause is one of a word
abbrev pub MarksBlamed : Cause → Option Span → List ℕ → Type 0
MarksBlamed BadWord place line = MarksWord Forms place line
MarksBlamed OutOfRange place line = MarksWord Ranges place line
MarksBlamed _ place line = Unit {0}
