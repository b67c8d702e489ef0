-- The first faulty word of a line.
use Rattle.std.specs.Prelude.{◌≡◌, ℕ, ◌+◌, ◌<◌, ◌≤◌, ◌++◌, length, take, Some}
use Rattle.control_words.specs.Words.{Words}
use Rattle.control_lines.specs.Grammar.{Line, IsLine}
use Rattle.control_lines.specs.Entries.{Entry, line_within}
use Rattle.control.specs.declared.word_fault.Check.{Check}
use Rattle.control.specs.declared.word_fault.Check.TheVariants.{Forms, Ranges}

-- the words are a line, with its numbers within their ranges if the check covers ranges
abbrev pub IsFine : Check → Words → Type 0
IsFine Forms ws = (l : Line) × IsLine ws l
IsFine Ranges ws = (l : Line) × (e : Entry) × IsLine ws l × (line_within l ≡ Some e)

-- the word with this number, counted from 0, is the first that no line allows; if it is the number of words, the line ends
-- too early
pub record IsFirstWrong (check : Check) (ws : Words) (k : ℕ) : Type 0 where
  pub within : k ≤ length ws
  -- some line begins with the words before it
  pub begun : (more : Words) × IsFine check (take k ws ++ more)
  -- no line begins with the words up to it
  pub wrong : k < length ws → (more : Words) → IsFine check (take (k + 1) ws ++ more) → ⊥
  -- the words are no line
  pub no_line : IsFine check ws → ⊥

-- there is at most one such word
abbrev pub OneIsFirstWrong : Type 0
OneIsFirstWrong = (check : Check) (ws : Words) (j k : ℕ) → IsFirstWrong check ws j → IsFirstWrong check ws k → j ≡ k
