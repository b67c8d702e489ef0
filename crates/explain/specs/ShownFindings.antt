-- What is printed.
use Rattle.std.specs.Prelude.{ℕ, List, [], ◌∷◌, ◌++◌, length, take, map, replicate, max, Option, Some, None, if◌then◌else◌, nat_lt, nat_le, codes, decimal}
use Rattle.explain.specs.declared.past.Earlier.{Earlier}
use Rattle.explain.specs.declared.span.Span.{Span}
use Rattle.explain.specs.declared.refused.Refused.{Refused}

-- printable ASCII as it is, any other byte as `?`
abbrev pub shown_byte : ℕ → ℕ
shown_byte b = if nat_lt b 32 then 63 else (if nat_lt 126 b then 63 else b)

-- a line of a scenario whole, the first 64 bytes of a longer one
abbrev pub shown_line : List ℕ → List ℕ
shown_line line = if nat_le (length line) 512 then map shown_byte line else map shown_byte (take 64 line) ++ 46 ∷ 46 ∷ 46 ∷ []

abbrev pub row : List ℕ → List ℕ → List ℕ
row label text = label ++ shown_line text ++ 10 ∷ []

-- marks under a part of a line that stands behind two spaces
abbrev pub marks : Span → List ℕ
marks p = 32 ∷ 32 ∷ replicate p.start 32 ++ replicate (max p.width 1) 94 ++ 10 ∷ []

abbrev pub marked : List ℕ → Option Span → List ℕ
marked line None = []
marked line (Some p) = if nat_le (length line) 512 then marks p else []

-- a line, and marks beneath it
abbrev pub marked_line : List ℕ → Option Span → List ℕ
marked_line line place = row (codes "  ") line ++ marked line place

abbrev pub earlier_row : Earlier → List ℕ
earlier_row e = codes "  before: line " ++ decimal e.number ++ row (codes ": ") e.line.now

abbrev pub before_row : Option Earlier → List ℕ
before_row None = []
before_row (Some e) = earlier_row e

abbrev pub line_rows : Option (List ℕ) → Option Span → List ℕ
line_rows None place = []
line_rows (Some line) place = marked_line line place

abbrev pub optional_row : List ℕ → Option (List ℕ) → List ℕ
optional_row label None = []
optional_row label (Some text) = row label text

-- what is printed of a fault: its line, the place in it, what was expected, an example, a hint, the line before
abbrev pub finding_text : Option (List ℕ) → Option Span → List ℕ → Option (List ℕ) → Option (List ℕ) → Option Earlier → List ℕ
finding_text line place expected example hint before = line_rows line place ++ row (codes "  expected: ") expected ++ optional_row (codes "  example: ") example ++ optional_row (codes "  hint: ") hint ++ before_row before

-- what is printed of a refused command
abbrev pub refused_text : Refused → List ℕ
refused_text r = codes "line " ++ decimal r.number ++ codes ": refused " ++ decimal r.code ++ codes "\n" ++ row (codes "  ") r.line.now ++ row (codes "  experiment: ") r.experiment.now ++ row (codes "  means: ") r.meaning.text.now ++ row (codes "  hint: ") r.meaning.hint.now
