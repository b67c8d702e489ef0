-- The parser of lines and their grammar agree.
use Rattle.std.specs.Prelude.{◌≡◌, Some}
use Rattle.control_words.specs.Words.{Words}
use Rattle.control_lines.specs.Grammar.{Line, IsLine}
use Rattle.control_lines.specs.Shape.{shape_of}

-- words are parsed as this line exactly if they are this line by the grammar
abbrev pub LinesAreRead : Type 0
LinesAreRead = (ws : Words) (l : Line) → (shape_of ws ≡ Some l → IsLine ws l) × (IsLine ws l → shape_of ws ≡ Some l)
