-- A refused line has a word to blame.
use Rattle.std.proofs.Common.{◌≡◌, ℕ, List, Option, Some, None, refl, sym, ap, ◌∙◌}
use Rattle.std.proofs.lemmas.Option.{same_Some, none-some}
use Rattle.control_words.specs.Text.{words}
use Rattle.control_words.specs.Words.{Words}
use Rattle.control_lines.specs.Grammar.{Line, IsLine}
use Rattle.control_lines.specs.Entries.{line_within, StandsAlone}
use Rattle.control_lines.specs.LinesAreRead.{LinesAreRead}
use Rattle.control_lines.specs.declared.line.LineFault.TheVariants.{BadWord, OutOfRange}
use Rattle.control.specs.declared.word_fault.Blamed.{Blamed}
use Rattle.control.specs.declared.word_fault.Check.TheVariants.{Forms, Ranges}
use Rattle.control.specs.declared.expected.Expected.TheVariants.{First}
use Rattle.control.specs.Refused.{HasBlamed, RefusedAreBlamed}
use Rattle.control.specs.Walk.{walk}
use Rattle.control.proofs.Faults.{blamed}

by_form : LinesAreRead → (line : List ℕ) (o : Option Blamed) → walk Forms 0 First (words line) ≡ o → StandsAlone BadWord line → HasBlamed Forms line
by_form law line None e h = let f = blamed law Forms (words line) None (sym e) in absurd (h.1 f.0 f.1)
by_form law line (Some b) e h = (b, e)

no_form : LinesAreRead → (line : List ℕ) (o : Option Blamed) → walk Forms 0 First (words line) ≡ o → StandsAlone OutOfRange line → walk Forms 0 First (words line) ≡ None
no_form law line None e h = e
no_form law line (Some b) e h = let f = blamed law Forms (words line) (Some b) (sym e) in absurd (f.no_line (h.0, h.1))

one_line : LinesAreRead → (ws : Words) (l m : Line) → IsLine ws l → IsLine ws m → l ≡ m
one_line law ws l m a b = same_Some l m (sym ((law ws l).1 a) ∙ (law ws m).1 b)

by_range : LinesAreRead → (line : List ℕ) (o : Option Blamed) → walk Ranges 0 First (words line) ≡ o → StandsAlone OutOfRange line → HasBlamed Ranges line
by_range law line None e h =
    let f = blamed law Ranges (words line) None (sym e) in
    absurd (none-some f.1 (sym h.2 ∙ ap line_within (one_line law (words line) h.0 f.0 h.1 f.2) ∙ f.3))
by_range law line (Some b) e h = (b, e)

pub refused : LinesAreRead → RefusedAreBlamed
refused law = λ line. (λ h. by_form law line (walk Forms 0 First (words line)) refl h, λ h. (no_form law line (walk Forms 0 First (words line)) refl h, by_range law line (walk Ranges 0 First (words line)) refl h))
