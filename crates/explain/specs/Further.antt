-- Faulty lines behind the first.
use Rattle.std.specs.Prelude.{◌≡◌, ℕ, ◌+◌, ◌<◌, List, [], ◌∷◌, length, drop, Option, Some, None, option_map, ◌⊎◌, ◌++◌, codes, decimal}
use Rattle.control_words.specs.Text.{lines}
use Rattle.control_lines.specs.declared.line.LineFault.{LineFault}
use Rattle.control_lines.specs.declared.line.LineFault.TheVariants as alone
use Rattle.control.specs.declared.fault.Cause.{Cause}
use Rattle.control.specs.declared.fault.Cause.TheVariants.{TooBig, Cut, TooLong, BadByte, BadWord, OutOfRange, NoEnd, TooMany, SameName, NoExperiment, AfterEnd, Backwards}
use Rattle.control.specs.declared.fault.Fault.{Fault}
use Rattle.control.specs.Scenario.{Stands, HasFault}
use Rattle.explain.specs.Lines.{nth_line}
use Rattle.explain.specs.ShownFindings.{finding_text}
use Rattle.explain.specs.declared.finding.Finding.{Finding}

abbrev pub cause_alone : LineFault → Cause
cause_alone alone.TooLong = TooLong
cause_alone alone.BadByte = BadByte
cause_alone alone.BadWord = BadWord
cause_alone alone.OutOfRange = OutOfRange

abbrev pub cause_word : Cause → List ℕ
cause_word TooBig = codes "toobig"
cause_word Cut = codes "cut"
cause_word TooLong = codes "toolong"
cause_word BadByte = codes "badbyte"
cause_word BadWord = codes "badword"
cause_word OutOfRange = codes "outofrange"
cause_word NoEnd = codes "noend"
cause_word TooMany = codes "toomany"
cause_word SameName = codes "samename"
cause_word NoExperiment = codes "noexperiment"
cause_word AfterEnd = codes "afterend"
cause_word Backwards = codes "backwards"

-- by itself, whatever stands before it; the last line has no line feed
abbrev pub StandsByItself : Cause → List ℕ → Type 0
StandsByItself Cut line = 0 < length line
StandsByItself cause line = Stands cause [] line

-- the line is faulty by itself
abbrev pub IsFaultyLine : List (List ℕ) → Fault → Type 0
IsFaultyLine ls f = (line : List ℕ) × (nth_line f.line ls ≡ Some line) × StandsByItself f.cause line

-- the lines behind the first n, read as a text of their own, have this fault
abbrev pub IsFaultFrom : ℕ → List (List ℕ) → Fault → Type 0
IsFaultFrom n ls f = (text : List ℕ) × (g : Fault) × (lines text ≡ drop n ls) × HasFault text g × (f ≡ record { line = n + g.line; cause = g.cause })

-- a fault that is told behind the line of another, if there is one
abbrev pub IsTold : List (List ℕ) → ℕ → Option Fault → Type 0
IsTold ls after None = Unit {0}
IsTold ls after (Some f) = (after < f.line) × (IsFaultyLine ls f ⊎ ((n : ℕ) × IsFaultFrom n ls f))

-- each behind the one before
abbrev pub AreTold : List (List ℕ) → ℕ → List Fault → Type 0
AreTold ls after [] = Unit {0}
AreTold ls after (f ∷ fs) = IsTold ls after (Some f) × AreTold ls f.line fs

-- the fault of a text whose first line stands behind so many others, if there is one
abbrev pub IsToldFrom : ℕ → ℕ → List ℕ → Option Fault → Type 0
IsToldFrom n after text None = Unit {0}
IsToldFrom n after text (Some f) = (after < f.line) × ((g : Fault) × HasFault text g × (f ≡ record { line = n + g.line; cause = g.cause }))

-- the last line, which has no line feed, if it is told
abbrev pub IsCut : ℕ → ℕ → List ℕ → Option Fault → Type 0
IsCut n after line None = Unit {0}
IsCut n after line (Some f) = (after < f.line) × (0 < length line) × (f ≡ record { line = n + 1; cause = Cut })

-- what is printed of a fault, with its line in front
abbrev pub found_text : Fault → Finding → List ℕ
found_text fault f =
    codes "line " ++ decimal fault.line ++ codes ": " ++ cause_word fault.cause ++ codes "\n"
    ++ finding_text (option_map (λ l. l.now) f.line) f.inside.place f.inside.expected.now (option_map (λ t. t.now) f.inside.example) (option_map (λ t. t.now) f.inside.hint) f.before
