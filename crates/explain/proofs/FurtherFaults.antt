-- Faults that are told, one behind the other.
use Rattle.std.proofs.Common.{◌≡◌, ℕ, ◌+◌, ◌<◌, List, [], ◌∷◌, ◌++◌, Option, Some, None, drop, inl, inr, refl, sym, subst, ap, ◌∙◌}
use Rattle.std.proofs.lemmas.List.{drop-drop}
use Rattle.control_words.specs.Text.{lines}
use Rattle.control_lines.specs.Entries.{StandsAlone}
use Rattle.control_lines.specs.declared.line.LineFault.{LineFault}
use Rattle.control_lines.specs.declared.line.LineFault.TheVariants as alone
use Rattle.control.specs.declared.fault.Fault.{Fault}
use Rattle.explain.specs.Lines.{nth_line}
use Rattle.explain.proofs.Numbers.{places_next}
use Rattle.explain.specs.Further.{cause_alone, StandsByItself, IsTold, AreTold, IsToldFrom, IsCut}

-- the line behind which the next is looked for
abbrev pub last_line : ℕ → List Fault → ℕ
last_line after [] = after
last_line after (f ∷ fs) = last_line f.line fs

pub told_more : (ls : List (List ℕ)) (after : ℕ) (fs : List Fault) (f : Fault) → AreTold ls after fs → IsTold ls (last_line after fs) (Some f) → AreTold ls after (fs ++ f ∷ [])
told_more ls after [] f told next = (next, tt)
told_more ls after (g ∷ fs) f told next = (told.0, told_more ls g.line fs f told.1 next)

pub last_more : (after : ℕ) (fs : List Fault) (f : Fault) → last_line after (fs ++ f ∷ []) ≡ f.line
last_more after [] f = refl
last_more after (g ∷ fs) f = last_more g.line fs f

by_itself : (c : LineFault) (line : List ℕ) → StandsAlone c line → StandsByItself (cause_alone c) line
by_itself alone.TooLong line h = h
by_itself alone.BadByte line h = h
by_itself alone.BadWord line h = h
by_itself alone.OutOfRange line h = h

-- a line that is faulty by itself
pub told_alone : (ls : List (List ℕ)) (number after : ℕ) (line : List ℕ) (c : LineFault) → nth_line number ls ≡ Some line → after < number → StandsAlone c line → IsTold ls after (Some (record { line = number; cause = cause_alone c }))
told_alone ls number after line c is above h = (above, inl (line, is, by_itself c line h))

-- the last line
pub told_cut : (ls : List (List ℕ)) (n after : ℕ) (line : List ℕ) (f : Option Fault) → nth_line (n + 1) ls ≡ Some line → IsCut n after line f → IsTold ls after f
told_cut ls n after line None is h = tt
told_cut ls n after line (Some f) is h = (h.0, inl (line, subst (λ (g : Fault). nth_line g.line ls ≡ Some line) (sym h.2) is, subst (λ (g : Fault). StandsByItself g.cause line) (sym h.2) h.1))

-- what the lines behind some others say, read as a text
pub told_from : (ls : List (List ℕ)) (n after : ℕ) (text : List ℕ) (f : Option Fault) → lines text ≡ drop n ls → IsToldFrom n after text f → IsTold ls after f
told_from ls n after text None left h = tt
told_from ls n after text (Some f) left h = (h.0, inr (n, (text, h.1.0, left, h.1.1, h.1.2)))

-- a line on
pub lines_next : (text rest after : List (List ℕ)) (before number : ℕ) (line : List ℕ) → rest ≡ drop before text → ((k : ℕ) → nth_line (before + 1 + k) text ≡ nth_line (k + 1) rest) → rest ≡ line ∷ after → number ≡ before + 1 → (after ≡ drop number text) × ((k : ℕ) → nth_line (number + 1 + k) text ≡ nth_line (k + 1) after)
lines_next text rest after before number line left places is e =
    let next : drop 1 (drop before text) ≡ after = ap (drop 1) (sym left ∙ is) in
    (sym (rw e (sym (drop-drop 1 before text) ∙ next)), rw e (places_next text rest after (before + 1) line places is))
