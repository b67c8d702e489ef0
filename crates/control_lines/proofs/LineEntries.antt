-- What is read of a line is what it says, or the first fault that stands in it.
use Rattle.std.proofs.Common.{◌≡◌, inl, inr, ℕ, ◌<◌, ◌≤◌, Bool, true, false, cond, not, ltb, List, length, Option, Some, None, Result, Ok, Err, MatchResult, refl, sym, ap, subst, ◌∙◌, arith}
use Rattle.std.specs.List.{list_all}
use Rattle.std.proofs.lemmas.Bool.{ltb-true, ltb-false}
use Rattle.std.proofs.lemmas.Option.{same_Some, none-some}
use Rattle.control_words.specs.Text.{words}
use Rattle.control_words.specs.Words.{Words}
use Rattle.control_lines.specs.Grammar.{Line, Experiment, Command, IsLine}
use Rattle.control_lines.specs.Shape.{shape_of}
use Rattle.control_lines.specs.Entries.{Entry, Nothing, is_skipped, is_printable, line_within, Says, StandsAlone, place, IsFirstAlone, IsEntry, ranged, shaped, entry_of}
use Rattle.control_lines.specs.declared.line.LineFault.{LineFault}
use Rattle.control_lines.specs.declared.line.LineFault.TheVariants.{TooLong, BadByte, BadWord, OutOfRange}
use Rattle.control_lines.proofs.LineLaw.{Laws, line_found, line_again}

abbrev Read : Type 0
Read = Result Entry LineFault

-- how a line was read
data Reads (line : List ℕ) (r : Read) : Type 0 where
  Long : 512 < length line → r ≡ Err TooLong → Reads line r
  Unprinted : length line ≤ 512 → list_all is_printable line ≡ false → r ≡ Err BadByte → Reads line r
  Skips : length line ≤ 512 → list_all is_printable line ≡ true → is_skipped (words line) ≡ true → r ≡ Ok Nothing → Reads line r
  NoLine : length line ≤ 512 → list_all is_printable line ≡ true → is_skipped (words line) ≡ false → shape_of (words line) ≡ None → r ≡ Err BadWord → Reads line r
  Outside : (l : Line) → length line ≤ 512 → list_all is_printable line ≡ true → shape_of (words line) ≡ Some l → line_within l ≡ None → r ≡ Err OutOfRange → Reads line r
  Inside : (l : Line) (e : Entry) → length line ≤ 512 → list_all is_printable line ≡ true → shape_of (words line) ≡ Some l → line_within l ≡ Some e → r ≡ Ok e → Reads line r

reads_range : (line : List ℕ) (l : Line) (o : Option Entry) → length line ≤ 512 → list_all is_printable line ≡ true → shape_of (words line) ≡ Some l → line_within l ≡ o → Reads line (ranged o)
reads_range line l None le p s e = Outside l le p s e refl
reads_range line l (Some x) le p s e = Inside l x le p s e refl

reads_shape : (line : List ℕ) (o : Option Line) → length line ≤ 512 → list_all is_printable line ≡ true → is_skipped (words line) ≡ false → shape_of (words line) ≡ o → Reads line (shaped o)
reads_shape line None le p k e = NoLine le p k e refl
reads_shape line (Some l) le p k e = reads_range line l (line_within l) le p e refl

reads_skip : (line : List ℕ) (b : Bool) → length line ≤ 512 → list_all is_printable line ≡ true → is_skipped (words line) ≡ b → Reads line (cond b (Ok Nothing) (shaped (shape_of (words line))))
reads_skip line true le p k = Skips le p k refl
reads_skip line false le p k = reads_shape line (shape_of (words line)) le p k refl

reads_byte : (line : List ℕ) (b : Bool) → length line ≤ 512 → list_all is_printable line ≡ b → Reads line (cond (not b) (Err BadByte) (cond (is_skipped (words line)) (Ok Nothing) (shaped (shape_of (words line)))))
reads_byte line true le p = reads_skip line (is_skipped (words line)) le p refl
reads_byte line false le p = Unprinted le p refl

reads_long : (line : List ℕ) (b : Bool) → ltb 512 (length line) ≡ b → Reads line (cond b (Err TooLong) (cond (not (list_all is_printable line)) (Err BadByte) (cond (is_skipped (words line)) (Ok Nothing) (shaped (shape_of (words line))))))
reads_long line true e = Long (ltb-true 512 (length line) e) refl
reads_long line false e = reads_byte line (list_all is_printable line) (ltb-false 512 (length line) e) refl

reads : (line : List ℕ) → Reads line (entry_of line)
unfolding entry_of
reads line = reads_long line (ltb 512 (length line)) refl

unskipped : (ws : Words) (l : Line) → IsLine ws l → is_skipped ws ≡ false
unskipped ws (Experiment h) i = ap is_skipped i.3
unskipped ws (Command c) i = ap is_skipped i.2

true_false : true ≡ false → ⊥
true_false e = cc

one_line : Laws → (ws : Words) (l m : Line) → shape_of ws ≡ Some l → IsLine ws m → m ≡ l
one_line laws ws l m e i = sym (same_Some l m (sym e ∙ line_again laws ws m i))

abbrev passed : Entry → Read
passed e = Ok e

abbrev failed : LineFault → Read
failed c = Err c

same_entry : (e f : Entry) → passed e ≡ passed f → e ≡ f
same_entry e f h = cc

same_fault : (c d : LineFault) → failed c ≡ failed d → c ≡ d
same_fault c d h = cc

no_fault : (e : Entry) (c : LineFault) → passed e ≡ failed c → ⊥
no_fault e c h = cc

-- what a skipped line says
skip_only : (line : List ℕ) (other : Entry) → is_skipped (words line) ≡ true → Says line other → other ≡ Nothing
skip_only line other k (inl h) = h.1
skip_only line other k (inr h) = absurd (true_false (sym k ∙ unskipped (words line) h.0 h.1))

skip_fine : (line : List ℕ) → length line ≤ 512 → list_all is_printable line ≡ true → is_skipped (words line) ≡ true → (c : LineFault) → StandsAlone c line → ⊥
skip_fine line le p k TooLong h = omega (arith, le, h)
skip_fine line le p k BadByte h = true_false (sym p ∙ h)
skip_fine line le p k BadWord h = true_false (sym k ∙ h.0)
skip_fine line le p k OutOfRange h = true_false (sym k ∙ unskipped (words line) h.0 h.1)

inside_only : Laws → (line : List ℕ) (l : Line) (e other : Entry) → shape_of (words line) ≡ Some l → line_within l ≡ Some e → Says line other → other ≡ e
inside_only laws line l e other s w (inl h) = absurd (true_false (sym h.0 ∙ unskipped (words line) l (line_found laws (words line) l s)))
inside_only laws line l e other s w (inr h) = sym (same_Some e other (sym w ∙ ap line_within (sym (one_line laws (words line) l h.0 s h.1)) ∙ h.2))

-- a line that says something is skipped, or is one line
pub says_one : Laws → (line : List ℕ) (e other : Entry) → Says line e → Says line other → e ≡ other
says_one laws line e other (inl h) (inl k) = h.1 ∙ sym k.1
says_one laws line e other (inl h) (inr k) = absurd (true_false (sym h.0 ∙ unskipped (words line) k.0 k.1))
says_one laws line e other (inr h) (inl k) = absurd (true_false (sym k.0 ∙ unskipped (words line) h.0 h.1))
says_one laws line e other (inr h) (inr k) = sym (inside_only laws line h.0 e other (line_again laws (words line) h.0 h.1) h.2 (inr k))

inside_fine : Laws → (line : List ℕ) (l : Line) (e : Entry) → length line ≤ 512 → list_all is_printable line ≡ true → shape_of (words line) ≡ Some l → line_within l ≡ Some e → (c : LineFault) → StandsAlone c line → ⊥
inside_fine laws line l e le p s w TooLong h = omega (arith, le, h)
inside_fine laws line l e le p s w BadByte h = true_false (sym p ∙ h)
inside_fine laws line l e le p s w BadWord h = h.1 l (line_found laws (words line) l s)
inside_fine laws line l e le p s w OutOfRange h = none-some e (sym h.2 ∙ ap line_within (one_line laws (words line) l h.0 s h.1) ∙ w)

entry_at : Laws → (line : List ℕ) (r : Read) (e : Entry) → Reads line r → r ≡ Ok e → IsEntry line e
entry_at laws line r e (Long a is) q = absurd (no_fault e TooLong (sym q ∙ is))
entry_at laws line r e (Unprinted a b is) q = absurd (no_fault e BadByte (sym q ∙ is))
entry_at laws line r e (Skips le p k is) q =
    let same : Nothing ≡ e = same_entry Nothing e (sym is ∙ q) in
    subst (λ (x : Entry). IsEntry line x) same (record { says = inl (k, refl); only = λ other h. skip_only line other k h; fine = skip_fine line le p k })
entry_at laws line r e (NoLine a b c d is) q = absurd (no_fault e BadWord (sym q ∙ is))
entry_at laws line r e (Outside l a b c d is) q = absurd (no_fault e OutOfRange (sym q ∙ is))
entry_at laws line r e (Inside l x le p s w is) q =
    subst (λ (y : Entry). IsEntry line y) (same_entry x e (sym is ∙ q)) (record { says = inr (l, line_found laws (words line) l s, w); only = λ other h. inside_only laws line l x other s w h; fine = inside_fine laws line l x le p s w })

no_shape : Laws → (line : List ℕ) → shape_of (words line) ≡ None → (l : Line) → IsLine (words line) l → ⊥
no_shape laws line e l i = none-some l (sym e ∙ line_again laws (words line) l i)

long_first : (line : List ℕ) (d : LineFault) → place d < 0 → StandsAlone d line → ⊥
long_first line d lt h = omega (arith, lt)

byte_first : (line : List ℕ) → length line ≤ 512 → (d : LineFault) → place d < 1 → StandsAlone d line → ⊥
byte_first line le TooLong lt h = omega (arith, le, h)
byte_first line le BadByte lt h = omega (arith, lt)
byte_first line le BadWord lt h = omega (arith, lt)
byte_first line le OutOfRange lt h = omega (arith, lt)

word_first : (line : List ℕ) → length line ≤ 512 → list_all is_printable line ≡ true → (d : LineFault) → place d < 2 → StandsAlone d line → ⊥
word_first line le p TooLong lt h = omega (arith, le, h)
word_first line le p BadByte lt h = true_false (sym p ∙ h)
word_first line le p BadWord lt h = omega (arith, lt)
word_first line le p OutOfRange lt h = omega (arith, lt)

range_first : Laws → (line : List ℕ) (l : Line) → length line ≤ 512 → list_all is_printable line ≡ true → shape_of (words line) ≡ Some l → (d : LineFault) → place d < 3 → StandsAlone d line → ⊥
range_first laws line l le p s TooLong lt h = omega (arith, le, h)
range_first laws line l le p s BadByte lt h = true_false (sym p ∙ h)
range_first laws line l le p s BadWord lt h = h.1 l (line_found laws (words line) l s)
range_first laws line l le p s OutOfRange lt h = omega (arith, lt)

abbrev first_of_line : List ℕ → LineFault → Type 0
first_of_line line c = IsFirstAlone c line

first_at : Laws → (line : List ℕ) (r : Read) (c : LineFault) → Reads line r → r ≡ Err c → IsFirstAlone c line
first_at laws line r c (Long lt is) q = subst (first_of_line line) (same_fault TooLong c (sym is ∙ q)) (lt, long_first line)
first_at laws line r c (Unprinted le p is) q = subst (first_of_line line) (same_fault BadByte c (sym is ∙ q)) (p, byte_first line le)
first_at laws line r c (Skips le p k is) q = absurd (no_fault Nothing c (sym is ∙ q))
first_at laws line r c (NoLine le p k s is) q = subst (first_of_line line) (same_fault BadWord c (sym is ∙ q)) ((k, no_shape laws line s), word_first line le p)
first_at laws line r c (Outside l le p s w is) q = subst (first_of_line line) (same_fault OutOfRange c (sym is ∙ q)) ((l, line_found laws (words line) l s, w), range_first laws line l le p s)
first_at laws line r c (Inside l x le p s w is) q = absurd (no_fault x c (sym is ∙ q))

pub entry_is : Laws → (line : List ℕ) (e : Entry) → entry_of line ≡ Ok e → IsEntry line e
entry_is laws line e q = entry_at laws line (entry_of line) e (reads line) q

pub fault_is : Laws → (line : List ℕ) (c : LineFault) → entry_of line ≡ Err c → IsFirstAlone c line
fault_is laws line c q = first_at laws line (entry_of line) c (reads line) q

-- the two ways that a line is read
pub read_is : {X : Type 0} (laws : Laws) (view : X → Entry) (line : List ℕ) (r : Result X LineFault) → MatchResult r (λ x. entry_of line ≡ Ok (view x)) (λ c. entry_of line ≡ Err c) → MatchResult r (λ x. IsEntry line (view x)) (λ c. IsFirstAlone c line)
read_is laws view line (Ok x) h = entry_is laws line (view x) h
read_is laws view line (Err c) h = fault_is laws line c h
