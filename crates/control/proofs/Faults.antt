-- The word at which the walk stops is the first that no line allows.
use Rattle.std.proofs.Common.{◌≡◌, ℕ, suc, ◌+◌, ◌<◌, true, false, ◌++◌, length, take, Option, Some, None, MatchOption, refl, sym, ap, subst, ◌∙◌, arith}
use Rattle.std.specs.Option.{is_some}
use Rattle.std.proofs.lemmas.Bool.{false≢true}
use Rattle.control_words.specs.Words.{Words}
use Rattle.control_lines.specs.Grammar.{Line}
use Rattle.control_lines.specs.Entries.{Entry, line_within}
use Rattle.control_lines.specs.LinesAreRead.{LinesAreRead}
use Rattle.control_lines.specs.Shape.{shape_of}
use Rattle.control.specs.declared.word_fault.Check.{Check}
use Rattle.control.specs.declared.word_fault.Check.TheVariants.{Forms, Ranges}
use Rattle.control.specs.declared.word_fault.Blamed.{Blamed}
use Rattle.control.specs.declared.expected.Expected.TheVariants.{First}
use Rattle.control.specs.FirstWrong.{IsFine, IsFirstWrong}
use Rattle.control.specs.Walk.{or_blame, walk}
use Rattle.control.proofs.Steps.{accepts, meets}
use Rattle.control.proofs.Samples.{sample, sample_ends}
use Rattle.control.proofs.Stops.{accepts_append, Stops, stops, fine}
use Rattle.control.proofs.Lines.{line_so, line_read}

in_range : (l : Line) (o : Option Entry) → line_within l ≡ o → is_some o ≡ true → (e : Entry) × (line_within l ≡ Some e)
in_range l None w e = absurd (false≢true e)
in_range l (Some x) w e = (x, w)

fine_at : LinesAreRead → (check : Check) (ws : Words) (o : Option Line) → shape_of ws ≡ o → meets o (line_so check) ≡ true → IsFine check ws
fine_at law check ws None s e = absurd (false≢true e)
fine_at law Forms ws (Some l) s e = (l, (law ws l).0 s)
fine_at law Ranges ws (Some l) s e = let x = in_range l (line_within l) refl e in (l, x.0, (law ws l).0 s, x.1)

fine_of : LinesAreRead → (check : Check) (ws : Words) → accepts check First ws ≡ true → IsFine check ws
fine_of law check ws e = fine_at law check ws (shape_of ws) refl (sym (line_read check ws) ∙ e)

accepts_of : LinesAreRead → (check : Check) (ws : Words) → IsFine check ws → accepts check First ws ≡ true
accepts_of law Forms ws f = line_read Forms ws ∙ ap (λ (o : Option Line). meets o (line_so Forms)) ((law ws f.0).1 f.1)
accepts_of law Ranges ws f = line_read Ranges ws ∙ ap (λ (o : Option Line). meets o (line_so Ranges)) ((law ws f.0).1 f.2) ∙ ap (λ (o : Option Entry). is_some o) f.3

is_false : LinesAreRead → (check : Check) (ws : Words) → accepts check First ws ≡ false → IsFine check ws → ⊥
is_false law check ws e f = false≢true (sym e ∙ accepts_of law check ws f)

first_wrong : LinesAreRead → (check : Check) (ws : Words) (b : Blamed) → Stops check First ws 0 b → IsFirstWrong check ws b.index
first_wrong law check ws b s =
    let at : s.k ≡ b.index = sym (s.index ∙ omega arith) in
    let one_more : s.k + 1 ≡ suc s.k = omega arith in
    let begun : accepts check First (take s.k ws ++ sample b.expected) ≡ true = accepts_append check (take s.k ws) (sample b.expected) First ∙ ap (λ o. or_blame o (λ e. accepts check e (sample b.expected)) false) s.ran ∙ sample_ends check b.expected in
    let wrong : s.k < length ws → (more : Words) → accepts check First (take (s.k + 1) ws ++ more) ≡ false = λ lt more. ap (λ (n : ℕ). accepts check First (take n ws ++ more)) one_more ∙ accepts_append check (take (suc s.k) ws) more First ∙ ap (λ o. or_blame o (λ e. accepts check e more) false) (s.wrong lt) in
    subst (λ (k : ℕ). IsFirstWrong check ws k) at (record {
      within = s.within;
      begun = (sample b.expected, fine_of law check (take s.k ws ++ sample b.expected) begun);
      wrong = λ lt more. is_false law check (take (s.k + 1) ws ++ more) (wrong lt more);
      no_line = is_false law check ws s.refused;
    })

blamed_at : LinesAreRead → (check : Check) (ws : Words) (o : Option Blamed) → walk check 0 First ws ≡ o → MatchOption o (IsFine check ws) (λ b. IsFirstWrong check ws b.index)
blamed_at law check ws None e = fine_of law check ws (fine check ws First 0 e)
blamed_at law check ws (Some b) e = first_wrong law check ws b (stops check ws First 0 b e)

pub blamed : LinesAreRead → (check : Check) (ws : Words) (o : Option Blamed) → o ≡ walk check 0 First ws → MatchOption o (IsFine check ws) (λ b. IsFirstWrong check ws b.index)
blamed law check ws o e = blamed_at law check ws o (sym e)
