-- A scenario has fewer commands than bytes.
use Rattle.std.proofs.Common.{◌≡◌, ℕ, ◌+◌, ◌≤◌, List, [], ◌∷◌, ◌++◌, length, length-append, map, Ok, Err, IfOk, refl, ap, arith}
use Rattle.std.specs.Prelude.{sum, ◌==◌}
use Rattle.std.proofs.lemmas.List.Splits.{length-slice_split}
use Rattle.std.proofs.lemmas.List.Sums.{count_by-le-length, sum_by-cons}
use Rattle.emu_model.specs.declared.commands.Spec.{Spec}
use Rattle.emu_model.specs.declared.commands.Timed.{Timed}
use Rattle.control_words.specs.Text.{lines}
use Rattle.control_lines.specs.Entries.{Entry, Nothing, Begins, Does}
use Rattle.control.specs.declared.scenario.Experiment.{Experiment}
use Rattle.control.specs.Answer.{Answer}
use Rattle.control.specs.Scenario.{begun, with_last, experiments, AreSpelled, Spells}

abbrev count : List Experiment → ℕ
count es = sum (map (λ e. length e.commands) es)

count-cons : (e : Experiment) (es : List Experiment) → count (e ∷ es) ≡ length e.commands + count es
count-cons e es = sum_by-cons (λ x. x) (length e.commands) (map (λ x. length x.commands) es)

count-begun : (es : List Experiment) (name : List ℕ) (spec : Spec) → count (es ++ begun name spec ∷ []) ≡ count es
count-begun [] name spec = refl
count-begun (e ∷ es) name spec = omega (arith, count-cons e (es ++ begun name spec ∷ []), count-cons e es, count-begun es name spec)

count-last : (es : List Experiment) (c : Timed) → count (with_last es c) ≤ count es + 1
count-last [] c = omega arith
count-last (e ∷ []) c = omega (arith, length-append e.commands (c ∷ []))
count-last (e ∷ f ∷ more) c = omega (arith, count-last (f ∷ more) c, count-cons e (f ∷ more), count-cons e (with_last (f ∷ more) c))

count-entry : (before : List Entry) (e : Entry) → count (experiments (e ∷ before)) ≤ count (experiments before) + 1
count-entry before Nothing = omega arith
count-entry before (Begins name spec) = omega (arith, count-begun (experiments before) name spec)
count-entry before (Does c) = count-last (experiments before) c

spelled-count : (before : List Entry) (ls : List (List ℕ)) (s : List Experiment) → AreSpelled before ls s → count s + 1 ≤ count (experiments before) + length ls
spelled-count before [] s spelled = absurd spelled
spelled-count before (line ∷ []) s spelled = omega (arith, ap count spelled.2)
spelled-count before (line ∷ more ∷ rest) s spelled =
    omega (arith, spelled-count (spelled.0 ∷ before) (more ∷ rest) s spelled.3, count-entry before spelled.0)

few : (bytes : List ℕ) (s : List Experiment) → Spells bytes s → count s ≤ length bytes
few bytes s spells = omega (arith, spelled-count [] (lines bytes) s spells.1, length-slice_split (λ b. b == 10) bytes, count_by-le-length (λ b. b == 10) bytes)

-- what was read has few commands
pub read_few : (bytes : List ℕ) (r : Answer) → IfOk r (λ s. Spells bytes s) → IfOk r (λ s. sum (map (λ e. length e.commands) s) ≤ length bytes)
read_few bytes (Ok s) spells = few bytes s spells
read_few bytes (Err e) spells = tt
