-- Lines behind the lines of a whole text: what they say there, they say by themselves.
use Rattle.std.proofs.Common.{◌≡◌, ℕ, Bool, true, false, List, [], ◌∷◌, ◌++◌, length, length-append, Option, Some, None, refl, sym, ap, subst, ◌∙◌, arith}
use Rattle.std.specs.List.{list_any}
use Rattle.std.specs.Str.{bytes_eq}
use Rattle.std.proofs.lemmas.List.Folds.{list_any-append}
use Rattle.emu_model.specs.declared.commands.Spec.{Spec}
use Rattle.emu_model.specs.declared.commands.Timed.{Timed}
use Rattle.control_words.specs.Text.{lines}
use Rattle.control_lines.specs.Entries.{Entry, Nothing, Begins, Does, Says}
use Rattle.control_lines.specs.LinesSayOne.{LinesSayOne}
use Rattle.control.specs.declared.fault.Cause.{Cause}
use Rattle.control.specs.declared.fault.Cause.TheVariants.{TooBig, Cut, TooLong, BadByte, BadWord, OutOfRange, NoEnd, TooMany, SameName, NoExperiment, AfterEnd, Backwards}
use Rattle.control.specs.declared.scenario.Experiment.{Experiment}
use Rattle.emu_model.specs.Commands.{has_end}
use Rattle.control.specs.Scenario.{names, commands, IsRunning, FaultsEntry, IsFine, experiments, AreSpelled, Spells}
use Rattle.control.proofs.Joining.{none_some, or-left, onto, glue, glue-some, some_line, lines-glue, names-behind, Begun, NotYet, Since, Behind, behind_none, behind-entry}

runs_before : (before d : List Entry) → Begun before d → IsRunning d → IsRunning (d ++ before)
runs_before before d (NotYet a b e) r = absurd (none_some r.0 (sym a ∙ r.1))
runs_before before d (Since cs a b some) r = (r.0, b ∙ sym a ∙ r.1, r.2)

-- a command in front of the second text's experiments has its cause behind the first text's lines too
unbegun : (before d : List Entry) (line : List ℕ) (c : Timed) → (IsRunning before → ⊥) → commands (d ++ before) ≡ commands before → IsFine (d ++ before) line → Says line (Does c) → ⊥
unbegun before d line c ended same fine says = by (commands before) refl
  where
    ends : (cs : List Timed) → commands before ≡ Some cs → (b : Bool) → has_end cs ≡ b → ⊥
    ends cs is true e = fine AfterEnd (Does c, says, (cs, same ∙ is, e))
    ends cs is false e = ended (cs, is, e)

    by : (o : Option (List Timed)) → commands before ≡ o → ⊥
    by None is = fine NoExperiment (Does c, says, same ∙ is)
    by (Some cs) is = ends cs is (has_end cs) refl

does_alone : (cause : Cause) (before d : List Entry) (line : List ℕ) (c : Timed) → Begun before d → (IsRunning before → ⊥) → IsFine (d ++ before) line → Says line (Does c) → FaultsEntry cause d (Does c) → ⊥
does_alone cause before d line c (NotYet a b e) ended fine says h = unbegun before d line c ended b fine says
does_alone NoExperiment before d line c (Since cs a b some) ended fine says h = none_some cs (sym h ∙ a)
does_alone AfterEnd before d line c (Since cs a b some) ended fine says h = fine AfterEnd (Does c, says, (h.0, b ∙ sym a ∙ h.1, h.2))
does_alone Backwards before d line c (Since cs a b some) ended fine says h = fine Backwards (Does c, says, (h.0, h.1, b ∙ sym a ∙ h.2, h.3))
does_alone _ before d line c (Since cs a b some) ended fine says h = h

begins_alone : (cause : Cause) (before d : List Entry) (line name : List ℕ) (spec : Spec) → Begun before d → IsFine (d ++ before) line → Says line (Begins name spec) → FaultsEntry cause d (Begins name spec) → ⊥
begins_alone NoEnd before d line name spec b fine says h = fine NoEnd (Begins name spec, says, runs_before before d b h)
begins_alone TooMany before d line name spec b fine says h = fine TooMany (Begins name spec, says, omega (arith, h, ap length (names-behind d before), length-append (names d) (names before)))
begins_alone SameName before d line name spec b fine says h =
    fine SameName (
      Begins name spec,
      says,
      ap (list_any (λ o. bytes_eq o name)) (names-behind d before) ∙ list_any-append (λ o. bytes_eq o name) (names d) (names before) ∙ or-left (list_any (λ o. bytes_eq o name) (names d)) (list_any (λ o. bytes_eq o name) (names before)) h,
    )
begins_alone _ before d line name spec b fine says h = h

entry_alone : (cause : Cause) (before d : List Entry) (line : List ℕ) (e : Entry) → Begun before d → (IsRunning before → ⊥) → IsFine (d ++ before) line → Says line e → FaultsEntry cause d e → ⊥
entry_alone cause before d line Nothing b ended fine says h = h
entry_alone cause before d line (Begins name spec) b ended fine says h = begins_alone cause before d line name spec b fine says h
entry_alone cause before d line (Does c) b ended fine says h = does_alone cause before d line c b ended fine says h

fine_alone : (before d : List Entry) (line : List ℕ) → Begun before d → (IsRunning before → ⊥) → IsFine (d ++ before) line → IsFine d line
fine_alone before d line b ended fine TooBig h = h
fine_alone before d line b ended fine Cut h = h
fine_alone before d line b ended fine TooLong h = fine TooLong h
fine_alone before d line b ended fine BadByte h = fine BadByte h
fine_alone before d line b ended fine BadWord h = fine BadWord h
fine_alone before d line b ended fine OutOfRange h = fine OutOfRange h
fine_alone before d line b ended fine NoEnd h = entry_alone NoEnd before d line h.0 b ended fine h.1 h.2
fine_alone before d line b ended fine TooMany h = entry_alone TooMany before d line h.0 b ended fine h.1 h.2
fine_alone before d line b ended fine SameName h = entry_alone SameName before d line h.0 b ended fine h.1 h.2
fine_alone before d line b ended fine NoExperiment h = entry_alone NoExperiment before d line h.0 b ended fine h.1 h.2
fine_alone before d line b ended fine AfterEnd h = entry_alone AfterEnd before d line h.0 b ended fine h.1 h.2
fine_alone before d line b ended fine Backwards h = entry_alone Backwards before d line h.0 b ended fine h.1 h.2

-- ---- the second text
spelled_alone : (before d : List Entry) (ls : List (List ℕ)) (u : List Experiment) → (IsRunning before → ⊥) → Behind before d → AreSpelled (d ++ before) ls u → (t : List Experiment) × AreSpelled d ls t × (u ≡ experiments before ++ t)
spelled_alone before d [] u ended b spelled = absurd spelled
spelled_alone before d (line ∷ []) u ended b spelled = (
  experiments d,
  (spelled.0, λ r. spelled.1 (runs_before before d b.begun r), refl),
  sym spelled.2 ∙ b.said,
)
spelled_alone before d (line ∷ more ∷ rest) u ended b spelled =
    let fine = fine_alone before d line b.begun ended spelled.1 in
    let then = spelled_alone before (spelled.0 ∷ d) (more ∷ rest) u ended (behind-entry before d line spelled.0 b fine spelled.2) spelled.3 in
    (then.0, (spelled.0, fine, spelled.2, then.1), then.2)

-- ---- behind the first
first_spelled : LinesSayOne → (d : List Entry) (ls : List (List ℕ)) (m : List ℕ) (ms : List (List ℕ)) (s u : List Experiment) → AreSpelled d ls s → AreSpelled d (glue ls (m ∷ ms)) u → (before : List Entry) × (IsRunning before → ⊥) × (experiments before ≡ s) × AreSpelled before (m ∷ ms) u
first_spelled one d [] m ms s u first whole = absurd first
first_spelled one d (line ∷ []) m ms s u first whole = (d, first.1, first.2, subst (λ (l : List ℕ). AreSpelled d (onto l (m ∷ ms)) u) first.0 whole)
first_spelled one d (line ∷ more ∷ rest) m ms s u first whole =
    let g = glue-some more rest (m ∷ ms) in
    let parts = subst (λ (ls : List (List ℕ)). AreSpelled d (line ∷ ls) u) g.2 whole in
    let then : AreSpelled (first.0 ∷ d) (g.0 ∷ g.1) u = subst (λ (e : Entry). AreSpelled (e ∷ d) (g.0 ∷ g.1) u) (one line parts.0 first.0 parts.2 first.2) parts.3 in
    first_spelled one (first.0 ∷ d) (more ∷ rest) m ms s u first.3 (subst (λ (ls : List (List ℕ)). AreSpelled (first.0 ∷ d) ls u) (sym g.2) then)

pub parted : LinesSayOne → (a b : List ℕ) (s u : List Experiment) → Spells a s → Spells (a ++ b) u → (t : List Experiment) × Spells b t × (u ≡ s ++ t)
parted one a b s u first whole =
    let l = some_line b in
    let glued : AreSpelled [] (glue (lines a) (l.0 ∷ l.1)) u = subst (λ (ls : List (List ℕ)). AreSpelled [] ls u) (lines-glue a b ∙ ap (glue (lines a)) l.2) whole.1 in
    let f = first_spelled one [] (lines a) l.0 l.1 s u first.1 glued in
    let r = spelled_alone f.0 [] (l.0 ∷ l.1) u f.1 (behind_none f.0) f.3 in (
      r.0,
      (omega (arith, whole.0, length-append a b), subst (λ (ls : List (List ℕ)). AreSpelled [] ls r.0) (sym l.2) r.1),
      r.2 ∙ ap (λ (x : List Experiment). x ++ r.0) f.2,
    )
