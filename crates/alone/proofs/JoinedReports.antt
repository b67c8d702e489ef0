-- The report of texts that stand one after the other.
use Rattle.std.proofs.Common.{◌≡◌, ℕ, List, [], ◌∷◌, ◌++◌, refl, sym, ap, ◌∙◌}
use Rattle.std.specs.Prelude.{flat_map}
use Rattle.std.specs.List.{AllZip}
use Rattle.std.proofs.lemmas.List.Concat.{flat_map-append}
use Rattle.control.specs.declared.scenario.Experiment.{Experiment}
use Rattle.control.specs.Scenario.{Spells}
use Rattle.control.specs.TextLaws.{TextsPart}
use Rattle.alone.specs.Reports.{report_alone, reports}

-- all of them are theirs
joined : TextsPart → (texts : List (List ℕ)) (scenarios : List (List Experiment)) (all : List Experiment) → AllZip Spells texts scenarios → Spells (flat_map (λ text. text) texts) all → all ≡ flat_map (λ s. s) scenarios
joined part [] [] all each whole = sym whole.1.2
joined part [] (s ∷ scenarios) all each whole = absurd each
joined part (a ∷ texts) [] all each whole = absurd each
joined part (a ∷ texts) (s ∷ scenarios) all each whole =
    let rest = part a (flat_map (λ text. text) texts) s all each.0 whole in
    rest.2 ∙ ap (λ (x : List Experiment). s ++ x) (joined part texts scenarios rest.0 each.1 rest.1)

-- the reports of lists of experiments, joined
reports-joined : (scenarios : List (List Experiment)) → reports (flat_map (λ s. s) scenarios) ≡ flat_map reports scenarios
reports-joined [] = refl
reports-joined (s ∷ scenarios) =
    flat_map-append report_alone s (flat_map (λ x. x) scenarios) ∙ ap (λ (x : List ℕ). reports s ++ x) (reports-joined scenarios)

pub reports_join_by : TextsPart → (texts : List (List ℕ)) (scenarios : List (List Experiment)) (all : List Experiment) → AllZip Spells texts scenarios → Spells (flat_map (λ text. text) texts) all → (all ≡ flat_map (λ s. s) scenarios) × (reports all ≡ flat_map reports scenarios)
reports_join_by part texts scenarios all each whole =
    let is = joined part texts scenarios all each whole in
    (is, ap reports is ∙ reports-joined scenarios)
