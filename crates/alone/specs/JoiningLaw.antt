-- Laws of reports, over the definitions alone (our choice).
use Rattle.std.specs.Prelude.{◌≡◌, ℕ, List, flat_map}
use Rattle.std.specs.List.{AllZip}
use Rattle.control.specs.declared.scenario.Experiment.{Experiment}
use Rattle.control.specs.Scenario.{Spells}
use Rattle.alone.specs.Reports.{reports}

-- If each of several texts spells a scenario by itself, and their concatenation spells one too, then that scenario is the
-- concatenation of theirs, and its report is the concatenation of their reports.
abbrev pub ReportsJoin : Type 0
ReportsJoin = (texts : List (List ℕ)) (scenarios : List (List Experiment)) (all : List Experiment) →
    AllZip Spells texts scenarios → Spells (flat_map (λ text. text) texts) all →
    (all ≡ flat_map (λ s. s) scenarios) × (reports all ≡ flat_map reports scenarios)
