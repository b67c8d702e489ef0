-- Laws of texts, over the definitions alone (our choice).
use Rattle.std.specs.Prelude.{◌≡◌, ◌≢◌, ℕ, ◌+◌, ◌≤◌, List, ◌++◌, length, All}
use Rattle.control.specs.declared.scenario.Experiment.{Experiment}
use Rattle.control.specs.Scenario.{Spells}

-- the two have no name in common
abbrev pub HaveOtherNames : List Experiment → List Experiment → Type 0
HaveOtherNames s t = All (λ e. All (λ f. e.name ≢ f.name) t) s

-- a text spells at most one scenario
abbrev pub TextsSpellOne : Type 0
TextsSpellOne = (text : List ℕ) (s t : List Experiment) → Spells text s → Spells text t → s ≡ t

-- If two texts spell scenarios without a name in common, and together keep the limits of a text, their concatenation
-- spells both scenarios, in their order.
abbrev pub TextsJoin : Type 0
TextsJoin = (a b : List ℕ) (s t : List Experiment) → Spells a s → Spells b t → HaveOtherNames s t →
    length a + length b ≤ 16777216 → length s + length t ≤ 256 → Spells (a ++ b) (s ++ t)

-- If a text spells a scenario, and its first part spells one by itself, the rest spells by itself the experiments that follow.
abbrev pub TextsPart : Type 0
TextsPart = (a b : List ℕ) (s u : List Experiment) → Spells a s → Spells (a ++ b) u →
    (t : List Experiment) × Spells b t × (u ≡ s ++ t)
