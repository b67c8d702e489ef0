-- The first of all dues (our choice: by time, class and number).
use Rattle.std.specs.Prelude.{◌≡◌, ℕ, false, Some, List, ◌∷◌, slice_get}
use Rattle.emu_model.specs.declared.sources.Class.TheVariants.{NextCommand}
use Rattle.emu_model.specs.declared.sources.Due.{Due}
use Rattle.emu_model.specs.Dues.{due, is_before, least_due}

-- the due of a command and all other dues
abbrev pub all_dues : ℕ → List Due → List Due
all_dues moment dues = due NextCommand 0 moment ∷ dues

abbrev pub LeastDueIsLeast : Type 0
LeastDueIsLeast = (moment : ℕ) (dues : List Due) →
    let all = all_dues moment dues in
    ((k : ℕ) (d : Due) → slice_get all k ≡ Some d → is_before d (least_due moment dues) ≡ false)
    × ((k : ℕ) × (slice_get all k ≡ Some (least_due moment dues)))
