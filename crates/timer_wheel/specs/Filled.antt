-- The slots that are marked.
use Rattle.std.specs.Prelude.{◌≡◌, ◌≢◌, ℕ, ◌<◌, List, Some, slice_get}
use Rattle.timer_wheel.specs.declared.marks.Marks.{Marks}
use Rattle.timer_wheel.specs.Marks.{mark_at}

-- exactly the slots that have a key are marked
pub record IsMarked (lists : List ℕ) (marks : Marks) : Type 0 where
  pub there : (place : ℕ) → place < 2048 → mark_at marks place ≡ 1 → (k : ℕ) × (slice_get lists k ≡ Some place)
  pub none : (place : ℕ) → place < 2048 → mark_at marks place ≡ 0 → (k : ℕ) → slice_get lists k ≢ Some place
