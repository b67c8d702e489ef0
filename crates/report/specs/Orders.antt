-- The order of archived words: runs of what is stored. A listing that equals an earlier one is a run of that one's words (our
-- choice).
use Rattle.std.specs.Prelude.{ℕ, ◌-◌, ◌≤◌, List, ◌++◌, take, drop}
use Rattle.std.specs.List.{flat_map}
use Rattle.report.specs.declared.archive.Run.{Run}
use Rattle.report.specs.declared.packed.Packed.{Packed}

-- the words of a run
abbrev pub run_of : List Packed → Run → List Packed
run_of stored r = take (r.end - r.from) (drop r.from stored)

-- those of all runs, and then what is stored from a place on
abbrev pub in_order : List Run → ℕ → List Packed → List Packed
in_order runs tail stored = flat_map (run_of stored) runs ++ drop tail stored

-- a run is of what is stored below a place
abbrev pub IsRun : ℕ → Run → Type 0
IsRun below r = (r.from ≤ r.end) × (r.end ≤ below)
