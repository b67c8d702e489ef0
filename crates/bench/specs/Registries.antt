-- Why no tenant was opened.
use Rattle.std.specs.Prelude.{ℕ, ◌≤◌, ◌<◌, ◌^◌}
use Rattle.bench.specs.declared.registry.OpenError.{OpenError}
use Rattle.bench.specs.declared.registry.OpenError.TheVariants.{NamesOut, NoMemory}

-- the reason for the failure, if `next` is the next name
abbrev pub OpenFails : OpenError → ℕ → Type 0
OpenFails NamesOut next = 10 ^ 6 ≤ next
OpenFails NoMemory next = next < 10 ^ 6
