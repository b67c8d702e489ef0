-- Commands whose times (ns) do not decrease.
use Rattle.std.specs.Prelude.{ℕ, ◌^◌, ◌≤◌, List, [], ◌∷◌}
use Rattle.emu_model.specs.declared.commands.Timed.{Timed}

-- the times do not decrease from this one on, and none is after the maximum time of a command
abbrev pub AreInOrder : ℕ → List Timed → Type 0
AreInOrder moment [] = Unit {0}
AreInOrder moment (c ∷ cs) = (moment ≤ c.moment) × (c.moment ≤ 10 ^ 15) × AreInOrder c.moment cs
