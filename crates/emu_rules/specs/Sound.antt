-- The invariant of a rule list: its rules, their jumps, the number of additions, and the cached searches.
use Rattle.std.specs.Prelude.{ℕ, ◌≤◌, List, All}
use Rattle.emu_model.specs.Rules.{Counted, the_rules}
use Rattle.emu_rules.specs.declared.cache.RuleCache.{RuleCache}
use Rattle.emu_rules.specs.Walk.{IsOrdered, AreJumps}
use Rattle.emu_rules.specs.RuleCache.{AreTrueOf}

pub record IsSound (rules : List Counted) (jumps : List ℕ) (added : ℕ) (cache : RuleCache) : Type 0 where
  pub ordered : IsOrdered rules
  pub older : All (λ c. c.order ≤ added) rules
  pub jumps_are : AreJumps (the_rules rules) jumps
  pub paths_are : AreTrueOf (the_rules rules) cache
