use Rattle.std.proofs.Common.{◌≡◌, ◌≤◌, List, vec_len, vec_capacity}
use Rattle.emu_model.specs.declared.rules.Rule.{Rule}
use Rattle.emu_model.specs.Rules.{Counted}
use Rattle.emu_rules.specs.RuleCache.{AreTrueOf, settled}
use Rattle.emu_rules.proofs.cache.RuleCache.make_places.Given as goal

abbrev pub invariant-loop : goal.invariant-loop
invariant-loop l = record {
  kept : (rules : List Rule) → AreTrueOf rules l.fn.self → AreTrueOf rules l.self;
  same : (cs : List Counted) → settled l.self cs ≡ settled l.fn.self cs;
  len : vec_len l.self.held ≡ l.counter;
  room : 1024 ≤ vec_capacity l.self.held;
}
