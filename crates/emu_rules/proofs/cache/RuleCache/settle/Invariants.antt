use Rattle.std.proofs.Common.{◌≡◌, vec_len}
use Rattle.std.specs.List.{AllWithin}
use Rattle.emu_model.specs.Rules.{the_rules}
use Rattle.emu_rules.specs.Walk.{IsRecounted}
use Rattle.emu_rules.specs.RuleCache.{AreTrueOf, IsIdle, settled}
use Rattle.emu_rules.proofs.cache.RuleCache.settle.Given as goal

abbrev pub invariant-loop-place : goal.invariant-loop-place
invariant-loop-place l = record {
  len : vec_len l.self.held ≡ vec_len l.fn.self.held;
  same : settled l.self l.rules ≡ settled l.fn.self l.fn.rules;
  recounted : IsRecounted l.fn.rules l.rules;
  cache : AreTrueOf (the_rules l.fn.rules) l.self;
  done : AllWithin IsIdle l.self.held.items 0 l.place;
}
