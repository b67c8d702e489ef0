use Rattle.std.proofs.Common.{◌≡◌, ℕ, ◌<◌, Some, length, slice_index}
use Rattle.emu_model.specs.Rules.{the_rules, goes_on, action_at}
use Rattle.emu_rules.proofs.search.aim.Given as goal

abbrev pub invariant-loop-place : goal.invariant-loop-place
invariant-loop-place l = record {
  same : length l.jumps ≡ length l.rules;
  there :
      (k j : ℕ) → k < l.place → goes_on (the_rules l.rules) k (action_at (the_rules l.rules) k) ≡ Some j → slice_index l.jumps k ≡ j;
}
