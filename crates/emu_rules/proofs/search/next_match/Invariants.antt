use Rattle.std.proofs.Common.{◌≡◌, ◌≤◌, ℕ, ◌<◌, false, get_or}
use Rattle.emu_model.specs.Rules.{the_rules, rule_matches, default_rule}
use Rattle.emu_rules.proofs.search.next_match.Given as goal

abbrev pub invariant-loop-place : goal.invariant-loop-place
invariant-loop-place l =
    (j : ℕ) → l.from ≤ j → j < l.place → rule_matches l.packet (get_or (the_rules l.rules) j default_rule.rule) ≡ false
