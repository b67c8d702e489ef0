use Rattle.std.proofs.Common.{◌≡◌, ◌-◌, length}
use Rattle.emu_model.specs.Rules.{the_rules, verdict}
use Rattle.emu_rules.specs.Walk.{counted_more}
use Rattle.emu_rules.proofs.Walking.{Answers}
use Rattle.emu_rules.proofs.Counting.{Leaves}
use Rattle.emu_rules.proofs.search.walk_and_count.Given as goal

abbrev pub invariant-loop-place : goal.invariant-loop-place
invariant-loop-place l = record {
  same : the_rules l.rules ≡ the_rules l.initial.rules;
  answers : Answers l.packet l.rules l.from (verdict l.start l.packet l.initial.rules);
  leaves : Leaves l.packet l.amount l.rules l.from (counted_more l.start l.packet l.amount l.initial.rules);
}

abbrev pub decreases-loop-place : goal.decreases-loop-place
decreases-loop-place l = length l.rules - l.from
