use Rattle.std.proofs.Common.{◌≡◌, ◌≤◌, ◌-◌, length, drop}
use Rattle.explain.specs.Walk.{behind_of}
use Rattle.explain.proofs.rules.apply_until.Given as goal

-- what is left to be taken, from the rules so far, ends as all that was left
abbrev pub invariant-loop-next : goal.invariant-loop-next
invariant-loop-next l = record {
  within : l.next ≤ length l.commands;
  same : behind_of l.moment l.rules (drop l.next l.commands) ≡ behind_of l.moment l.initial.rules (drop l.taken l.commands);
}

abbrev pub decreases-loop-next : goal.decreases-loop-next
decreases-loop-next l = length l.commands - l.next
