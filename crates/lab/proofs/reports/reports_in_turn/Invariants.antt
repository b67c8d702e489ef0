use Rattle.std.proofs.Common.{◌≡◌, ◌≤◌, length, map, take, drop, vec_capacity}
use Rattle.std.specs.Vec.Iter.{into_iter_items, into_iter_len}
use Rattle.alone.specs.Reports.{trace_alone, made_alone}
use Rattle.lab.proofs.reports.reports_in_turn.Given as goal

abbrev pub invariant-loop-outcome : goal.invariant-loop-outcome
invariant-loop-outcome l =
    (into_iter_items l.outcome-iterator ≡ map trace_alone (drop (length l.reports.items) l.scripts))
    × (l.reports.items ≡ map made_alone (take (length l.reports.items) l.scripts))
    × (into_iter_len l.outcome-iterator ≡ length (into_iter_items l.outcome-iterator))
    × (length l.scripts ≤ vec_capacity l.reports)
