use Rattle.std.proofs.Common.{◌≡◌, drop}
use Rattle.std.specs.List.{list_any}
use Rattle.control.specs.Steps.{has_name}
use Rattle.control.proofs.reading.is_named.Given as goal

abbrev pub invariant-loop-e : goal.invariant-loop-e
invariant-loop-e l = list_any (has_name l.name) (drop l.e-index l.experiments) ≡ list_any (has_name l.name) l.experiments
