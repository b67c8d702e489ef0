use Rattle.std.proofs.Common.{rules}
use Rattle.std.proofs.lemmas.List.Sorted.{IsPartitionPoint-from_clause}
use Rattle.emu_rules.proofs.JumpOrder.{is_not_behind, partitioned_behind, start_behind-from_point}
use Rattle.emu_rules.proofs.search.first_behind.Goals as goal

pub returns : goal.returns
returns c =
    let cs = c.args.rules.now in
    let p = c.args.place in
    start_behind-from_point p cs c.partition_point.result c.partition_point.ensures.bound
    (IsPartitionPoint-from_clause (is_not_behind p) cs c.partition_point.result c.partition_point.ensures.partitioned
    (partitioned_behind p cs c.requires.ascends)
    (λ a r f k. search rules))
