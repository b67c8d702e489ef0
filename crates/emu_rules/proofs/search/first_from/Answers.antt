use Rattle.std.proofs.Common.{rules, ltb}
use Rattle.std.proofs.lemmas.List.Sorted.{IsPartitionPoint-from_clause, IsPartitionedBy-ltb}
use Rattle.emu_model.specs.Rules.{Counted}
use Rattle.emu_rules.proofs.JumpOrder.{numbers_rise, place-from_point}
use Rattle.emu_rules.proofs.search.first_from.Goals as goal

pub returns-clause-first : goal.returns-clause-first
returns-clause-first c =
    let cs = c.args.rules.now in
    let n = c.args.number in
    place-from_point n cs c.partition_point.result c.partition_point.ensures.bound
    (IsPartitionPoint-from_clause (λ (c : Counted). ltb c.rule.number n) cs c.partition_point.result c.partition_point.ensures.partitioned
    (IsPartitionedBy-ltb (λ (c : Counted). c.rule.number) cs n (numbers_rise cs c.requires.ascends))
    (λ a r f k. search rules))
