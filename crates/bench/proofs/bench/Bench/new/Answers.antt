use Rattle.std.proofs.Common.{◌≡◌, ap, arith}
use Rattle.bench.specs.Custody.{times, seated}
use Rattle.bench.proofs.Seatings.{vacant_seated}
use Rattle.bench.proofs.bench.Bench.new.Goals as goal

pub invariant_of-result-clause-kept : goal.invariant_of-result-clause-kept
invariant_of-result-clause-kept c x =
    rw (c.new-3.ensures.items, c.new-4.ensures.items, c.new-5.ensures.items, c.new-6.ensures.items, c.new-7.ensures.items, c.in_ok-deque.ensures) (omega arith)

pub invariant_of-result-clause-sits : goal.invariant_of-result-clause-sits
invariant_of-result-clause-sits c x =
    let none : seated x c.in_ok-shard.shard.seats ≡ 0 = vacant_seated x c.in_ok-shard.shard.seats c.in_ok-shard.ensures.vacant in
    let empty : times x c.new-7.result.items ≡ 0 = ap (times x) c.new-7.ensures.items in
    omega arith
