use Rattle.std.proofs.Common.{◌==◌, ◌/◌, ◌%◌, ap}
use Rattle.std.specs.Int.{bit_at}
use Rattle.sources.proofs.Bits.{over_same}
use Rattle.sources.proofs.numbers.NumberSet.make_room.Goals as goal

pub returns-clause-same : goal.returns-clause-same
returns-clause-same c = λ k. ap (λ n. bit_at n (k % 64) == 1) (c.grow.ensures.same (k / 64))

pub returns-clause-whole : goal.returns-clause-whole
returns-clause-whole c = λ h. record {
  groups = h.groups;
  some = over_same c.args.self.now.words.items c.grow.new.words.items c.args.self.now.some c.grow.ensures.same h.some;
  any = h.any;
}
