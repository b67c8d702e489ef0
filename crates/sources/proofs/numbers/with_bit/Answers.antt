use Rattle.sources.proofs.Bits.{bit_set, bit_cleared}
use Rattle.sources.proofs.numbers.with_bit.Goals as goal

pub returns-then-set : goal.returns-then-set
returns-then-set c = λ i l. bit_set c.args.word c.args.place i c.args.set c.requires l c.if-set.true

pub returns : goal.returns
returns c = λ i l. bit_cleared c.args.word c.args.place i c.args.set c.requires l c.if-set.false
