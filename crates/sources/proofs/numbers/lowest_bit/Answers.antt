use Rattle.std.specs.Int.{w64}
use Rattle.std.proofs.lemmas.Nat.Bits.{bit_at-trailing_zeros}
use Rattle.sources.proofs.numbers.lowest_bit.Goals as goal

pub returns : goal.returns
returns c =
    let h = bit_at-trailing_zeros w64 c.args.word c.requires c.ranges.word.fits in
    record { within = h.0; here = h.1; below = h.2 }
