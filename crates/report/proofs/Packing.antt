-- Parts that have room in one number are found in it again.
use Rattle.std.proofs.Common.{◌≡◌, ℕ, ◌+◌, ◌*◌, ◌/◌, ◌%◌, ◌^◌, ◌<◌, arith, ap, ◌∙◌, refl}
use Rattle.report.specs.Archive.{kind_at, rank, words_of, parts_in}
use Rattle.report.specs.declared.packed.Kind.{Kind}
use Rattle.report.specs.declared.packed.Kind.TheVariants.{Whole, Done, Arrived, Finished, Delivered, Segment, Acknowledged, Passed, Dropped, Window, Expired, Made, Entered}
use Rattle.report.specs.declared.packed.Parts.{Parts}

-- parts below one another
module _ (m t n p k : ℕ) (tag : t < 2 ^ 16) (packet : p < 2 ^ 26) (kind : k < 2 ^ 4) where
  tag_of : (m * 2 ^ 16 + t) % 2 ^ 16 ≡ t
  tag_of = omega arith

  moment_of : (m * 2 ^ 16 + t) / 2 ^ 16 ≡ m
  moment_of = omega arith

  kind_of : (n * 2 ^ 30 + (p * 2 ^ 4 + k)) % 2 ^ 4 ≡ k
  kind_of = omega arith

  packet_of : (n * 2 ^ 30 + (p * 2 ^ 4 + k)) / 2 ^ 4 % 2 ^ 26 ≡ p
  packet_of = omega arith

  number_of : (n * 2 ^ 30 + (p * 2 ^ 4 + k)) / 2 ^ 30 ≡ n
  number_of = omega arith

pub kind_ranked : (k : Kind) → kind_at (rank k) ≡ k
kind_ranked Whole = refl
kind_ranked Done = refl
kind_ranked Arrived = refl
kind_ranked Finished = refl
kind_ranked Delivered = refl
kind_ranked Segment = refl
kind_ranked Acknowledged = refl
kind_ranked Passed = refl
kind_ranked Dropped = refl
kind_ranked Window = refl
kind_ranked Expired = refl
kind_ranked Made = refl
kind_ranked Entered = refl

rank_few : (k : Kind) → rank k < 2 ^ 4
rank_few Whole = omega arith
rank_few Done = omega arith
rank_few Arrived = omega arith
rank_few Finished = omega arith
rank_few Delivered = omega arith
rank_few Segment = omega arith
rank_few Acknowledged = omega arith
rank_few Passed = omega arith
rank_few Dropped = omega arith
rank_few Window = omega arith
rank_few Expired = omega arith
rank_few Made = omega arith
rank_few Entered = omega arith

pub packed : (x : Parts) → x.tag < 2 ^ 16 → x.packet < 2 ^ 26 → parts_in (words_of x) ≡ x
packed x tag packet =
    let k = rank x.kind in
    let few = rank_few x.kind in
    λ i. record {
      kind = (ap kind_at (kind_of x.moment x.tag x.number x.packet k tag packet few) ∙ kind_ranked x.kind) i;
      moment = moment_of x.moment x.tag x.number x.packet k tag packet few i;
      tag = tag_of x.moment x.tag x.number x.packet k tag packet few i;
      packet = packet_of x.moment x.tag x.number x.packet k tag packet few i;
      number = number_of x.moment x.tag x.number x.packet k tag packet few i;
    }
