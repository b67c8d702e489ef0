use Rattle.std.proofs.Common.{◌≡◌, ◌-◌, ◌/◌, ◌%◌, suc, [], ◌∷◌, arith, append_assoc}
use Rattle.std.specs.Prelude.{codes, slice_index}
use Rattle.report.specs.Words.{places}
use Rattle.report.proofs.DigitsMore.{places-suc}
use Rattle.report.proofs.pieces.+append_places.Goals as goal

pub returns : goal.returns
returns t c =
    let positive : c.args.count ≡ suc (c.args.count - 1) = omega arith in
    let step = places-suc c.args.base c.args.count (c.args.count - 1) c.args.number positive in
    let joined =
    append_assoc
    c.args.out.now.items
    (places c.args.base (c.args.count - 1) (c.args.number / c.args.base))
    (slice_index (codes "0123456789abcdef") (c.args.number % c.args.base) ∷ [])
    in
    record { items = cc; room = omega arith; capacity = omega arith }
