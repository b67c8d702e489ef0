use Rattle.std.proofs.Common.{◌≡◌, ◌<◌, ◌/◌, ◌%◌, length, refl, sym, ◌∙◌, ap, arith}
use Rattle.std.specs.Prelude.{slice_index}
use Rattle.sources.proofs.Bits.{IsWith, read, with_by, in-set_at, whole-set, positive}
use Rattle.sources.proofs.numbers.NumberSet.set.Goals as goal

-- the lowest word with its bit
lowest : (c : goal.After-self-2-1) →
    IsWith (slice_index c.args.self.now.words.items (c.args.number / 64)) (c.args.number % 64) c.args.there c.with_bit-bits.result
lowest c =
    let xs = c.args.self.now.words.items in
    let within : c.from-word.result < length xs = omega (arith, c.requires, c.from-word.ensures) in
    let word : c.index.result.now ≡ slice_index xs (c.args.number / 64) =
    sym (read xs c.from-word.result c.index.result.now within c.index.ensures)
    ∙ ap (slice_index xs) c.from-word.ensures in
    with_by _ c.index.result.now _ c.from.result c.with_bit-bits.result c.args.there word c.from.ensures c.with_bit-bits.ensures

pub returns-clause-sets : goal.returns-clause-sets
returns-clause-sets c = λ j.
    in-set_at c.args.self.now.words.items c.args.number j c.from-word.result c.with_bit-bits.result c.args.there c.from-word.ensures
    c.requires (lowest c)

pub returns-clause-whole : goal.returns-clause-whole
returns-clause-whole c = λ h.
    let w = c.from-word.result in
    let xs = c.args.self.now.words.items in
    whole-set c.args.self.now _ w c.with_bit-bits.result c.with_bit-some.result c.with_bit-self.result _ _
    (omega (arith, c.requires, c.from-word.ensures)) (omega (arith, c.ranges.number.fits, c.from-word.ensures))
    refl refl refl (positive c.with_bit-bits.result) (positive c.with_bit-some.result)
    (with_by _ _ _ _ c.with_bit-some.result _ refl refl c.with_bit-some.ensures)
    (with_by _ _ _ _ c.with_bit-self.result _ refl refl c.with_bit-self.ensures) h
