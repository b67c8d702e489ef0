use Rattle.std.proofs.Common.{◌+◌, ◌*◌, ◌<◌, sym, subst, arith}
use Rattle.std.specs.Prelude.{slice_index}
use Rattle.sources.specs.Numbers.{IsLowest}
use Rattle.sources.proofs.Bits.{within, read, none_in, some_there, word_there, is_there, is_least}
use Rattle.sources.proofs.numbers.NumberSet.first.Goals as goal

pub returns-then-self-eq0-clause-none : goal.returns-then-self-eq0-clause-none
returns-then-self-eq0-clause-none c = none_in c.args.self.now c.requires c.if-self-eq0.true

pub bounds-self-group : goal.bounds-self-group
bounds-self-group c =
    let s = c.args.self.now in
    let l = within s.some c.lowest_bit-group.result (some_there s c.requires c.lowest_bit-group.result c.lowest_bit-group.ensures) in
    omega (arith, l, c.requires.groups)

pub lowest_bit-requires-2 : goal.lowest_bit-requires-2
lowest_bit-requires-2 c =
    let s = c.args.self.now in
    let i = c.lowest_bit-group.result * 64 + c.lowest_bit.result in
    let there = word_there s c.requires c.lowest_bit-group.result c.lowest_bit.result c.lowest_bit.ensures in
    subst (λ n. 0 < n) (read s.words.items i c.index.result.now (within s.words.items i there) c.index.ensures) there

pub index-requires : goal.index-requires
index-requires c =
    let s = c.args.self.now in
    let i = c.lowest_bit-group.result * 64 + c.lowest_bit.result in
    let l = within s.words.items i (word_there s c.requires c.lowest_bit-group.result c.lowest_bit.result c.lowest_bit.ensures) in
    omega (arith, l, s.words.ok.0)

-- the word that was read
third : (c : goal.After-lowest_bit-2) →
    IsLowest (slice_index c.args.self.now.words.items (c.lowest_bit-group.result * 64 + c.lowest_bit.result)) c.lowest_bit-2.result
third c =
    let s = c.args.self.now in
    let i = c.lowest_bit-group.result * 64 + c.lowest_bit.result in
    let l = within s.words.items i (word_there s c.requires c.lowest_bit-group.result c.lowest_bit.result c.lowest_bit.ensures) in
    subst (λ n. IsLowest n c.lowest_bit-2.result) (sym (read s.words.items i c.index.result.now l c.index.ensures)) c.lowest_bit-2.ensures

pub returns-clause-there : goal.returns-clause-there
returns-clause-there c =
    is_there c.args.self.now c.requires c.lowest_bit-group.result c.lowest_bit.result c.lowest_bit-2.result (third c)

pub returns-clause-least : goal.returns-clause-least
returns-clause-least c =
    is_least c.args.self.now c.requires c.lowest_bit-group.result c.lowest_bit.result c.lowest_bit-2.result c.lowest_bit-group.ensures
    c.lowest_bit.ensures (third c)
