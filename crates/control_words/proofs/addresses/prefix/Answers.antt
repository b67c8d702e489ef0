use Rattle.std.proofs.Common.{sym, ◌∙◌}
use Rattle.control_words.proofs.Parts.{three_bits}
use Rattle.control_words.proofs.addresses.prefix.Goals as goal

pub returns-in-Some-split_once : goal.returns-in-Some-split_once
returns-in-Some-split_once c = three_bits c.args.word.now _ _ c.in-Some.bits.now c.in-Some-split_once._rest.now (sym c.is.ensures ∙ c.if-is.false) c.in-Some.ensures.value c.in-Some-split_once.ensures.value
