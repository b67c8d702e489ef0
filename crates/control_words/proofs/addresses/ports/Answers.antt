use Rattle.control_words.proofs.Parts.{three_ports}
use Rattle.control_words.proofs.addresses.ports.Goals as goal

pub returns-in-Some-split_once : goal.returns-in-Some-split_once
returns-in-Some-split_once c = three_ports c.args.word.now _ _ c.in-Some.last.now c.in-Some-split_once._rest.now c.in-Some.ensures.value c.in-Some-split_once.ensures.value
