use Rattle.control_words.proofs.Parts.{five}
use Rattle.control_words.proofs.addresses.address.Goals as goal

pub returns-in-Some : goal.returns-in-Some
returns-in-Some c = five c.args.word.now _ _ _ _ c.in_ok-first.rest.now c.in_ok-second.rest.now c.in_ok-third.fourth.now c.in-Some._rest.now c.in_ok-first.ensures.value c.in_ok-second.ensures.value c.in_ok-third.ensures.value c.in-Some.ensures.value
