use Rattle.control_words.proofs.FoundPlaces.{first_byte_is}
use Rattle.control_words.proofs.text.far_place_of.Goals as goal

pub returns : goal.returns
returns c = first_byte_is c.args.separator c.args.bytes.now c.memchr.result c.memchr.ensures
