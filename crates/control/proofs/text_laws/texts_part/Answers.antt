use Rattle.control.proofs.Parting.{parted}
use Rattle.control.proofs.text_laws.texts_part.Goals as goal

pub returns : goal.returns
returns c = parted c.lines_say_one.ensures
