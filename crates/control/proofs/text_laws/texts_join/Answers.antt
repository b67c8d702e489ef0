use Rattle.control.proofs.Joining.{joined}
use Rattle.control.proofs.text_laws.texts_join.Goals as goal

pub returns : goal.returns
returns c = joined c.lines_say_one.ensures
