use Rattle.control.proofs.Joining.{spells_one}
use Rattle.control.proofs.text_laws.texts_spell_one.Goals as goal

pub returns : goal.returns
returns c = spells_one c.lines_say_one.ensures
