use Rattle.control_words.specs.Text.{lines}
use Rattle.explain.proofs.finding.before.Goals as goal

pub returns : goal.returns
returns c = c.earlier_line.ensures.before (lines c.args.text.now) c.args.fault.now.line c.past_of-past.ensures
