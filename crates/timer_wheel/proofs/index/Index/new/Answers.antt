use Rattle.timer_wheel.proofs.IndexFacts.{no_key}
use Rattle.timer_wheel.proofs.index.Index.new.Goals as goal

pub returns : goal.returns
returns c o s = rw c.new.ensures.empty (no_key o s)
