use Rattle.timer_wheel.proofs.IndexFacts.{no_key}
use Rattle.timer_wheel.proofs.index.Index.clear.Goals as goal

pub returns-clause-keys : goal.returns-clause-keys
returns-clause-keys c o s = let h = c.clear.ensures.empty in rw h (no_key o s)
