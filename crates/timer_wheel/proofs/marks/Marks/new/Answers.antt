use Rattle.std.proofs.Common.{rules}
use Rattle.timer_wheel.proofs.MarkFacts.{unmarked_at_first}
use Rattle.timer_wheel.proofs.marks.Marks.new.Goals as goal

pub returns : goal.returns
returns c q = unmarked_at_first _ (search rules) q
