use Rattle.timer_wheel.proofs.TieFacts.{rising_from_sort}
use Rattle.timer_wheel.proofs.ties.Ties.sort.Goals as goal

pub returns-clause-rising : goal.returns-clause-rising
returns-clause-rising c = rising_from_sort _ c.sort_unstable.ensures.sorted
