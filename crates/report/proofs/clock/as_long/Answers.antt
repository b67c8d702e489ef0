use Rattle.report.proofs.Short.{alike_16, alike_17, alike_18, alike_19, alike_20, alike_21, alike_22, alike_23}
use Rattle.report.proofs.clock.as_long.Goals as goal

pub returns-then-moment-ge10000000-clause-alike : goal.returns-then-moment-ge10000000-clause-alike
returns-then-moment-ge10000000-clause-alike c = alike_16

pub returns-then-moment-ge1000000-clause-alike : goal.returns-then-moment-ge1000000-clause-alike
returns-then-moment-ge1000000-clause-alike c = alike_17

pub returns-then-moment-ge100000-clause-alike : goal.returns-then-moment-ge100000-clause-alike
returns-then-moment-ge100000-clause-alike c = alike_18

pub returns-then-moment-ge10000-clause-alike : goal.returns-then-moment-ge10000-clause-alike
returns-then-moment-ge10000-clause-alike c = alike_19

pub returns-then-moment-ge1000-clause-alike : goal.returns-then-moment-ge1000-clause-alike
returns-then-moment-ge1000-clause-alike c = alike_20

pub returns-then-moment-ge100-clause-alike : goal.returns-then-moment-ge100-clause-alike
returns-then-moment-ge100-clause-alike c = alike_21

pub returns-then-moment-ge10-clause-alike : goal.returns-then-moment-ge10-clause-alike
returns-then-moment-ge10-clause-alike c = alike_22

pub returns-clause-alike : goal.returns-clause-alike
returns-clause-alike c = alike_23
