use Rattle.std.proofs.Common.{arith, subst, List}
use Rattle.bench.specs.declared.closing.Closing.{Closing}
use Rattle.std.proofs.lemmas.List.{take_all}
use Rattle.bench.specs.Audits.{NowhereAt}
use Rattle.bench.proofs.Accounts.{nowhere_more}
use Rattle.bench.proofs.closing.greatest_name.Goals as goal

pub loop-c-preserved : goal.loop-c-preserved
loop-c-preserved c x big = nowhere_more x c.loop-c.c-index c.args.closings.now c.c-item.result c.loop-c-test.true c.c-item.is (c.loop-c.invariant x (omega (arith, c.greatest_in-most.ensures.most))) (c.greatest_in-most.ensures.none x big)

pub returns : goal.returns
returns c x big = let P : List Closing → Type 0 = λ l. NowhereAt x l in subst P (take_all c.loop-c.c-index c.args.closings.now c.loop-c-test.false) (c.loop-c.invariant x big)
