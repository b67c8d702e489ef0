use Rattle.std.proofs.Common.{◌<◌, ◌^◌, rules, get_or}
use Rattle.timer_wheel.proofs.MarkFacts.{first_marked, first_least, none_marked}
use Rattle.timer_wheel.proofs.marks.Marks.first.Goals as goal

pub returns-then-word-ne0-clause-marked : goal.returns-then-word-ne0-clause-marked
returns-then-word-ne0-clause-marked c =
    let small : get_or c.args.self.now.words c.loop-index.index 0 < 2 ^ 64 = search rules in
    first_marked c.args.self.now.words c.loop-index.index c.if-word-ne0.true small

pub returns-then-word-ne0-clause-first : goal.returns-then-word-ne0-clause-first
returns-then-word-ne0-clause-first c =
    let small : get_or c.args.self.now.words c.loop-index.index 0 < 2 ^ 64 = search rules in
    first_least c.args.self.now.words c.loop-index.index c.if-word-ne0.true small c.loop-index.invariant

pub loop-index-preserved : goal.loop-index-preserved
loop-index-preserved c = none_marked c.args.self.now.words c.loop-index.index c.if-word-ne0.false c.loop-index.invariant
