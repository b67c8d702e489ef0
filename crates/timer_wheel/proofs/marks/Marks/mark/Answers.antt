use Rattle.std.proofs.Common.{◌/◌, ◌<◌, length, rules}
use Rattle.timer_wheel.proofs.MarkFacts.{marked}
use Rattle.timer_wheel.proofs.marks.Marks.mark.Goals as goal

pub returns : goal.returns
returns c q = let within : c.args.place / 64 < length c.args.self.now.words = search rules in marked c.args.self.now.words c.args.place q within
