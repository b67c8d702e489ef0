-- Wrong words: nothing is written, and nothing is said of a fault.
use Rattle.std.proofs.Common.{inr, refl}
use Rattle.command_line.proofs.TalkFacts.{said_none}
use Rattle.dnlab.proofs.answer.Goals as goal

pub returns-in-Err : goal.returns-in-Err
returns-in-Err g c =
    inr (c.in-Err.ensures.ends, refl, said_none (g.E.Outlet.contents c.args.console.now) (g.E.Outlet.failed c.args.console.now))
