use Rattle.std.proofs.Common.{ℕ, List, sym, ap, ◌∙◌, subst}
use Rattle.alone.specs.FaultLines.{IsSaid}
use Rattle.command_line.specs.Status.{line_of}
use Rattle.command_line.proofs.TalkFacts.{said_none}
use Rattle.command_line.proofs.say_fault.Goals as goal

pub returns-in-None : goal.returns-in-None
returns-in-None g c =
    let contents = g.E.Outlet.contents c.args.console.now in
    let failed = g.E.Outlet.failed c.args.console.now in
    subst (λ (l : List ℕ). IsSaid l contents contents failed) (ap line_of (sym c.in-None.is ∙ c.said_fault.ensures)) (said_none contents failed)
