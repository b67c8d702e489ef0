use Rattle.command_line.specs.Words.{dnlab}
use Rattle.command_line.proofs.WordFacts.{grows}
use Rattle.command_line.proofs.words.command.Goals as goal

pub returns : goal.returns
unfolding dnlab
returns c =
    grows _ _ _ _ _ c.in_ok-program.ensures c.in_ok-live.ensures
    (grows _ _ _ _ _ c.in_ok-subcommand-3.ensures c.in_ok-check.ensures
    (grows _ _ _ _ _ c.in_ok-subcommand-2.ensures c.in_ok-alone.ensures
    (grows _ _ _ _ _ c.in_ok-subcommand.ensures c.in_ok-run.ensures
    (c.program.ensures.app, c.program.ensures.local))))
