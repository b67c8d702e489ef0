use Rattle.std.proofs.Common.{rules, codes}
use Rattle.clap.specs.Simple.{new_shape}
use Rattle.command_line.specs.Words.{IsCommand}
use Rattle.command_line.proofs.WordFacts.{adds}
use Rattle.command_line.proofs.words.live_command.Goals as goal

pub returns : goal.returns
returns c =
    let start : IsCommand (new_shape (codes "live")) c.about.result = search rules in
    adds _ _ _ _ _ c.in_ok-live.ensures c.max_steps.ensures
    (adds _ _ _ _ _ c.in_ok-arg.ensures c.flag-explain.ensures start)
