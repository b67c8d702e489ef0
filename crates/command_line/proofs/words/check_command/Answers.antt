use Rattle.std.proofs.Common.{rules, codes}
use Rattle.clap.specs.Simple.{new_shape}
use Rattle.command_line.specs.Words.{IsCommand}
use Rattle.command_line.proofs.WordFacts.{adds}
use Rattle.command_line.proofs.words.check_command.Goals as goal

pub returns : goal.returns
returns c =
    let start : IsCommand (new_shape (codes "check")) c.about.result = search rules in
    adds _ _ _ _ _ c.in_ok-check.ensures c.strict.ensures
    (adds _ _ _ _ _ c.in_ok-arg.ensures c.explain.ensures start)
