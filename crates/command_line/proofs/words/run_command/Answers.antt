use Rattle.std.proofs.Common.{rules, codes}
use Rattle.clap.specs.Simple.{new_shape}
use Rattle.command_line.specs.Words.{IsCommand}
use Rattle.command_line.proofs.WordFacts.{adds}
use Rattle.command_line.proofs.words.run_command.Goals as goal

pub returns : goal.returns
returns c =
    let start : IsCommand (new_shape (codes "run")) c.about.result = search (rules, c.new.ensures.app, c.new.ensures.local, c.about.ensures) in
    adds _ _ _ _ _ c.in_ok-run.ensures c.max_output.ensures
    (adds _ _ _ _ _ c.in_ok-arg-8.ensures c.max_steps.ensures
    (adds _ _ _ _ _ c.in_ok-arg-7.ensures c.trace.ensures
    (adds _ _ _ _ _ c.in_ok-arg-6.ensures c.strict.ensures
    (adds _ _ _ _ _ c.in_ok-arg-5.ensures c.explain.ensures
    (adds _ _ _ _ _ c.in_ok-arg-4.ensures c.progress.ensures
    (adds _ _ _ _ _ c.in_ok-arg-3.ensures c.format.ensures
    (adds _ _ _ _ _ c.in_ok-arg-2.ensures c.moves.ensures
    (adds _ _ _ _ _ c.in_ok-arg.ensures c.workers.ensures start))))))))
