use Rattle.std.proofs.Common.{ap₂, codes}
use Rattle.alone.specs.declared.limits.Limits.{Limits}
use Rattle.clap.specs.Words.{found_of}
use Rattle.command_line.proofs.WordFacts.{number_read}
use Rattle.command_line.proofs.words.limits_in.Goals as goal

pub returns : goal.returns
returns c = ap₂ (λ s o. let l : Limits = record { steps = s; output = o } in l)
    (number_read 64 (found_of c.args.given.now) (codes "max-steps") c.get_one.result c.get_one.ensures.none c.get_one.ensures.value)
    (number_read 64 (found_of c.args.given.now) (codes "max-output") c.get_one-2.result c.get_one-2.ensures.none c.get_one-2.ensures.value)
