use Rattle.std.proofs.Common.{◌≡◌, ◌∙◌, ◌^◌, ap, codes, refl}
use Rattle.std.specs.Prelude.{unwrap_or}
use Rattle.clap.specs.Words.{found_of, rows_of}
use Rattle.command_line.specs.Words.{number_in}
use Rattle.command_line.proofs.WordFacts.{number_read}
use Rattle.command_line.proofs.words.run_in.Goals as goal

pub returns : goal.returns
returns c =
    let given = found_of c.args.given.now in
    let workers : c.unwrap_or.result ≡ unwrap_or (number_in (2 ^ 64) (codes "workers") (rows_of given)) 2 =
    c.unwrap_or.ensures ∙ ap (λ o. unwrap_or o 2) (number_read 64 given (codes "workers") c.get_one.result c.get_one.ensures.none c.get_one.ensures.value) in
    let moves : c.unwrap_or-2.result ≡ unwrap_or (number_in (2 ^ 32) (codes "moves") (rows_of given)) 64 =
    c.unwrap_or-2.ensures ∙ ap (λ o. unwrap_or o 64) (number_read 32 given (codes "moves") c.get_one-2.result c.get_one-2.ensures.none c.get_one-2.ensures.value) in
    rw (workers, moves, c.traced_in.ensures, c.limits_in.ensures, c.flag_in.ensures, c.flag_in-2.ensures, c.flag_in-3.ensures) refl
