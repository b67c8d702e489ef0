use Rattle.std.proofs.Common.{◌≡◌, ◌∙◌, Some, None, sym, ap, codes, option_map}
use Rattle.std.specs.Option.{option_map_or}
use Rattle.clap.specs.Words.{first_of, found_of, rows_of}
use Rattle.clap.proofs.WalkLemmas.{first_value-rows}
use Rattle.alone.specs.declared.limits.Format.TheVariants as formats
use Rattle.command_line.specs.Words.{format_of}
use Rattle.command_line.proofs.words.format_in.Goals as goal

pub returns-in-Some : goal.returns-in-Some
returns-in-Some c =
    let given = found_of c.args.given.now in
    let read : Some c.in-Some.text.now ≡ first_of (codes "format") (rows_of given) =
    sym (ap (option_map (λ s. s.now)) c.in-Some.is) ∙ c.get_str.ensures ∙ first_value-rows given (codes "format") in
    c.format_of.ensures ∙ ap (λ o. option_map_or format_of o (Some formats.Text)) read

pub returns-in-None : goal.returns-in-None
returns-in-None c =
    let given = found_of c.args.given.now in
    let read : None ≡ first_of (codes "format") (rows_of given) =
    sym (ap (option_map (λ s. s.now)) c.in-None.is) ∙ c.get_str.ensures ∙ first_value-rows given (codes "format") in
    ap (λ o. option_map_or format_of o (Some formats.Text)) read
