use Rattle.std.proofs.Common.{Global, ◌≡◌, ◌∙◌, ap, sym, subst, map, []}
use Rattle.std.specs.Prelude.{option_and_then}
use Rattle.std.specs.String.{string_bytes}
use Rattle.clap.specs.Words.{App, HasKind, Kinds, app_of, fault_of, is_simple, subcommand_of}
use Rattle.clap.specs.Faults.{is_simple_and_free}
use Rattle.clap.proofs.CallerLemmas.{subcommand_required}
use Rattle.command_line.specs.Words.{dnlab, task_in}
use Rattle.command_line.proofs.WordFacts.{is_free_dnlab, is_simple_dnlab}
use Rattle.command_line.proofs.words.task_of.Goals as goal

pub task_met-requires : goal.task_met-requires
unfolding dnlab
task_met-requires c =
    let is : app_of c.in_ok-command.command ≡ dnlab = c.in_ok-command.ensures.0 in
    subcommand_required _ _ c.in-Ok.ensures.parsed c.in_ok-command.ensures.1 (ap (λ (a : App). a.top.subcommand_required) is)

pub returns-in-Ok-clause-plan : goal.returns-in-Ok-clause-plan
returns-in-Ok-clause-plan c =
    let words = map (string_bytes {Z = Global}) c.args.words.now in
    let is : app_of c.in_ok-command.command ≡ dnlab = c.in_ok-command.ensures.0 in
    let met = c.in-Ok.ensures.matches (ap is_simple is ∙ is_simple_dnlab) in
    ap (option_and_then task_in) (sym (met.1 ∙ ap (λ (a : App). subcommand_of a words) is)) ∙ c.task_met.ensures

pub returns-in-Ok-clause-kinds : goal.returns-in-Ok-clause-kinds
returns-in-Ok-clause-kinds c =
    let words = map (string_bytes {Z = Global}) c.args.words.now in
    let is : app_of c.in_ok-command.command ≡ dnlab = c.in_ok-command.ensures.0 in
    let none : fault_of (app_of c.in_ok-command.command) words ≡ [] = c.in-Ok.ensures.kinds (ap is_simple_and_free is ∙ is_free_dnlab) in
    sym (ap (λ (a : App). fault_of a words) is) ∙ none

pub returns-in-Err-clause-kinds : goal.returns-in-Err-clause-kinds
returns-in-Err-clause-kinds c =
    let words = map (string_bytes {Z = Global}) c.args.words.now in
    let is : app_of c.in_ok-command.command ≡ dnlab = c.in_ok-command.ensures.0 in
    let has : HasKind (fault_of (app_of c.in_ok-command.command) words) c.in-Err.error = c.in-Err.ensures.kinds (ap is_simple_and_free is ∙ is_free_dnlab) in
    subst (λ (ks : Kinds). HasKind ks c.in-Err.error) (ap (λ (a : App). fault_of a words) is) has
