use Rattle.std.proofs.Common.{rules, ◌≡◌, sym, ap, ◌∙◌}
use Rattle.std.specs.List.{best_of}
use Rattle.emu_model.specs.declared.sources.Due.{Due}
use Rattle.emu_model.specs.declared.sources.Class.TheVariants.{NextCommand}
use Rattle.emu_model.specs.Dues.{is_before, dues_of, least_due}
use Rattle.network.specs.Kept.{net_of}
use Rattle.experiment.specs.Kept.{KeptExperiment, view}
use Rattle.experiment.proofs.experiment.Experiment.next_moment.Goals as goal

pub returns-then-eq-clause-none : goal.returns-then-eq-clause-none
returns-then-eq-clause-none c = λ none p.
    let now = c.args.self.now in
    let d : Due = c.earliest-due.result in
    let least : d ≡ least_due 2000000000000000 (dues_of now.clock (net_of p now.net)) =
    c.earliest-due.ensures.least p
    ∙ ap (λ (e : KeptExperiment). best_of is_before (record { moment = 2000000000000000; source = c.next_command.result }) (dues_of e.clock (net_of p e.net))) c.self.view_is
    ∙ ap (λ s. best_of is_before (record { moment = 2000000000000000; source = s }) (dues_of now.clock (net_of p now.net))) c.next_command.ensures in
    let is : d.source.class ≡ NextCommand = search rules in
    c.waits_settle.ensures 2000000000000000 (view p now) (ap (λ (e : Due). e.source.class) (sym least) ∙ is)
