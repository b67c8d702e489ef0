use Rattle.std.proofs.Common.{◌≡◌, ◌++◌, ◌≤◌, Some, sym, ap, ◌∙◌, subst}
use Rattle.std.specs.Prelude.{option_to_list}
use Rattle.std.specs.List.{AllByRecursion}
use Rattle.emu_model.specs.Moments.{IsMoment}
use Rattle.emu_model.specs.declared.sources.Due.{Due}
use Rattle.emu_model.specs.Dues.{dues_of}
use Rattle.emu_model.proofs.CallerLemmas.{of_next_event}
use Rattle.network.specs.Kept.{net_of}
use Rattle.experiment.specs.Kept.{KeptExperiment, view}
use Rattle.experiment.specs.Dues.{command_dues}
use Rattle.experiment.proofs.experiment.Experiment.next_due.Goals as goal

pub returns-in-Some-clause-ahead : goal.returns-in-Some-clause-ahead
returns-in-Some-clause-ahead c = λ p alone.
    let e = c.args.self.now in
    let t = c.in-Some.command in
    let is : e.next ≡ Some t = ap (λ (k : KeptExperiment). k.next) (sym c.self.view_is) ∙ c.in-Some.is in
    let all = subst (λ n. AllByRecursion (λ (d : Due). (e.clock ≤ d.moment) × (IsMoment d.moment)) (command_dues (option_to_list n) ++ dues_of e.clock (net_of p e.net))) is (c.dues_in_time.ensures p alone) in
    let next = of_next_event (λ (d : Due). (e.clock ≤ d.moment) × (IsMoment d.moment)) (view p e) t all.0 all.1 in
    subst (λ (d : Due). e.clock ≤ d.moment) (sym (c.least_due.ensures.least p)) next.0
