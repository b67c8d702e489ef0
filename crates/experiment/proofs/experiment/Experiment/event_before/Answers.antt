use Rattle.std.proofs.Common.{rules, ◌≡◌, ◌≢◌, ◌<◌, refl, sym, ap, ◌∙◌, subst, true, Option, Some, None, inl}
use Rattle.std.specs.Prelude.{is_some, IsSome}
use Rattle.std.specs.List.{best_of}
use Rattle.emu_model.specs.declared.commands.Timed.{Timed}
use Rattle.emu_model.specs.declared.commands.Command.TheVariants.{End}
use Rattle.emu_model.specs.declared.sources.Due.{Due}
use Rattle.emu_model.specs.declared.sources.Class.TheVariants.{NextCommand}
use Rattle.emu_model.specs.Dues.{is_before, dues_of, least_due}
use Rattle.network.specs.Kept.{KeptNet, net_of}
use Rattle.experiment.specs.contracts.experiment.Experiment.{the_view}
use Rattle.experiment.specs.Kept.{KeptExperiment, view}
use Rattle.experiment.specs.Moves.{Steps, IsPassed}
use Rattle.experiment.proofs.ApplyFacts.{is_none}
use Rattle.experiment.proofs.PassFacts.{is_passed, waiting_passed}
use Rattle.experiment.proofs.experiment.Experiment.event_before.Goals as goal

some : {A : Type 0} (o : Option A) → is_some o ≡ true → IsSome o
some None e = absurd (cc)
some (Some x) e = refl

pub returns-then-eq-clause-passes : goal.returns-then-eq-clause-passes
returns-then-eq-clause-passes g c =
    let p = g.S.Shelf.pocket c.args.shelf.now c.args.owner in
    let old = c.args.self.now in
    let d : Due = c.next_due-due.result in
    let least : d ≡ least_due c.args.limit (dues_of old.clock (net_of p old.net)) =
    c.next_due-due.ensures.least p
    ∙ ap (λ (e : KeptExperiment). best_of is_before (record { moment = c.args.limit; source = c.next_command.result }) (dues_of e.clock (net_of p e.net))) c.self.view_is
    ∙ ap (λ s. best_of is_before (record { moment = c.args.limit; source = s }) (dues_of old.clock (net_of p old.net))) c.next_command.ensures in
    let is : d.source.class ≡ NextCommand = search rules in (
      ap (λ (n : KeptNet). record (the_view c.self.inside) { net = n }) c.next_due-due.ensures.same ∙ c.self.view_is,
      refl,
      inl (c.waits_settle.ensures c.args.limit (view p old) (ap (λ (e : Due). e.source.class) (sym least) ∙ is)),
    )

pub returns-then-is_some-2-clause-passes : goal.returns-then-is_some-2-clause-passes
returns-then-is_some-2-clause-passes g c =
    let p = g.S.Shelf.pocket c.args.shelf.now c.args.owner in
    let q = g.S.Shelf.pocket c.take_event.new.shelf c.args.owner in
    let old = c.args.self.now in
    let new = c.take_event.new.self in
    let d : Due = c.next_due-due.result in
    let least : d ≡ least_due c.args.limit (dues_of old.clock (net_of p old.net)) =
    c.next_due-due.ensures.least p
    ∙ ap (λ (e : KeptExperiment). best_of is_before (record { moment = c.args.limit; source = c.next_command.result }) (dues_of e.clock (net_of p e.net))) c.self.view_is
    ∙ ap (λ s. best_of is_before (record { moment = c.args.limit; source = s }) (dues_of old.clock (net_of p old.net))) c.next_command.ensures in
    let other : d.source.class ≢ NextCommand = search rules in
    let steps : (x : Timed) → Steps d x p old q new =
    subst (λ (e : KeptExperiment). (x : Timed) → Steps d x p e q new)
    (ap (λ (n : KeptNet). record (the_view c.self.inside) { net = n }) c.next_due-due.ensures.same ∙ c.self.view_is) c.in-Ok.ensures.ok in
    let last : Timed = record { moment = 0; command = End } in
    let going : old.ending ≡ None = search rules in
    let passed : IsPassed c.args.limit p old q new = is_passed c.args.limit p q old new d last least other going (steps last) in
    (passed, (steps last).ending (some new.ending (sym (ap (λ (e : KeptExperiment). is_some e.ending) c.self-2.view_is) ∙ sym c.is_some-2.ensures ∙ c.if-is_some-2.true)))

pub returns-clause-passes : goal.returns-clause-passes
returns-clause-passes g c =
    let p = g.S.Shelf.pocket c.args.shelf.now c.args.owner in
    let q = g.S.Shelf.pocket c.take_event.new.shelf c.args.owner in
    let old = c.args.self.now in
    let new = c.take_event.new.self in
    let d : Due = c.next_due-due.result in
    let least : d ≡ least_due c.args.limit (dues_of old.clock (net_of p old.net)) =
    c.next_due-due.ensures.least p
    ∙ ap (λ (e : KeptExperiment). best_of is_before (record { moment = c.args.limit; source = c.next_command.result }) (dues_of e.clock (net_of p e.net))) c.self.view_is
    ∙ ap (λ s. best_of is_before (record { moment = c.args.limit; source = s }) (dues_of old.clock (net_of p old.net))) c.next_command.ensures in
    let other : d.source.class ≢ NextCommand = search rules in
    let steps : (x : Timed) → Steps d x p old q new =
    subst (λ (e : KeptExperiment). (x : Timed) → Steps d x p e q new)
    (ap (λ (n : KeptNet). record (the_view c.self.inside) { net = n }) c.next_due-due.ensures.same ∙ c.self.view_is) c.in-Ok.ensures.ok in
    let last : Timed = record { moment = 0; command = End } in
    let going : old.ending ≡ None = search rules in
    let passed : IsPassed c.args.limit p old q new = is_passed c.args.limit p q old new d last least other going (steps last) in
    (passed, is_none new.ending (sym (ap (λ (e : KeptExperiment). is_some e.ending) c.self-2.view_is) ∙ sym c.is_some-2.ensures ∙ c.if-is_some-2.false))

pub returns-then-is_some-2-clause-waits : goal.returns-then-is_some-2-clause-waits
returns-then-is_some-2-clause-waits g c =
    let p = g.S.Shelf.pocket c.args.shelf.now c.args.owner in
    let q = g.S.Shelf.pocket c.take_event.new.shelf c.args.owner in
    let old = c.args.self.now in
    let new = c.take_event.new.self in
    let d : Due = c.next_due-due.result in
    let least : d ≡ least_due c.args.limit (dues_of old.clock (net_of p old.net)) =
    c.next_due-due.ensures.least p
    ∙ ap (λ (e : KeptExperiment). best_of is_before (record { moment = c.args.limit; source = c.next_command.result }) (dues_of e.clock (net_of p e.net))) c.self.view_is
    ∙ ap (λ s. best_of is_before (record { moment = c.args.limit; source = s }) (dues_of old.clock (net_of p old.net))) c.next_command.ensures in
    let other : d.source.class ≢ NextCommand = search rules in
    let steps : (x : Timed) → Steps d x p old q new =
    subst (λ (e : KeptExperiment). (x : Timed) → Steps d x p e q new)
    (ap (λ (n : KeptNet). record (the_view c.self.inside) { net = n }) c.next_due-due.ensures.same ∙ c.self.view_is) c.in-Ok.ensures.ok in
    let last : Timed = record { moment = 0; command = End } in
    let going : old.ending ≡ None = search rules in
    let passed : IsPassed c.args.limit p old q new = is_passed c.args.limit p q old new d last least other going (steps last) in
    λ t u earlier up within past was.
    waiting_passed c.steps_before_wait.ensures c.waits_agree.ensures c.waits_read_no_records.ensures c.waits_rise.ensures
    t u c.args.limit earlier p q old new d least up within (subst (λ m. m < u) c.in-Ok.ensures.clock past) passed.passed
    (c.take_event.ensures.spec ∙ ap (λ (e : KeptExperiment). e.spec) c.self.view_is)
    (c.take_event.ensures.consumed ∙ ap (λ (e : KeptExperiment). e.consumed) c.self.view_is)
    (c.take_event.ensures.next ∙ ap (λ (e : KeptExperiment). e.next) c.self.view_is ∙ c.requires.idle) was

pub returns-then-is_some-2-clause-past : goal.returns-then-is_some-2-clause-past
returns-then-is_some-2-clause-past g c =
    let p = g.S.Shelf.pocket c.args.shelf.now c.args.owner in
    let q = g.S.Shelf.pocket c.take_event.new.shelf c.args.owner in
    let old = c.args.self.now in
    let new = c.take_event.new.self in
    let d : Due = c.next_due-due.result in
    let least : d ≡ least_due c.args.limit (dues_of old.clock (net_of p old.net)) =
    c.next_due-due.ensures.least p
    ∙ ap (λ (e : KeptExperiment). best_of is_before (record { moment = c.args.limit; source = c.next_command.result }) (dues_of e.clock (net_of p e.net))) c.self.view_is
    ∙ ap (λ s. best_of is_before (record { moment = c.args.limit; source = s }) (dues_of old.clock (net_of p old.net))) c.next_command.ensures in
    let other : d.source.class ≢ NextCommand = search rules in
    subst (λ m. m < c.args.limit) (sym (c.in-Ok.ensures.clock ∙ ap (λ (e : Due). e.moment) least))
    (c.waits_pass_events.ensures c.args.limit (dues_of old.clock (net_of p old.net)) (subst (λ (e : Due). e.source.class ≢ NextCommand) least other))

pub returns-clause-waits : goal.returns-clause-waits
returns-clause-waits g c =
    let p = g.S.Shelf.pocket c.args.shelf.now c.args.owner in
    let q = g.S.Shelf.pocket c.take_event.new.shelf c.args.owner in
    let old = c.args.self.now in
    let new = c.take_event.new.self in
    let d : Due = c.next_due-due.result in
    let least : d ≡ least_due c.args.limit (dues_of old.clock (net_of p old.net)) =
    c.next_due-due.ensures.least p
    ∙ ap (λ (e : KeptExperiment). best_of is_before (record { moment = c.args.limit; source = c.next_command.result }) (dues_of e.clock (net_of p e.net))) c.self.view_is
    ∙ ap (λ s. best_of is_before (record { moment = c.args.limit; source = s }) (dues_of old.clock (net_of p old.net))) c.next_command.ensures in
    let other : d.source.class ≢ NextCommand = search rules in
    let steps : (x : Timed) → Steps d x p old q new =
    subst (λ (e : KeptExperiment). (x : Timed) → Steps d x p e q new)
    (ap (λ (n : KeptNet). record (the_view c.self.inside) { net = n }) c.next_due-due.ensures.same ∙ c.self.view_is) c.in-Ok.ensures.ok in
    let last : Timed = record { moment = 0; command = End } in
    let going : old.ending ≡ None = search rules in
    let passed : IsPassed c.args.limit p old q new = is_passed c.args.limit p q old new d last least other going (steps last) in
    λ t u earlier up within past was.
    waiting_passed c.steps_before_wait.ensures c.waits_agree.ensures c.waits_read_no_records.ensures c.waits_rise.ensures
    t u c.args.limit earlier p q old new d least up within (subst (λ m. m < u) c.in-Ok.ensures.clock past) passed.passed
    (c.take_event.ensures.spec ∙ ap (λ (e : KeptExperiment). e.spec) c.self.view_is)
    (c.take_event.ensures.consumed ∙ ap (λ (e : KeptExperiment). e.consumed) c.self.view_is)
    (c.take_event.ensures.next ∙ ap (λ (e : KeptExperiment). e.next) c.self.view_is ∙ c.requires.idle) was

pub returns-clause-past : goal.returns-clause-past
returns-clause-past g c =
    let p = g.S.Shelf.pocket c.args.shelf.now c.args.owner in
    let q = g.S.Shelf.pocket c.take_event.new.shelf c.args.owner in
    let old = c.args.self.now in
    let new = c.take_event.new.self in
    let d : Due = c.next_due-due.result in
    let least : d ≡ least_due c.args.limit (dues_of old.clock (net_of p old.net)) =
    c.next_due-due.ensures.least p
    ∙ ap (λ (e : KeptExperiment). best_of is_before (record { moment = c.args.limit; source = c.next_command.result }) (dues_of e.clock (net_of p e.net))) c.self.view_is
    ∙ ap (λ s. best_of is_before (record { moment = c.args.limit; source = s }) (dues_of old.clock (net_of p old.net))) c.next_command.ensures in
    let other : d.source.class ≢ NextCommand = search rules in
    subst (λ m. m < c.args.limit) (sym (c.in-Ok.ensures.clock ∙ ap (λ (e : Due). e.moment) least))
    (c.waits_pass_events.ensures c.args.limit (dues_of old.clock (net_of p old.net)) (subst (λ (e : Due). e.source.class ≢ NextCommand) least other))
