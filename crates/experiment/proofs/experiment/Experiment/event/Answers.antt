use Rattle.std.proofs.Common.{rules, ◌≡◌, ap, ◌∙◌, None, Some}
use Rattle.experiment.specs.contracts.experiment.Experiment.{the_view}
use Rattle.experiment.specs.Kept.{KeptExperiment, IsAlone}
use Rattle.experiment.proofs.AloneFacts.{steps_of, alone_counted, alone_grows, after_counted}
use Rattle.experiment.proofs.experiment.Experiment.event.Goals as goal

pub returns-then-eq-clause-alone : goal.returns-then-eq-clause-alone
returns-then-eq-clause-alone g c = λ was.
    let p = g.S.Shelf.pocket c.args.shelf.now c.args.owner in
    let q = g.S.Shelf.pocket c.take_command.new.shelf c.args.owner in
    let old = c.args.self.now in
    let new = c.take_command.new.self in
    let cmd = c.in-Some.command in
    let next : old.next ≡ Some cmd = search rules in
    let going : old.ending ≡ None = search rules in
    let spec = c.take_command.ensures.spec ∙ ap (λ (z : KeptExperiment). z.spec) c.self.view_is in
    let consumed = c.take_command.ensures.consumed ∙ ap (λ (z : KeptExperiment). z.consumed) c.self.view_is in
    let stepped =
    steps_of p q old new (the_view c.self.inside) cmd c.next_due-due.result c.command_due-first.result c.next_due-due.new.self c.self.view_is c.next_due-due.ensures.same
    (c.next_due-due.ensures.least p) c.command_due-first.ensures (c.in-Ok.ensures.ok cmd (ap (λ (z : KeptExperiment). z.next) c.self.view_is ∙ next)) in
    alone_counted p q old new cmd stepped next going spec consumed was

pub returns-then-eq-clause-after : goal.returns-then-eq-clause-after
returns-then-eq-clause-after g c = λ earlier was.
    let p = g.S.Shelf.pocket c.args.shelf.now c.args.owner in
    let q = g.S.Shelf.pocket c.take_command.new.shelf c.args.owner in
    let old = c.args.self.now in
    let new = c.take_command.new.self in
    let cmd = c.in-Some.command in
    let next : old.next ≡ Some cmd = search rules in
    let going : old.ending ≡ None = search rules in
    let spec = c.take_command.ensures.spec ∙ ap (λ (z : KeptExperiment). z.spec) c.self.view_is in
    let consumed = c.take_command.ensures.consumed ∙ ap (λ (z : KeptExperiment). z.consumed) c.self.view_is in
    let stepped =
    steps_of p q old new (the_view c.self.inside) cmd c.next_due-due.result c.command_due-first.result c.next_due-due.new.self c.self.view_is c.next_due-due.ensures.same
    (c.next_due-due.ensures.least p) c.command_due-first.ensures (c.in-Ok.ensures.ok cmd (ap (λ (z : KeptExperiment). z.next) c.self.view_is ∙ next)) in
    after_counted c.records_are_not_read.ensures earlier p q old new cmd stepped next going spec consumed was

pub returns-then-eq-clause-grows : goal.returns-then-eq-clause-grows
returns-then-eq-clause-grows g c = λ was.
    let p = g.S.Shelf.pocket c.args.shelf.now c.args.owner in
    let q = g.S.Shelf.pocket c.take_command.new.shelf c.args.owner in
    let old = c.args.self.now in
    let new = c.take_command.new.self in
    let cmd = c.in-Some.command in
    let next : old.next ≡ Some cmd = search rules in
    let going : old.ending ≡ None = search rules in
    let spec = c.take_command.ensures.spec ∙ ap (λ (z : KeptExperiment). z.spec) c.self.view_is in
    let consumed = c.take_command.ensures.consumed ∙ ap (λ (z : KeptExperiment). z.consumed) c.self.view_is in
    let stepped =
    steps_of p q old new (the_view c.self.inside) cmd c.next_due-due.result c.command_due-first.result c.next_due-due.new.self c.self.view_is c.next_due-due.ensures.same
    (c.next_due-due.ensures.least p) c.command_due-first.ensures (c.in-Ok.ensures.ok cmd (ap (λ (z : KeptExperiment). z.next) c.self.view_is ∙ next)) in
    let is : IsAlone q new = alone_counted p q old new cmd stepped next going spec consumed was in
    alone_grows c.records_grow.ensures p q old new was is spec consumed stepped.counted

pub returns-clause-alone : goal.returns-clause-alone
returns-clause-alone g c = λ was.
    let p = g.S.Shelf.pocket c.args.shelf.now c.args.owner in
    let q = g.S.Shelf.pocket c.take_event.new.shelf c.args.owner in
    let old = c.args.self.now in
    let new = c.take_event.new.self in
    let cmd = c.in-Some.command in
    let next : old.next ≡ Some cmd = search rules in
    let going : old.ending ≡ None = search rules in
    let spec = c.take_event.ensures.spec ∙ ap (λ (z : KeptExperiment). z.spec) c.self.view_is in
    let consumed = c.take_event.ensures.consumed ∙ ap (λ (z : KeptExperiment). z.consumed) c.self.view_is in
    let stepped =
    steps_of p q old new (the_view c.self.inside) cmd c.next_due-due.result c.command_due-first.result c.next_due-due.new.self c.self.view_is c.next_due-due.ensures.same
    (c.next_due-due.ensures.least p) c.command_due-first.ensures (c.in-Ok-take_event.ensures.ok cmd) in
    alone_counted p q old new cmd stepped next going spec consumed was

pub returns-clause-after : goal.returns-clause-after
returns-clause-after g c = λ earlier was.
    let p = g.S.Shelf.pocket c.args.shelf.now c.args.owner in
    let q = g.S.Shelf.pocket c.take_event.new.shelf c.args.owner in
    let old = c.args.self.now in
    let new = c.take_event.new.self in
    let cmd = c.in-Some.command in
    let next : old.next ≡ Some cmd = search rules in
    let going : old.ending ≡ None = search rules in
    let spec = c.take_event.ensures.spec ∙ ap (λ (z : KeptExperiment). z.spec) c.self.view_is in
    let consumed = c.take_event.ensures.consumed ∙ ap (λ (z : KeptExperiment). z.consumed) c.self.view_is in
    let stepped =
    steps_of p q old new (the_view c.self.inside) cmd c.next_due-due.result c.command_due-first.result c.next_due-due.new.self c.self.view_is c.next_due-due.ensures.same
    (c.next_due-due.ensures.least p) c.command_due-first.ensures (c.in-Ok-take_event.ensures.ok cmd) in
    after_counted c.records_are_not_read.ensures earlier p q old new cmd stepped next going spec consumed was

pub returns-clause-grows : goal.returns-clause-grows
returns-clause-grows g c = λ was.
    let p = g.S.Shelf.pocket c.args.shelf.now c.args.owner in
    let q = g.S.Shelf.pocket c.take_event.new.shelf c.args.owner in
    let old = c.args.self.now in
    let new = c.take_event.new.self in
    let cmd = c.in-Some.command in
    let next : old.next ≡ Some cmd = search rules in
    let going : old.ending ≡ None = search rules in
    let spec = c.take_event.ensures.spec ∙ ap (λ (z : KeptExperiment). z.spec) c.self.view_is in
    let consumed = c.take_event.ensures.consumed ∙ ap (λ (z : KeptExperiment). z.consumed) c.self.view_is in
    let stepped =
    steps_of p q old new (the_view c.self.inside) cmd c.next_due-due.result c.command_due-first.result c.next_due-due.new.self c.self.view_is c.next_due-due.ensures.same
    (c.next_due-due.ensures.least p) c.command_due-first.ensures (c.in-Ok-take_event.ensures.ok cmd) in
    let is : IsAlone q new = alone_counted p q old new cmd stepped next going spec consumed was in
    alone_grows c.records_grow.ensures p q old new was is spec consumed stepped.counted
