use Rattle.std.proofs.Common.{sym, ◌∙◌}
use Rattle.control.specs.Scenario.{with_last}
use Rattle.session.specs.Faults.{of_current, command_fault, current_of}
use Rattle.session.proofs.SessionFacts.{answered-grows, fault-said, if_ok, no-fault}
use Rattle.session.proofs.SessionFacts.{does-said}
use Rattle.control_lines.specs.Entries.{Does}
use Rattle.session.specs.Effects.{Follows}
use Rattle.session.proofs.session.Session.take_command.Goals as goal

pub returns-clause-grows : goal.returns-clause-grows
returns-clause-grows c =
    if_ok _ _ c.say.result
    (λ f h none.
    let fine = no-fault c.in_ok-answer.answer (sym h.0 ∙ none) in
    let m = h.2 fine in
    answered-grows c.args.self.now c.command.new.self c.in_ok-answer.answer m.0 (λ es. with_last es c.args.command.now) _ _ _ c.in_ok-answer.ensures.grows m.1 fine)
    c.say.ensures

pub returns-clause-fault : goal.returns-clause-fault
returns-clause-fault c =
    if_ok _ _ c.say.result
    (λ f h. fault-said (of_current (λ o. command_fault o c.args.command.now.moment) (current_of c.args.self.now)) f c.in_ok-answer.answer c.args.self.now c.command.new.self c.args.out.now.items c.command.new.out.items _ c.in_ok-answer.ensures.fault h.0 h.1)
    c.say.ensures

pub returns-clause-does : goal.returns-clause-does
returns-clause-does c =
    if_ok _ _ c.say.result
    (λ f h. does-said f c.in_ok-answer.answer c.command.new.self c.args.out.now.items c.command.new.out.items _ (λ bytes a. Follows (Does c.args.command.now) bytes a c.args.self.now c.command.new.self) c.in_ok-answer.ensures.obeys h.0 h.2)
    c.say.ensures
