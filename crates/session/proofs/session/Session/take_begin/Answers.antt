use Rattle.std.proofs.Common.{sym, ◌∙◌, ◌++◌, ◌∷◌, []}
use Rattle.control.specs.Scenario.{begun}
use Rattle.session.specs.Faults.{begin_fault}
use Rattle.session.proofs.SessionFacts.{answered-grows, fault-said, if_ok, no-fault}
use Rattle.session.proofs.SessionFacts.{does-said}
use Rattle.session.specs.Effects.{IsBegun}
use Rattle.session.proofs.session.Session.take_begin.Goals as goal

pub returns-clause-grows : goal.returns-clause-grows
returns-clause-grows c =
    if_ok _ _ c.say.result
    (λ f h none.
    let fine = no-fault c.in_ok-answer.answer (sym h.0 ∙ none) in
    let m = h.2 fine in
    answered-grows c.args.self.now c.begin.new.self c.in_ok-answer.answer m.0 (λ es. es ++ begun c.args.name.now c.args.spec ∷ []) _ _ _ c.in_ok-answer.ensures.grows m.1 fine)
    c.say.ensures

pub returns-clause-fault : goal.returns-clause-fault
returns-clause-fault c =
    if_ok _ _ c.say.result
    (λ f h. fault-said (begin_fault c.args.self.now c.args.name.now c.args.spec) f c.in_ok-answer.answer c.args.self.now c.begin.new.self c.args.out.now.items c.begin.new.out.items _ c.in_ok-answer.ensures.fault h.0 h.1)
    c.say.ensures

pub returns-clause-does : goal.returns-clause-does
returns-clause-does c =
    if_ok _ _ c.say.result
    (λ f h. does-said f c.in_ok-answer.answer c.begin.new.self c.args.out.now.items c.begin.new.out.items _ (λ bytes a. IsBegun c.args.name.now c.args.spec bytes a c.args.self.now c.begin.new.self) c.in_ok-answer.ensures.begins h.0 h.2)
    c.say.ensures
