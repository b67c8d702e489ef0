use Rattle.std.proofs.Common.{sym, ◌∙◌}
use Rattle.session.specs.Faults.{asked_fault}
use Rattle.session.specs.Requests.{request_of}
use Rattle.session.proofs.SessionFacts.{requested, fault-said, if_ok, no-fault}
use Rattle.session.proofs.SessionFacts.{does-said}
use Rattle.std.proofs.Common.{◌≡◌}
use Rattle.std.specs.Prelude.{Ok}
use Rattle.session.specs.Requests.{Asked}
use Rattle.session.specs.Effects.{Obeys}
use Rattle.session.proofs.session.Session.take_request.Goals as goal

pub returns-clause-grows : goal.returns-clause-grows
returns-clause-grows c =
    if_ok _ _ c.say.result
    (λ f h none.
    let fine = no-fault c.in_ok-answer.answer (sym h.0 ∙ none) in
    let m = h.2 fine in
    requested c.args.self.now c.answer.new.self c.in_ok-answer.answer m.0 c.args.asked.now c.args.out.now.items c.answer.new.out.items _ c.in_ok-answer.ensures.grows m.1 fine)
    c.say.ensures

pub returns-clause-fault : goal.returns-clause-fault
returns-clause-fault c =
    if_ok _ _ c.say.result
    (λ f h. fault-said (asked_fault c.args.self.now (request_of c.args.asked.now)) f c.in_ok-answer.answer c.args.self.now c.answer.new.self c.args.out.now.items c.answer.new.out.items _ c.in_ok-answer.ensures.fault h.0 h.1)
    c.say.ensures

pub returns-clause-does : goal.returns-clause-does
returns-clause-does c =
    if_ok _ _ c.say.result
    (λ f h. does-said f c.in_ok-answer.answer c.answer.new.self c.args.out.now.items c.answer.new.out.items _ (λ bytes a. (q : Asked) × (request_of c.args.asked.now ≡ Ok q) × Obeys q bytes a c.args.self.now c.answer.new.self) c.in_ok-answer.ensures.obeys h.0 h.2)
    c.say.ensures
