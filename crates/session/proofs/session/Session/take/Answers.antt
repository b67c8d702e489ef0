use Rattle.std.proofs.Common.{refl, subst, inl, inr, arith}
use Rattle.session.specs.Faults.{IsFaultBy}
use Rattle.session.proofs.SessionFacts.{taken-request, taken-line, if_ok}
use Rattle.session.specs.Effects.{DoesBy}
use Rattle.session.proofs.session.Session.take.Goals as goal

pub returns-then-line-gt-MAX_LINE-clause-fault : goal.returns-then-line-gt-MAX_LINE-clause-fault
returns-then-line-gt-MAX_LINE-clause-fault c = inl (let many = c.if-line-gt-MAX_LINE.true in omega (arith, many), refl)

pub returns-in-Some-clause-takes : goal.returns-in-Some-clause-takes
returns-in-Some-clause-takes c =
    if_ok _ _ c.take_request.result
    (λ f h none. taken-request c.lines_say_one.ensures c.args.line.now c.in-Some.asked.now c.args.self.now c.take_request.new.self _ _ c.in-Some.ensures.rest c.in-Some.ensures.value (h none))
    c.take_request.ensures.grows

pub returns-in-Some-clause-fault : goal.returns-in-Some-clause-fault
returns-in-Some-clause-fault c =
    if_ok _ _ c.take_request.result
    (λ f h. inr (let few = c.if-line-gt-MAX_LINE.false in omega (arith, few), subst (λ o. IsFaultBy o c.args.self.now c.args.line.now f) c.in-Some.ensures.value h.0))
    c.take_request.ensures.fault

pub returns-in-Some-clause-same : goal.returns-in-Some-clause-same
returns-in-Some-clause-same c = if_ok _ _ c.take_request.result (λ f h. h.1) c.take_request.ensures.fault

pub returns-in-None-clause-takes : goal.returns-in-None-clause-takes
returns-in-None-clause-takes c =
    if_ok _ _ c.take_line.result (λ f h none. taken-line c.args.line.now c.args.self.now c.take_line.new.self _ _ c.in-None.ensures.value (h none)) c.take_line.ensures.hears

pub returns-in-None-clause-fault : goal.returns-in-None-clause-fault
returns-in-None-clause-fault c =
    if_ok _ _ c.take_line.result
    (λ f h. inr (let few = c.if-line-gt-MAX_LINE.false in omega (arith, few), subst (λ o. IsFaultBy o c.args.self.now c.args.line.now f) c.in-None.ensures.value h.0))
    c.take_line.ensures.fault

pub returns-in-None-clause-same : goal.returns-in-None-clause-same
returns-in-None-clause-same c = if_ok _ _ c.take_line.result (λ f h. h.1) c.take_line.ensures.fault

pub returns-in-Some-clause-does : goal.returns-in-Some-clause-does
returns-in-Some-clause-does c =
    if_ok _ _ c.take_request.result
    (λ f h none. let s = h none in (s.0, s.1, subst (λ o. DoesBy o c.args.line.now s.0 c.args.self.now c.take_request.new.self) c.in-Some.ensures.value s.2))
    c.take_request.ensures.does

pub returns-in-None-clause-does : goal.returns-in-None-clause-does
returns-in-None-clause-does c =
    if_ok _ _ c.take_line.result
    (λ f h none. let s = h none in (s.0, s.1, subst (λ o. DoesBy o c.args.line.now s.0 c.args.self.now c.take_line.new.self) c.in-None.ensures.value s.2))
    c.take_line.ensures.does
