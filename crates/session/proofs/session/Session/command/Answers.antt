use Rattle.std.proofs.Common.{◌≡◌, ◌∙◌, [], sym, refl, subst, append-nil, arith}
use Rattle.std.specs.Prelude.{set}
use Rattle.session.specs.Sessions.{KeptSession, Grows}
use Rattle.session.specs.contracts.session.Session.{the_view}
use Rattle.control.specs.Scenario.{with_last}
use Rattle.session.proofs.SessionFacts.{by-fault, faulty, grows-command}
use Rattle.control_lines.specs.Entries.{Does}
use Rattle.session.specs.Effects.{Follows, ObeysIn}
use Rattle.session.specs.Tracing.{command_as}
use Rattle.session.proofs.SessionFacts.{moves}
use Rattle.session.specs.Faults.{Answers, of_current, current_of, command_fault}
use Rattle.session.proofs.SessionFacts.{current-fault}
use Rattle.session.proofs.session.Session.command.Goals as goal

pub returns-clause-grows : goal.returns-clause-grows
returns-clause-grows c =
    let h = c.in_ok-answer.ensures in
    let old : KeptSession = the_view c.self.inside in
    let new : KeptSession = record { opened = set old.opened old.current c.take.new.self; current = old.current; left = old.left; traces = old.traces } in
    by-fault c.in_ok-answer.answer _
    (λ fault. ([], (faulty _ c.in_ok-answer.answer _ h.fault fault).1 ∙ sym (append-nil _), λ fine. absurd (fine fault)))
    (λ fine.
    let t = h.told fine in (
      t.0,
      t.1,
      λ still. subst (λ (s : KeptSession). Grows (λ es. with_last es c.args.command.now) t.0 s new) c.self.view_is
          (grows-command old new c.index_mut.result.now c.take.new.self t.0 c.args.command.now refl refl refl
          (let none = c.if-place-len.false in let len = c.len.ensures in let ok = c.self.inside.open.ok.0 in omega (arith, none, len, ok)) (sym c.index_mut.ensures.value) h.same t.2),
    ))

pub returns-clause-obeys : goal.returns-clause-obeys
returns-clause-obeys c fine =
    let h = c.in_ok-answer.ensures in
    let t = h.obeys fine in
    let old : KeptSession = the_view c.self.inside in
    let new : KeptSession = record { opened = set old.opened old.current c.take.new.self; current = old.current; left = old.left; traces = old.traces } in (
      t.0,
      t.1,
      subst (λ (s : KeptSession). Follows (Does c.args.command.now) t.0 c.in_ok-answer.answer s new) c.self.view_is
          (moves (λ a o p. ObeysIn o.phase (command_as o.traced c.args.command.now) t.0 a o p) c.in_ok-answer.answer old new c.index_mut.result.now c.take.new.self refl refl refl refl
          (let none = c.if-place-len.false in let len = c.len.ensures in let ok = c.self.inside.open.ok.0 in omega (arith, none, len, ok)) (sym c.index_mut.ensures.value) t.2),
    )

pub returns-clause-fault : goal.returns-clause-fault
returns-clause-fault c =
    let old : KeptSession = the_view c.self.inside in
    let new : KeptSession = record { opened = set old.opened old.current c.take.new.self; current = old.current; left = old.left; traces = old.traces } in
    subst (λ (s : KeptSession). Answers (of_current (λ o. command_fault o c.args.command.now.moment) (current_of s)) c.in_ok-answer.answer ((new ≡ s) × (c.take.new.out.items ≡ c.args.out.now.items))) c.self.view_is
    (current-fault (λ o. command_fault o c.args.command.now.moment) c.in_ok-answer.answer old c.index_mut.result.now c.take.new.self _
    (let none = c.if-place-len.false in let len = c.len.ensures in let ok = c.self.inside.open.ok.0 in omega (arith, none, len, ok)) (sym c.index_mut.ensures.value) c.in_ok-answer.ensures.fault)
