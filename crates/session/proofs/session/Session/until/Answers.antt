use Rattle.std.proofs.Common.{◌≡◌, refl, subst, sym, arith}
use Rattle.std.specs.Prelude.{set}
use Rattle.session.specs.Sessions.{KeptSession, Grows}
use Rattle.session.specs.contracts.session.Session.{the_view}
use Rattle.session.proofs.SessionFacts.{grows-time}
use Rattle.session.specs.Effects.{Moves, PassesIn}
use Rattle.session.proofs.SessionFacts.{moves}
use Rattle.session.specs.Faults.{Answers, of_current, current_of, time_fault}
use Rattle.session.proofs.SessionFacts.{current-fault}
use Rattle.session.proofs.session.Session.until.Goals as goal

pub returns-clause-grows : goal.returns-clause-grows
returns-clause-grows c =
    let h = c.in_ok-answer.ensures in
    let t = h.told in
    let old : KeptSession = the_view c.self.inside in
    let new : KeptSession = record { opened = set old.opened old.current c.until.new.self; current = old.current; left = old.left; traces = old.traces } in (
      t.0,
      t.1,
      subst (λ (s : KeptSession). Grows (λ es. es) t.0 s new) c.self.view_is
          (grows-time old new c.index_mut.result.now c.until.new.self t.0 refl refl refl
          (let none = c.if-place-len.false in let len = c.len.ensures in let ok = c.self.inside.open.ok.0 in omega (arith, none, len, ok)) (sym c.index_mut.ensures.value) h.same t.2),
    )

pub returns-clause-passes : goal.returns-clause-passes
returns-clause-passes c fine =
    let h = c.in_ok-answer.ensures in
    let t = h.passes fine in
    let old : KeptSession = the_view c.self.inside in
    let new : KeptSession = record { opened = set old.opened old.current c.until.new.self; current = old.current; left = old.left; traces = old.traces } in (
      t.0,
      t.1,
      subst (λ (s : KeptSession). Moves (λ b o p. PassesIn o.phase c.args.limit c.args.stop t.0 b o p) c.in_ok-answer.answer s new) c.self.view_is
          (moves (λ b o p. PassesIn o.phase c.args.limit c.args.stop t.0 b o p) c.in_ok-answer.answer old new c.index_mut.result.now c.until.new.self refl refl refl refl
          (let none = c.if-place-len.false in let len = c.len.ensures in let ok = c.self.inside.open.ok.0 in omega (arith, none, len, ok)) (sym c.index_mut.ensures.value) t.2),
    )

pub returns-clause-fault : goal.returns-clause-fault
returns-clause-fault c =
    let old : KeptSession = the_view c.self.inside in
    let new : KeptSession = record { opened = set old.opened old.current c.until.new.self; current = old.current; left = old.left; traces = old.traces } in
    subst (λ (s : KeptSession). Answers (of_current (λ o. time_fault o c.args.limit) (current_of s)) c.in_ok-answer.answer ((new ≡ s) × (c.until.new.out.items ≡ c.args.out.now.items))) c.self.view_is
    (current-fault (λ o. time_fault o c.args.limit) c.in_ok-answer.answer old c.index_mut.result.now c.until.new.self _
    (let none = c.if-place-len.false in let len = c.len.ensures in let ok = c.self.inside.open.ok.0 in omega (arith, none, len, ok)) (sym c.index_mut.ensures.value) c.in_ok-answer.ensures.fault)
