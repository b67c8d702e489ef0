use Rattle.std.proofs.Common.{◌≡◌, [], sym, refl, subst, arith}
use Rattle.std.specs.Prelude.{set}
use Rattle.session.specs.Sessions.{KeptSession, Grows}
use Rattle.session.specs.contracts.session.Session.{the_view}
use Rattle.session.proofs.SessionFacts.{grows-added}
use Rattle.session.specs.declared.answer.Answer.TheVariants.{Done}
use Rattle.session.specs.Effects.{Obeys}
use Rattle.session.specs.Requests.{AddNext}
use Rattle.session.proofs.SessionFacts.{moves}
use Rattle.session.proofs.session.Session.add_next.Goals as goal

pub returns-clause-grows : goal.returns-clause-grows
returns-clause-grows c =
    let old : KeptSession = the_view c.self.inside in
    let new : KeptSession = record { opened = set old.opened old.current c.add_next.new.self; current = old.current; left = old.left; traces = old.traces } in
    subst (λ (s : KeptSession). Grows (λ es. es) [] s new) c.self.view_is
    (grows-added old new c.index_mut.result.now c.add_next.new.self c.args.on c.add_next.ensures refl refl refl
    (let none = c.if-place-len.false in let len = c.len.ensures in let ok = c.self.inside.open.ok.0 in omega (arith, none, len, ok)) (sym c.index_mut.ensures.value))

pub returns-clause-adds : goal.returns-clause-adds
returns-clause-adds c fine =
    let old : KeptSession = the_view c.self.inside in
    let new : KeptSession = record { opened = set old.opened old.current c.add_next.new.self; current = old.current; left = old.left; traces = old.traces } in
    subst (λ (s : KeptSession). Obeys (AddNext c.args.on) [] Done s new) c.self.view_is (
      refl,
      moves (λ a o p. (p ≡ record o { adds_next = c.args.on }) × (a ≡ Done)) Done old new c.index_mut.result.now c.add_next.new.self refl refl refl refl
          (let none = c.if-place-len.false in let len = c.len.ensures in let ok = c.self.inside.open.ok.0 in omega (arith, none, len, ok)) (sym c.index_mut.ensures.value) (c.add_next.ensures, refl),
    )
