use Rattle.std.proofs.Common.{◌≡◌, [], sym, refl, subst, arith}
use Rattle.std.specs.Prelude.{set}
use Rattle.session.specs.Sessions.{KeptSession, Grows}
use Rattle.session.specs.contracts.session.Session.{the_view}
use Rattle.session.proofs.SessionFacts.{shows-all, grows-shown}
use Rattle.session.specs.declared.answer.Answer.TheVariants.{Done}
use Rattle.session.specs.Effects.{Obeys}
use Rattle.session.specs.Requests.{Show}
use Rattle.session.proofs.SessionFacts.{moves}
use Rattle.session.proofs.session.Session.show.Goals as goal

pub returns-clause-grows : goal.returns-clause-grows
returns-clause-grows c other =
    let old : KeptSession = the_view c.self.inside in
    let new : KeptSession = record { opened = set old.opened old.current c.show.new.self; current = old.current; left = old.left; traces = old.traces } in
    subst (λ (s : KeptSession). Grows (λ es. es) [] s new) c.self.view_is
    (grows-shown old new c.index_mut.result.now c.show.new.self c.args.all c.show.ensures (shows-all c.args.all other) refl refl refl
    (let none = c.if-place-len.false in let len = c.len.ensures in let ok = c.self.inside.open.ok.0 in omega (arith, none, len, ok)) (sym c.index_mut.ensures.value))

pub returns-clause-shows : goal.returns-clause-shows
returns-clause-shows c fine =
    let old : KeptSession = the_view c.self.inside in
    let new : KeptSession = record { opened = set old.opened old.current c.show.new.self; current = old.current; left = old.left; traces = old.traces } in
    subst (λ (s : KeptSession). Obeys (Show c.args.all) [] Done s new) c.self.view_is (
      refl,
      moves (λ a o p. (p ≡ record o { run = record o.run { shows_all = c.args.all } }) × (a ≡ Done)) Done old new c.index_mut.result.now c.show.new.self refl refl refl refl
          (let none = c.if-place-len.false in let len = c.len.ensures in let ok = c.self.inside.open.ok.0 in omega (arith, none, len, ok)) (sym c.index_mut.ensures.value) (c.show.ensures, refl),
    )
