use Rattle.std.proofs.Common.{subst, sym, [], sym, ap, append-nil, refl}
use Rattle.std.specs.Prelude.{Ok}
use Rattle.session.specs.Requests.{view_request}
use Rattle.session.specs.Sessions.{Asks}
use Rattle.session.proofs.SessionFacts.{if_ok, helped, asked-told, asks-quiet, asks-show, grows-none, IsQuiet}
use Rattle.session.specs.Effects.{Obeys}
use Rattle.session.proofs.session.Session.obey.Goals as goal

pub returns-in-Until-clause-grows : goal.returns-in-Until-clause-grows
returns-in-Until-clause-grows c =
    asked-told _ c.args.self.now c.until.new.self c.args.out.now.items c.until.new.out.items c.until.result
    (subst IsQuiet (sym (ap view_request c.in-Until.is)) tt) c.until.ensures.grows

pub returns-in-UntilMine-clause-grows : goal.returns-in-UntilMine-clause-grows
returns-in-UntilMine-clause-grows c =
    asked-told _ c.args.self.now c.until-in-UntilMine.new.self c.args.out.now.items c.until-in-UntilMine.new.out.items c.until-in-UntilMine.result
    (subst IsQuiet (sym (ap view_request c.in-UntilMine.is)) tt) c.until-in-UntilMine.ensures.grows

pub returns-in-UntilAny-clause-grows : goal.returns-in-UntilAny-clause-grows
returns-in-UntilAny-clause-grows c =
    asked-told _ c.args.self.now c.until-in-UntilAny.new.self c.args.out.now.items c.until-in-UntilAny.new.out.items c.until-in-UntilAny.result
    (subst IsQuiet (sym (ap view_request c.in-UntilAny.is)) tt) c.until-in-UntilAny.ensures.grows

pub returns-in-Next-clause-grows : goal.returns-in-Next-clause-grows
returns-in-Next-clause-grows c = (
  [],
  sym (append-nil _),
  λ fine plain.
      asks-quiet _ [] c.args.self.now c.args.self.now (subst IsQuiet (sym (ap view_request c.in-Next.is)) tt)
      (grows-none c.args.self.now c.args.self.now refl),
)

pub returns-in-AddNext-clause-grows : goal.returns-in-AddNext-clause-grows
returns-in-AddNext-clause-grows c = (
  [],
  sym (append-nil _),
  λ fine plain.
      asks-quiet _ [] c.args.self.now c.add_next.new.self (subst IsQuiet (sym (ap view_request c.in-AddNext.is)) tt) c.add_next.ensures.grows,
)

pub returns-in_ok-extend_from_slice-in-Help-clause-grows : goal.returns-in_ok-extend_from_slice-in-Help-clause-grows
returns-in_ok-extend_from_slice-in-Help-clause-grows c =
    let h = helped c.args.self.now c.args.out.now.items _ c.in_ok-extend_from_slice-in-Help.ensures.items in
    (h.0, h.1, λ fine plain. asks-quiet _ _ c.args.self.now c.args.self.now (subst IsQuiet (sym (ap view_request c.in-Help.is)) tt) h.2)

pub returns-in-Show-clause-grows : goal.returns-in-Show-clause-grows
returns-in-Show-clause-grows c = (
  [],
  sym (append-nil _),
  λ fine plain.
      subst (λ q. Asks (Ok q) [] c.args.self.now c.show.new.self) (sym (ap view_request c.in-Show.is))
      (asks-show c.in-Show.all c.args.self.now c.show.new.self c.show.ensures.grows),
)

pub returns-in-Trace-clause-grows : goal.returns-in-Trace-clause-grows
returns-in-Trace-clause-grows c = (
  [],
  sym (append-nil _),
  λ fine plain.
      subst (λ q. Asks (Ok q) [] c.args.self.now c.trace.new.self) (sym (ap view_request c.in-Trace.is)) c.trace.ensures.asks,
)

pub returns-in-Until-clause-obeys : goal.returns-in-Until-clause-obeys
returns-in-Until-clause-obeys c =
    if_ok _ _ c.until.result
    (λ a h fine. let t = h fine in (t.0, t.1, subst (λ q. Obeys q t.0 a c.args.self.now c.until.new.self) (sym (ap view_request c.in-Until.is)) t.2))
    c.until.ensures.passes

pub returns-in-UntilMine-clause-obeys : goal.returns-in-UntilMine-clause-obeys
returns-in-UntilMine-clause-obeys c =
    if_ok _ _ c.until-in-UntilMine.result
    (λ a h fine. let t = h fine in (t.0, t.1, subst (λ q. Obeys q t.0 a c.args.self.now c.until-in-UntilMine.new.self) (sym (ap view_request c.in-UntilMine.is)) t.2))
    c.until-in-UntilMine.ensures.passes

pub returns-in-UntilAny-clause-obeys : goal.returns-in-UntilAny-clause-obeys
returns-in-UntilAny-clause-obeys c =
    if_ok _ _ c.until-in-UntilAny.result
    (λ a h fine. let t = h fine in (t.0, t.1, subst (λ q. Obeys q t.0 a c.args.self.now c.until-in-UntilAny.new.self) (sym (ap view_request c.in-UntilAny.is)) t.2))
    c.until-in-UntilAny.ensures.passes
