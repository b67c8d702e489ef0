use Rattle.std.proofs.Common.{◌≡◌, sym, ap, ◌∙◌, subst, refl, Some, arith}
use Rattle.std.specs.Prelude.{IsSome, IfSome}
use Rattle.std.specs.List.{best_of}
use Rattle.std.proofs.lemmas.Option.{same_Some}
use Rattle.emu_model.specs.declared.sources.Due.{Due}
use Rattle.emu_model.specs.Dues.{is_before, dues_of, line_dues}
use Rattle.due_index.specs.Least.{lesser}
use Rattle.packet_store.specs.Pocket.{Pocket, empty_pocket}
use Rattle.network.specs.contracts.state.Network.{the_view}
use Rattle.network.specs.Kept.{KeptNet, net_of}
use Rattle.network.specs.Due.{IsDue}
use Rattle.network.proofs.Settling.{best-moment, least-is, settled-due}
use Rattle.network.proofs.state.Network.next_due.Goals as goal

pub some-requires : goal.some-requires
some-requires c =
    let n = the_view c.self.inside in
    let p = empty_pocket 0 in
    let line = c.direct_due.ensures.dues p ∙ ap (λ (m : KeptNet). line_dues 0 (net_of p m).direct) (sym c.self.view_is) in
    let e = c.or_earlier.ensures ∙ ap (λ x. lesser x c.of-direct.result) c.at-first.ensures ∙ ap (λ x. lesser (Some c.args.best) x) c.of-direct.ensures in
    let is = least-is c.args.clock (net_of p n) c.args.best c.direct_due.result c.or_earlier.result c.earliest-least.result c.next_due.result line e
    (c.earliest-least.ensures.least p (net_of p n)) (c.next_due.ensures.least (net_of p n)) in
    subst (λ o. IsSome o) (sym is) refl

pub returns-clause-least : goal.returns-clause-least
returns-clause-least c =
    subst (λ (m : KeptNet). (p : Pocket) → c.some.result ≡ best_of is_before c.args.best (dues_of c.args.clock (net_of p m))) c.self.view_is
    (λ p. let n = the_view c.self.inside in
    let line = c.direct_due.ensures.dues p ∙ ap (λ (m : KeptNet). line_dues 0 (net_of p m).direct) (sym c.self.view_is) in
    let e = c.or_earlier.ensures ∙ ap (λ x. lesser x c.of-direct.result) c.at-first.ensures ∙ ap (λ x. lesser (Some c.args.best) x) c.of-direct.ensures in
    let is = least-is c.args.clock (net_of p n) c.args.best c.direct_due.result c.or_earlier.result c.earliest-least.result c.next_due.result line e
    (c.earliest-least.ensures.least p (net_of p n)) (c.next_due.ensures.least (net_of p n)) in
    same_Some _ _ (sym c.some.ensures ∙ is))

pub returns-clause-moment : goal.returns-clause-moment
returns-clause-moment c =
    let n = the_view c.self.inside in
    let p = empty_pocket 0 in
    let line = c.direct_due.ensures.dues p ∙ ap (λ (m : KeptNet). line_dues 0 (net_of p m).direct) (sym c.self.view_is) in
    let e = c.or_earlier.ensures ∙ ap (λ x. lesser x c.of-direct.result) c.at-first.ensures ∙ ap (λ x. lesser (Some c.args.best) x) c.of-direct.ensures in
    let is = least-is c.args.clock (net_of p n) c.args.best c.direct_due.result c.or_earlier.result c.earliest-least.result c.next_due.result line e
    (c.earliest-least.ensures.least p (net_of p n)) (c.next_due.ensures.least (net_of p n)) in
    let same : c.some.result ≡ best_of is_before c.args.best (dues_of c.args.clock (net_of p n)) = same_Some _ _ (sym c.some.ensures ∙ is) in
    omega (arith, best-moment c.args.best (dues_of c.args.clock (net_of p n)), ap (λ (d : Due). d.moment) same)

pub returns-clause-due : goal.returns-clause-due
returns-clause-due c = λ due.
    let n = the_view c.self.inside in
    let p = empty_pocket 0 in
    let line = c.direct_due.ensures.dues p ∙ ap (λ (m : KeptNet). line_dues 0 (net_of p m).direct) (sym c.self.view_is) in
    let e = c.or_earlier.ensures ∙ ap (λ x. lesser x c.of-direct.result) c.at-first.ensures ∙ ap (λ x. lesser (Some c.args.best) x) c.of-direct.ensures in
    subst (λ (m : KeptNet). IsDue c.some.result m) c.self.view_is
    (settled-due c.args.clock (net_of p n) c.args.best c.direct_due.result c.or_earlier.result c.earliest-least.result c.next_due.result line e
    (c.earliest-least.ensures.least p (net_of p n)) (c.next_due.ensures.least (net_of p n)) n
    (subst (λ (m : KeptNet). IsDue c.args.best m) (sym c.self.view_is) due)
    (subst (λ (m : KeptNet). IfSome c.direct_due.result (λ x. IsDue x m)) (sym c.self.view_is) c.direct_due.ensures.due)
    c.earliest-least.ensures.finishing c.earliest-least.ensures.leaving c.earliest-least.ensures.piped c.next_due.ensures.allowed c.next_due.ensures.numbered
    c.some.result c.some.ensures)
