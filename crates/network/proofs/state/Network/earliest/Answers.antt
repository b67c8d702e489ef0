use Rattle.std.proofs.Common.{◌≡◌, ◌++◌, sym, ap, ◌∙◌, subst, refl, Some, arith}
use Rattle.std.specs.Prelude.{IsSome, IfSome, option_to_list}
use Rattle.std.specs.List.{best_of}
use Rattle.emu_model.specs.declared.sources.Due.{Due}
use Rattle.emu_model.specs.Dues.{is_before, dues_of, line_dues}
use Rattle.due_index.specs.Least.{lesser, least_of}
use Rattle.packet_store.specs.Pocket.{Pocket, empty_pocket}
use Rattle.sources.specs.Sends.{source_dues}
use Rattle.network.specs.contracts.state.Network.{the_view}
use Rattle.network.specs.Kept.{KeptNet, net_of}
use Rattle.network.specs.Due.{IsDue}
use Rattle.network.proofs.Settling.{best-moment, second-is, told-is, told-due}
use Rattle.network.proofs.state.Network.earliest.Goals as goal

pub some-requires : goal.some-requires
some-requires c =
    let n = the_view c.self.inside in
    let p = empty_pocket 0 in
    let m = net_of p n in
    let line = c.direct_due.ensures.dues p ∙ ap (λ (x : KeptNet). line_dues 0 (net_of p x).direct) (sym c.self.view_is) in
    let e = c.or_earlier.ensures ∙ ap (λ x. lesser x c.of-direct.result) c.at-first.ensures ∙ ap (λ x. lesser (Some c.args.best) x) c.of-direct.ensures in
    let is = second-is c.args.clock m c.args.best c.direct_due.result c.or_earlier.result c.earliest-least.result
    (least_of (option_to_list c.earliest-least.result ++ source_dues c.args.clock m)) line e (c.earliest-least.ensures.least p m) refl in
    subst (λ o. IsSome o) (sym is) refl

pub returns-clause-least : goal.returns-clause-least
returns-clause-least c =
    subst (λ (x : KeptNet). (p : Pocket) → c.earliest.result ≡ best_of is_before c.args.best (dues_of c.args.clock (net_of p x))) c.self.view_is
    (λ p. let n = the_view c.self.inside in
    let m = net_of p n in
    let line = c.direct_due.ensures.dues p ∙ ap (λ (x : KeptNet). line_dues 0 (net_of p x).direct) (sym c.self.view_is) in
    let e = c.or_earlier.ensures ∙ ap (λ x. lesser x c.of-direct.result) c.at-first.ensures ∙ ap (λ x. lesser (Some c.args.best) x) c.of-direct.ensures in
    told-is c.args.clock m c.args.best c.direct_due.result c.or_earlier.result c.earliest-least.result c.some.result c.earliest.result line e
    (c.earliest-least.ensures.least p m) c.some.ensures (c.earliest.ensures.least m))

pub returns-clause-moment : goal.returns-clause-moment
returns-clause-moment c =
    let n = the_view c.self.inside in
    let p = empty_pocket 0 in
    let m = net_of p n in
    let line = c.direct_due.ensures.dues p ∙ ap (λ (x : KeptNet). line_dues 0 (net_of p x).direct) (sym c.self.view_is) in
    let e = c.or_earlier.ensures ∙ ap (λ x. lesser x c.of-direct.result) c.at-first.ensures ∙ ap (λ x. lesser (Some c.args.best) x) c.of-direct.ensures in
    let same = told-is c.args.clock m c.args.best c.direct_due.result c.or_earlier.result c.earliest-least.result c.some.result c.earliest.result line e
    (c.earliest-least.ensures.least p m) c.some.ensures (c.earliest.ensures.least m) in
    omega (arith, best-moment c.args.best (dues_of c.args.clock m), ap (λ (d : Due). d.moment) same)

pub returns-clause-due : goal.returns-clause-due
returns-clause-due c = λ due.
    let n = the_view c.self.inside in
    let p = empty_pocket 0 in
    let m = net_of p n in
    let line = c.direct_due.ensures.dues p ∙ ap (λ (x : KeptNet). line_dues 0 (net_of p x).direct) (sym c.self.view_is) in
    let e = c.or_earlier.ensures ∙ ap (λ x. lesser x c.of-direct.result) c.at-first.ensures ∙ ap (λ x. lesser (Some c.args.best) x) c.of-direct.ensures in
    subst (λ (x : KeptNet). IsDue c.earliest.result x) c.self.view_is
    (told-due c.args.clock m c.args.best c.direct_due.result c.or_earlier.result c.earliest-least.result c.some.result c.earliest.result line e
    (c.earliest-least.ensures.least p m) c.some.ensures (c.earliest.ensures.least m) n
    (subst (λ (x : KeptNet). IsDue c.args.best x) (sym c.self.view_is) due)
    (subst (λ (x : KeptNet). IfSome c.direct_due.result (λ y. IsDue y x)) (sym c.self.view_is) c.direct_due.ensures.due)
    c.earliest-least.ensures.finishing c.earliest-least.ensures.leaving c.earliest-least.ensures.piped c.earliest.ensures.allowed c.earliest.ensures.numbered)
