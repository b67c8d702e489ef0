use Rattle.std.proofs.Common.{◌≡◌, ℕ, refl, sym, ap, ◌∙◌, subst}
use Rattle.std.specs.Prelude.{Some, IfSome}
use Rattle.sources.specs.Kept.{KeptTraffic}
use Rattle.sources.specs.Standing.{heads_of}
use Rattle.emu_model.specs.declared.packets.Packet.{Packet}
use Rattle.emu_model.specs.Rules.{RuleBook}
use Rattle.network.specs.contracts.state.Network.{the_view}
use Rattle.network.specs.Kept.{KeptNet}
use Rattle.network.specs.FlowCache.{header_on, plain}
use Rattle.network.specs.Ready.{IsMatch, CanGo}
use Rattle.network.proofs.state.Network.make_searched.Goals as goal

pub invariant_of-self-then-insert : goal.invariant_of-self-then-insert
invariant_of-self-then-insert g c =
    let x = c.packet_of-packet.result in
    let f = c.classify_rule-found.result in
    let route = c.in-Some.route in
    let old = c.classify_rule-found.new.self.rules in
    let classified : IsMatch 0 x f old =
    subst (λ (b : RuleBook). IsMatch 0 x f b.rules) (sym c.classify_rule-found.ensures.same)
    (record { verdict = c.classify_rule-found.ensures.verdict; rule = c.classify_rule-found.ensures.rule }) in
    let after = c.arrival_ready.new.self in
    let m = the_view c.self-2.inside in
    let known : (start : ℕ) → IsMatch start x f old → CanGo start x route after =
    subst (λ o. IfSome o (λ v. (start : ℕ) → IsMatch start x f old → CanGo start x v after)) c.in-Some.is c.in_ok-known.ensures.known in
    let go : CanGo 0 (plain c.args.send) route m =
    subst (λ (n : KeptNet). CanGo 0 (plain c.args.send) route n) (sym c.self-2.view_is)
    (subst (λ (y : Packet). CanGo 0 y route after) c.packet_of-packet.ensures
    (known 0 classified)) in
    let header : header_on c.args.line (heads_of m.traffic) ≡ Some c.args.send =
    ap (λ (t : KeptTraffic). header_on c.args.line (heads_of t))
    (ap (λ (n : KeptNet). n.traffic) (c.self-2.view_is ∙ c.arrival_ready.ensures.rest) ∙ ap (λ (n : KeptNet). n.traffic) c.self.view_is)
    ∙ c.requires.header in
    c.insert.ensures.known m.book.rules m.table.pipes (heads_of m.traffic) c.self-2.invariant header go.route

pub returns-then-insert-clause-ready : goal.returns-then-insert-clause-ready
returns-then-insert-clause-ready g c =
    let x = c.packet_of-packet.result in
    let f = c.classify_rule-found.result in
    let route = c.in-Some.route in
    let old = c.classify_rule-found.new.self.rules in
    let classified : IsMatch 0 x f old =
    subst (λ (b : RuleBook). IsMatch 0 x f b.rules) (sym c.classify_rule-found.ensures.same)
    (record { verdict = c.classify_rule-found.ensures.verdict; rule = c.classify_rule-found.ensures.rule }) in
    let after = c.arrival_ready.new.self in
    let m = the_view c.self-2.inside in
    let known : (start : ℕ) → IsMatch start x f old → CanGo start x route after =
    subst (λ o. IfSome o (λ v. (start : ℕ) → IsMatch start x f old → CanGo start x v after)) c.in-Some.is c.in_ok-known.ensures.known in
    let go : CanGo 0 (plain c.args.send) route m =
    subst (λ (n : KeptNet). CanGo 0 (plain c.args.send) route n) (sym c.self-2.view_is)
    (subst (λ (y : Packet). CanGo 0 y route after) c.packet_of-packet.ensures
    (known 0 classified)) in
    record { route = route; there = c.if-insert.ensures.there refl; room = go.room }

pub invariant_of-self-2 : goal.invariant_of-self-2
invariant_of-self-2 g c =
    let x = c.packet_of-packet.result in
    let f = c.classify_rule-found.result in
    let route = c.in-Some.route in
    let old = c.classify_rule-found.new.self.rules in
    let classified : IsMatch 0 x f old =
    subst (λ (b : RuleBook). IsMatch 0 x f b.rules) (sym c.classify_rule-found.ensures.same)
    (record { verdict = c.classify_rule-found.ensures.verdict; rule = c.classify_rule-found.ensures.rule }) in
    let after = c.arrival_ready.new.self in
    let m = the_view c.self-2.inside in
    let known : (start : ℕ) → IsMatch start x f old → CanGo start x route after =
    subst (λ o. IfSome o (λ v. (start : ℕ) → IsMatch start x f old → CanGo start x v after)) c.in-Some.is c.in_ok-known.ensures.known in
    let go : CanGo 0 (plain c.args.send) route m =
    subst (λ (n : KeptNet). CanGo 0 (plain c.args.send) route n) (sym c.self-2.view_is)
    (subst (λ (y : Packet). CanGo 0 y route after) c.packet_of-packet.ensures
    (known 0 classified)) in
    let header : header_on c.args.line (heads_of m.traffic) ≡ Some c.args.send =
    ap (λ (t : KeptTraffic). header_on c.args.line (heads_of t))
    (ap (λ (n : KeptNet). n.traffic) (c.self-2.view_is ∙ c.arrival_ready.ensures.rest) ∙ ap (λ (n : KeptNet). n.traffic) c.self.view_is)
    ∙ c.requires.header in
    c.insert.ensures.known m.book.rules m.table.pipes (heads_of m.traffic) c.self-2.invariant header go.route
