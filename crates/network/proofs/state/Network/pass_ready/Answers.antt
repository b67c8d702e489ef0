use Rattle.std.proofs.Common.{◌≡◌, ℕ, sym, ap, subst}
use Rattle.std.specs.Prelude.{IfSome}
use Rattle.emu_model.specs.Rules.{RuleBook, start_behind}
use Rattle.network.specs.Kept.{KeptNet}
use Rattle.network.specs.Ready.{IsMatch, IsReady, CanGo, CanPass, start_after}
use Rattle.network.proofs.Sources.{if_ok_two}
use Rattle.network.proofs.Arriving.{can-pass}
use Rattle.network.proofs.state.Network.pass_ready.Goals as goal

pub returns-clause-pass : goal.returns-clause-pass
returns-clause-pass g c =
    let x = c.args.packet.now in
    let f = c.classify_rule_after-found.result in
    let before = c.classify_rule_after-found.new.self in
    let start = start_behind x.place before.rules in
    let classified : IsMatch start x f before.rules =
    subst (λ (b : RuleBook). IsMatch (start_behind x.place b.rules) x f b.rules) (sym c.classify_rule_after-found.ensures.same)
    (record { verdict = c.classify_rule_after-found.ensures.verdict; rule = c.classify_rule_after-found.ensures.rule }) in
    let after = c.arrival_ready.new.self in
    let book : after.book ≡ before = ap (λ (z : KeptNet). z.book) c.arrival_ready.ensures.rest in
    if_ok_two (IsReady f.verdict x after) (λ known. IfSome known (λ w. (s : ℕ) → IsMatch s x f before.rules → CanGo s x w after))
    (λ known. CanPass (start_after x after) x known after) c.arrival_ready.result
    (λ known ready go. subst (λ (b : RuleBook). CanPass (start_behind x.place b.rules) x known after) (sym book)
    (can-pass start x f known before after book classified ready go))
    c.arrival_ready.ensures.ready c.arrival_ready.ensures.known
