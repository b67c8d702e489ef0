use Rattle.std.proofs.Common.{◌≡◌, sym, ap, ◌∙◌, arith, Some, None}
use Rattle.emu_model.specs.declared.commands.Command.TheVariants.{Stop}
use Rattle.emu_model.specs.Net.{find_flow}
use Rattle.emu_model.specs.Step.{setting}
use Rattle.network.specs.contracts.state.Network.{the_view}
use Rattle.network.specs.Kept.{KeptNet, net_of}
use Rattle.network.proofs.Steps.{obeys_view}
use Rattle.network.proofs.Obeying.{refuse-obeys, traffic-done}
use Rattle.std.proofs.Common.{Bool, true, false, cond}
use Rattle.std.specs.Prelude.{is_some}
use Rattle.emu_model.specs.declared.records.Refusal.TheVariants.{NoFlow}
use Rattle.network.proofs.state.Network.stop.Goals as goal

pub returns-then-not-has_flow-clause-ok : goal.returns-then-not-has_flow-clause-ok
returns-then-not-has_flow-clause-ok c =
    let e : c.has_flow.result ≡ false = grind arith in
    refuse-obeys (setting c.args.spec.now c.args.now) c.args.number (Stop c.args.flow) NoFlow c.args.self.now _
    (λ p. ap (λ (m : KeptNet). cond (is_some (find_flow c.args.flow (net_of p m))) None (Some NoFlow)) (sym c.self.view_is)
    ∙ ap (λ (b : Bool). cond b None (Some NoFlow)) (sym (c.has_flow.ensures (net_of p (the_view c.self.inside))) ∙ e)) c.refuse.ensures

pub returns-clause-ok : goal.returns-clause-ok
returns-clause-ok c =
    let e : c.has_flow.result ≡ true = grind arith in
    obeys_view (setting c.args.spec.now c.args.now) c.args.number (Stop c.args.flow) (the_view c.self.inside) _ _ c.self.view_is
    (traffic-done (setting c.args.spec.now c.args.now) c.args.number (the_view c.self.inside) _ (Stop c.args.flow) c.stop.new.self (λ p. ap (λ (b : Bool). cond b None (Some NoFlow)) (sym (c.has_flow.ensures (net_of p (the_view c.self.inside))) ∙ e)) (λ m. c.stop.ensures m) c.note_done.ensures)
