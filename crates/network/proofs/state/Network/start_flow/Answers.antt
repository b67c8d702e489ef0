use Rattle.std.proofs.Common.{sym, ap, ◌∙◌}
use Rattle.emu_model.specs.declared.commands.Command.TheVariants.{Flow}
use Rattle.emu_model.specs.Step.{setting}
use Rattle.network.specs.contracts.state.Network.{the_view}
use Rattle.network.specs.Kept.{KeptNet, net_of}
use Rattle.network.proofs.Steps.{obeys_view}
use Rattle.network.proofs.Obeying.{none-there, refuse-obeys, traffic-done}
use Rattle.emu_model.specs.Commands.{source_refusal}
use Rattle.network.proofs.state.Network.start_flow.Goals as goal

pub returns-in-Some-clause-ok : goal.returns-in-Some-clause-ok
returns-in-Some-clause-ok c =
    refuse-obeys (setting c.args.spec.now c.args.now) c.args.number (Flow c.args.source c.args.flow.now) c.in-Some.reason c.args.self.now _
    (λ p. ap (λ (m : KeptNet). source_refusal c.args.source (net_of p m)) (sym c.self.view_is) ∙ sym (c.in-Some.ensures.refusal (net_of p (the_view c.self.inside)))) c.refuse.ensures

pub returns-clause-ok : goal.returns-clause-ok
returns-clause-ok c =
    obeys_view (setting c.args.spec.now c.args.now) c.args.number (Flow c.args.source c.args.flow.now) (the_view c.self.inside) _ _ c.self.view_is
    (traffic-done (setting c.args.spec.now c.args.now) c.args.number (the_view c.self.inside) _ (Flow c.args.source c.args.flow.now) c.start_flow.new.self (λ p. sym (c.in_default.ensures.refusal (net_of p (the_view c.self.inside)))) c.in_ok-start_flow.ensures.ok c.note_done.ensures)

pub returns-in_err-start_flow-clause-succeeds : goal.returns-in_err-start_flow-clause-succeeds
returns-in_err-start_flow-clause-succeeds c = λ p some.
    absurd (none-there (source_refusal c.args.source (net_of p c.args.self.now))
    (ap (λ v. source_refusal c.args.source (net_of p v)) (sym c.self.view_is) ∙ sym (c.in_default.ensures.refusal (net_of p (the_view c.self.inside)))) some)
