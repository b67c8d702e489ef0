use Rattle.std.proofs.Common.{refl, [], ◌∷◌}
use Rattle.std.specs.Option.{option_map_or}
use Rattle.emu_model.specs.declared.records.Record.TheVariants.{TimerExpired}
use Rattle.emu_model.specs.Net.{find_flow}
use Rattle.emu_model.specs.Events.{expire_flow}
use Rattle.emu_model.specs.Step.{setting}
use Rattle.network.specs.contracts.state.Network.{the_view}
use Rattle.network.proofs.Steps.{turns_view}
use Rattle.network.proofs.Sources.{traffic-noted, traffic-turned}
use Rattle.network.proofs.state.Network.expire.Goals as goal

pub returns-in-Some-clause-turns : goal.returns-in-Some-clause-turns
returns-in-Some-clause-turns c =
    turns_view (λ n. option_map_or (expire_flow (setting c.args.spec.now c.args.now) n) (find_flow c.args.flow n) n) _ _ _ c.self.view_is
    (traffic-noted (λ n. option_map_or (expire_flow (setting c.args.spec.now c.args.now) n) (find_flow c.args.flow n) n) (the_view c.self.inside) c.note.new.self c.expire-answer.new.self
    (TimerExpired c.args.now c.args.flow c.in-Some.window.cwnd c.in-Some.window.ssthresh ∷ []) (λ m. c.in-Some.ensures.expired (setting c.args.spec.now c.args.now) m refl) c.note.ensures)

pub returns-in_default-clause-turns : goal.returns-in_default-clause-turns
returns-in_default-clause-turns c =
    turns_view (λ n. option_map_or (expire_flow (setting c.args.spec.now c.args.now) n) (find_flow c.args.flow n) n) _ _ _ c.self.view_is
    (traffic-turned (λ n. option_map_or (expire_flow (setting c.args.spec.now c.args.now) n) (find_flow c.args.flow n) n) (the_view c.self.inside) c.expire-answer.new.self (λ m. c.in_default.ensures.expired (setting c.args.spec.now c.args.now) m refl))
