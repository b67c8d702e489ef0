use Rattle.std.proofs.Common.{sym, ◌∙◌}
use Rattle.emu_model.specs.declared.packets.Packet.{Packet}
use Rattle.network.specs.declared.flow_cache.Lookup.TheVariants.{Searched}
use Rattle.network.specs.Ready.{CanDeliver}
use Rattle.network.proofs.Sources.{if_ok, only_one, none_there}
use Rattle.network.proofs.state.Network.direct_ready.Goals as goal

pub returns-in_default-clause-ready : goal.returns-in_default-clause-ready
returns-in_default-clause-ready g c =
    none_there (λ (x : Packet). CanDeliver x.load Searched c.args.self.now) _ (sym c.in_default.is ∙ c.direct_front.ensures)

pub returns-clause-ready : goal.returns-clause-ready
returns-clause-ready g c =
    if_ok (λ lookup. CanDeliver c.in-Some.packet.load lookup c.deliver_ready.new.self) _ c.deliver_ready.result
    (λ lookup. only_one (λ (x : Packet). CanDeliver x.load lookup c.deliver_ready.new.self) c.in-Some.packet _ c.in-Some.ensures) c.deliver_ready.ensures.ready
