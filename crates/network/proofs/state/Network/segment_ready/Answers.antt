use Rattle.std.proofs.Common.{sym, ap, ◌∙◌}
use Rattle.std.specs.Prelude.{option_map}
use Rattle.sources.specs.Standing.{heads_of}
use Rattle.emu_model.specs.declared.packets.Load.TheVariants.{Seg}
use Rattle.network.specs.contracts.state.Network.{the_view}
use Rattle.network.specs.Kept.{KeptNet}
use Rattle.network.specs.declared.flow_cache.Lookup.TheVariants.{Searched}
use Rattle.network.specs.Ready.{CanMake, CanDeliver}
use Rattle.network.proofs.Steps.{still_view, still-then}
use Rattle.network.proofs.Sources.{if_ok, traffic-still, can-segment, can-nothing}
use Rattle.network.proofs.state.Network.segment_ready.Goals as goal

pub returns-in_err-take_ready-clause-still : goal.returns-in_err-take_ready-clause-still
returns-in_err-take_ready-clause-still g c =
    still_view _ _ _ c.self.view_is (traffic-still (the_view c.self.inside) c.take_ready.new.self c.take_ready.ensures.same)

pub returns-in_default-clause-still : goal.returns-in_default-clause-still
returns-in_default-clause-still g c =
    still_view _ _ _ c.self.view_is (traffic-still (the_view c.self.inside) c.take_ready.new.self c.take_ready.ensures.same)

pub returns-in_default-clause-ready : goal.returns-in_default-clause-ready
returns-in_default-clause-ready g c =
    can-nothing c.args.flow c.args.first Searched (record (the_view c.self.inside) { traffic = c.take_ready.new.self }) c.in_ok-take_ready.ensures.ready (λ m. ap (option_map (λ r. r.1)) (sym c.in_default.is) ∙ c.reply.ensures.header m)

pub returns-clause-still : goal.returns-clause-still
returns-clause-still g c =
    still_view _ _ _ c.self.view_is (still-then (the_view c.self.inside) _ _ (traffic-still (the_view c.self.inside) c.take_ready.new.self c.take_ready.ensures.same) c.make_ready.ensures.still)

pub returns-clause-ready : goal.returns-clause-ready
returns-clause-ready g c =
    if_ok (λ lookup. CanMake c.in-Some.send lookup c.make_ready.new.self) (λ lookup. CanDeliver (Seg c.args.flow c.args.first) lookup c.make_ready.new.self) c.make_ready.result
    (λ lookup. can-segment c.args.flow c.args.first c.in-Some.send lookup c.make_ready.new.self c.take_ready.new.self (ap (λ (m : KeptNet). m.traffic) c.make_ready.ensures.rest)
    c.in_ok-take_ready.ensures.ready c.in-Some.ensures.header) c.make_ready.ensures.ready

pub make_ready-requires-clause-header : goal.make_ready-requires-clause-header
make_ready-requires-clause-header g c =
    c.reply_line_of.ensures.header (heads_of c.take_ready.new.self) ∙ c.in-Some.ensures.place.1
