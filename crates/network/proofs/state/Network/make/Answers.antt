use Rattle.emu_model.specs.Net.{load_by, make as made_of}
use Rattle.emu_model.specs.Step.{setting}
use Rattle.network.specs.Kept.{KeptNet, net_of, Stands}
use Rattle.network.specs.declared.flow_cache.Lookup.{Lookup}
use Rattle.network.specs.Ready.{HasRoute, CanGo, CanMake}
use Rattle.std.proofs.Common.{refl, sym, subst}
use Rattle.network.specs.contracts.state.Network.{the_view}
use Rattle.network.proofs.Steps.{at_view, from_view}
use Rattle.std.proofs.Common.{arith}
use Rattle.network.proofs.AsReady.{IsRoomy, roomy-same}
use Rattle.network.proofs.Arriving.{packet-ready, packet-known, on-line, made-passes, made-dropped}
use Rattle.network.proofs.state.Network.make.Goals as goal

pub pass_by_route-requires-clause-ready : goal.pass_by_route-requires-clause-ready
pass_by_route-requires-clause-ready g c =
    let n = the_view c.self.inside in
    let m = the_view c.self-in-Cached.inside in
    let x = c.packet_of-packet.result in
    let line = c.in-Cached.line in
    let held = c.in-Some.held.now in
    let known : HasRoute x line c.note_made.new.self =
    packet-known (load_by c.args.sending.now.origin) c.args.sending.now.send c.self.inside.made line x n c.note_made.new.self
    (subst (λ (o : KeptNet). IsRoomy n o) (sym c.note_made.ensures.rest) (roomy-same n _ refl (omega arith) refl refl)) c.packet_of-packet.ensures
    (subst (λ (w : Lookup). CanMake c.args.sending.now.send w n) c.in-Cached.is
    (at_view (CanMake c.args.sending.now.send c.args.lookup.now) _ _ c.self.view_is c.requires.ready)) in
    let go : CanGo 0 x held.route m =
    on-line x line held m c.self-in-Cached.invariant (at_view (HasRoute x line) m _ c.self-in-Cached.view_is known) c.in-Some.ensures.some in
    (0, subst (λ (o : KeptNet). CanGo 0 x held.route o) c.self-in-Cached.view_is go)

pub pass_rules-requires-clause-ready : goal.pass_rules-requires-clause-ready
pass_rules-requires-clause-ready g c =
    let n = the_view c.self.inside in
    packet-ready (load_by c.args.sending.now.origin) c.args.sending.now.send c.self.inside.made c.packet_of-packet.result n c.note_made.new.self
    (subst (λ (m : KeptNet). IsRoomy n m) (sym c.note_made.ensures.rest) (roomy-same n _ refl (omega arith) refl refl)) c.packet_of-packet.ensures
    (subst (λ (w : Lookup). CanMake c.args.sending.now.send w n) c.in-Searched.is
    (at_view (CanMake c.args.sending.now.send c.args.lookup.now) _ _ c.self.view_is c.requires.ready))

pub returns-in-Some-clause-becomes : goal.returns-in-Some-clause-becomes
returns-in-Some-clause-becomes g c =
    let p = g.S.Shelf.pocket c.args.shelf.now c.args.owner in
    let n = the_view c.self.inside in
    let m = the_view c.self-in-Cached.inside in
    let x = c.packet_of-packet.result in
    let line = c.in-Cached.line in
    let held = c.in-Some.held.now in
    let stands : Stands (setting c.args.spec.now c.args.now) p n = at_view (Stands (setting c.args.spec.now c.args.now) p) _ _ c.self.view_is c.requires.stands in
    let known : HasRoute x line c.note_made.new.self =
    packet-known (load_by c.args.sending.now.origin) c.args.sending.now.send c.self.inside.made line x n c.note_made.new.self
    (subst (λ (o : KeptNet). IsRoomy n o) (sym c.note_made.ensures.rest) (roomy-same n _ refl (omega arith) refl refl)) c.packet_of-packet.ensures
    (subst (λ (w : Lookup). CanMake c.args.sending.now.send w n) c.in-Cached.is
    (at_view (CanMake c.args.sending.now.send c.args.lookup.now) _ _ c.self.view_is c.requires.ready)) in
    let go : CanGo 0 x held.route m =
    on-line x line held m c.self-in-Cached.invariant (at_view (HasRoute x line) m _ c.self-in-Cached.view_is known) c.in-Some.ensures.some in
    from_view 1 (λ m. made_of (setting c.args.spec.now c.args.now) c.args.sending.now.origin c.args.sending.now.send (net_of p m)) p _ _ _ _ c.self.view_is
    (made-passes c.keys_say_all.ensures.packets (setting c.args.spec.now c.args.now) p n c.args.sending.now.origin c.args.sending.now.send x
    stands.housed c.packet_of-packet.ensures _ _ _ c.note_made.ensures
    (omega (arith, c.if-count-get.false, c.count.ensures.value, c.get.ensures.value))
    (c.pass_by_route.ensures.becomes 0 (subst (λ (o : KeptNet). CanGo 0 x held.route o) c.self-in-Cached.view_is go)))

pub returns-in-Searched-clause-becomes : goal.returns-in-Searched-clause-becomes
returns-in-Searched-clause-becomes g c =
    let p = g.S.Shelf.pocket c.args.shelf.now c.args.owner in
    let n = the_view c.self.inside in
    let stands : Stands (setting c.args.spec.now c.args.now) p n = at_view (Stands (setting c.args.spec.now c.args.now) p) _ _ c.self.view_is c.requires.stands in
    from_view 1 (λ m. made_of (setting c.args.spec.now c.args.now) c.args.sending.now.origin c.args.sending.now.send (net_of p m)) p _ _ _ _ c.self.view_is
    (made-passes c.keys_say_all.ensures.packets (setting c.args.spec.now c.args.now) p n c.args.sending.now.origin c.args.sending.now.send c.packet_of-packet.result
    stands.housed c.packet_of-packet.ensures _ _ _ c.note_made.ensures
    (omega (arith, c.if-count-get.false, c.count.ensures.value, c.get.ensures.value)) c.pass_rules.ensures.becomes)

pub returns-then-count-get-clause-becomes : goal.returns-then-count-get-clause-becomes
returns-then-count-get-clause-becomes g c =
    let p = g.S.Shelf.pocket c.args.shelf.now c.args.owner in
    let n = the_view c.self.inside in
    let stands : Stands (setting c.args.spec.now c.args.now) p n = at_view (Stands (setting c.args.spec.now c.args.now) p) _ _ c.self.view_is c.requires.stands in
    from_view 1 (λ m. made_of (setting c.args.spec.now c.args.now) c.args.sending.now.origin c.args.sending.now.send (net_of p m)) p _ _ _ _ c.self.view_is
    (made-dropped c.keys_say_all.ensures.packets (setting c.args.spec.now c.args.now) p n c.args.sending.now.origin c.args.sending.now.send c.packet_of-packet.result
    stands.housed c.packet_of-packet.ensures _ _ c.note_made.ensures
    (omega (arith, c.if-count-get.true, c.count.ensures.value, c.get.ensures.value)) c.drop_packet.ensures)
