use Rattle.std.proofs.Common.{◌≡◌, length, position, None, false, sym, ap, ◌∙◌, arith}
use Rattle.std.specs.Prelude.{unwrap_or, Result, Ok, Err, IsOk}
use Rattle.std.specs.List.{list_any}
use Rattle.emu_model.specs.FlowIds.{flow_id, same_flow}
use Rattle.pipe_core.specs.declared.pipe.TheConstants.{NO_INSTANCE}
use Rattle.pipe_core.specs.Keyed.{KeyedPipe, ids_of}
use Rattle.pipe_core.proofs.MaskFacts.{no-any, instance-found, room-found}
use Rattle.std.proofs.lemmas.List.{length-map}
use Rattle.pipe_core.specs.declared.slot.Slot.{Slot}
use Rattle.pipe_core.proofs.Makings.{known}
use Rattle.pipe_core.proofs.Growths.{room_new}
use Rattle.pipe_core.proofs.pipe.Pipe.route_ready.Goals as goal

err-not : {T E A : Type 0} (r : Result T E) (e : E) → r ≡ Err e → IsOk r → A
err-not (Ok t) e is ok = absurd (cc)
err-not (Err f) e is ok = absurd (cc)

pub returns-in_default-clause-ready : goal.returns-in_default-clause-ready
returns-in_default-clause-ready g c =
    let old : KeyedPipe = c.args.self.now in
    let new : KeyedPipe = c.make_ready.new.self in
    let mask = ap (λ (z : KeyedPipe). z.config.mask) c.make_ready.ensures.same in
    let ids : ids_of new.slots ≡ ids_of old.slots = ap (λ (z : KeyedPipe). ids_of z.slots) c.make_ready.ensures.same in
    let none : None ≡ position (same_flow (flow_id old.config.mask c.args.packet.now)) (ids_of old.slots) = c.in_default.ensures in
    let id : c.apply-id.result ≡ flow_id old.config.mask c.args.packet.now =
    c.apply-id.ensures ∙ ap (λ (z : KeyedPipe). flow_id z.config.mask c.args.packet.now) c.self.view_is in
    let unknown : list_any (same_flow c.apply-id.result) (ids_of old.slots) ≡ false =
    ap (λ i. list_any (same_flow i) (ids_of old.slots)) id ∙ no-any _ (ids_of old.slots) none in
    let many : length new.slots ≡ length old.slots = ap (λ (z : KeyedPipe). length z.slots) c.make_ready.ensures.same in
    room_new c.args.packet.now new
    ((λ t. position (same_flow (flow_id (mask t) c.args.packet.now)) (ids t)) ∙ sym none)
    (λ few. c.in_ok-make_ready.ensures.ready unknown (omega (arith, few, many)))

pub returns-in_default-clause-place : goal.returns-in_default-clause-place
returns-in_default-clause-place g c = ap (λ o. unwrap_or o NO_INSTANCE) c.in_default.ensures

pub returns-clause-place : goal.returns-clause-place
returns-clause-place g c = ap (λ o. unwrap_or o NO_INSTANCE) c.in-Some.ensures

pub returns-clause-known : goal.returns-clause-known
returns-clause-known g c = λ there.
    instance-found c.args.packet.now c.args.self.now c.accept_ready.new.self c.in-Some.instance c.in-Some.ensures
    c.accept_ready.ensures.ids (ap (λ (z : KeyedPipe). z.config.mask) c.accept_ready.ensures.grown.same)
    c.in_ok-accept_ready.ensures.ready

pub returns-clause-ready : goal.returns-clause-ready
returns-clause-ready g c =
    room-found c.args.packet.now c.accept_ready.new.self c.in-Some.instance
    (instance-found c.args.packet.now c.args.self.now c.accept_ready.new.self c.in-Some.instance c.in-Some.ensures
    c.accept_ready.ensures.ids (ap (λ (z : KeyedPipe). z.config.mask) c.accept_ready.ensures.grown.same)
    c.in_ok-accept_ready.ensures.ready)

pub accept_ready-requires : goal.accept_ready-requires
accept_ready-requires g c =
    let at = known (ids_of c.args.self.now.slots) (flow_id c.args.self.now.config.mask c.args.packet.now) c.in-Some.instance (sym c.in-Some.ensures) in
    omega (arith, at.1, length-map c.args.self.now.slots (λ (t : Slot). t.id))

pub returns-in_err-accept_ready-clause-succeeds : goal.returns-in_err-accept_ready-clause-succeeds
returns-in_err-accept_ready-clause-succeeds g c = λ room has.
    let at = known (ids_of c.args.self.now.slots) (flow_id c.args.self.now.config.mask c.args.packet.now) c.in-Some.instance (sym c.in-Some.ensures) in
    let fine = c.accept_ready.ensures.succeeds (has.there c.in-Some.instance at.0) in
    err-not c.accept_ready.result _ c.in_err-accept_ready.was fine
