use Rattle.std.proofs.Common.{◌≡◌, ℕ, sym, ap, ◌∙◌, subst}
use Rattle.std.specs.Option.{option_map_or}
use Rattle.emu_model.specs.declared.sources.Class.{Class}
use Rattle.emu_model.specs.Net.{Net, find_pipe}
use Rattle.emu_model.specs.Events.{direct_exit, emission, event_of, pipe_exits, pipe_finishes}
use Rattle.packet_store.specs.Pocket.{Pocket}
use Rattle.sources.specs.Kept.{KeptTraffic}
use Rattle.sources.specs.Sends.{IsEmitting}
use Rattle.emu_model.specs.Step.{setting}
use Rattle.network.specs.Kept.{KeptNet, net_of}
use Rattle.network.proofs.Obeying.{event-exit, no-pipe, of-pipe, event-from_still, finish-from_still}
use Rattle.network.proofs.state.Network.event.Goals as goal

pub returns-in_default-clause-ok : goal.returns-in_default-clause-ok
returns-in_default-clause-ok g c =
    let p : Pocket = g.S.Shelf.pocket c.args.shelf.now c.args.owner in
    let k : ℕ = c.args.due.source.number in
    let m : Net = net_of p c.args.self.now in
    let none : k ≡ 0 = no-pipe k (c.requires.due.piped.0 c.in-Exit.is) c.in_default.ensures in
    event-from_still (direct_exit (setting c.args.spec.now c.args.due.moment)) (event_of (setting c.args.spec.now c.args.due.moment) c.args.due.source.class k m) p _ c.args.self.now c.reserve.new.self _ c.direct_exit.result
    (λ i. event_of (setting c.args.spec.now c.args.due.moment) (sym c.in-Exit.is i) (sym none i) m) c.requires.stands.housed c.reserve.ensures.still
    c.direct_exit.ensures.ok

pub returns-in-Some-clause-ok : goal.returns-in-Some-clause-ok
returns-in-Some-clause-ok g c =
    let p : Pocket = g.S.Shelf.pocket c.args.shelf.now c.args.owner in
    let k : ℕ = c.args.due.source.number in
    let m : Net = net_of p c.args.self.now in
    let exits : ℕ → ℕ → Net → Net = λ j i x. option_map_or (pipe_exits (setting c.args.spec.now c.args.due.moment) j i x) (find_pipe j x) x in
    event-from_still (exits c.in-Some.pipe c.instance.result) (event_of (setting c.args.spec.now c.args.due.moment) c.args.due.source.class k m) p _ c.args.self.now c.reserve.new.self _ c.pipe_exit.result
    ((λ i. exits (c.in-Some.ensures.1 i) (c.instance.ensures i) m)
    ∙ sym (event-exit (setting c.args.spec.now c.args.due.moment) k m (of-pipe k c.in-Some.ensures.0.0))
    ∙ ap (λ (cl : Class). event_of (setting c.args.spec.now c.args.due.moment) cl k m) (sym c.in-Exit.is)) c.requires.stands.housed c.reserve.ensures.still
    c.pipe_exit.ensures.ok

pub returns-in-Some-pipe-clause-ok : goal.returns-in-Some-pipe-clause-ok
returns-in-Some-pipe-clause-ok g c =
    let p : Pocket = g.S.Shelf.pocket c.args.shelf.now c.args.owner in
    let k : ℕ = c.args.due.source.number in
    let m : Net = net_of p c.args.self.now in
    let finishes : ℕ → ℕ → Net → Net = λ j i x. option_map_or (pipe_finishes (setting c.args.spec.now c.args.due.moment) j i x) (find_pipe j x) x in
    finish-from_still (finishes c.in-Some-pipe.pipe c.instance-in-Finish.result) (event_of (setting c.args.spec.now c.args.due.moment) c.args.due.source.class k m) p _ c.args.self.now c.reserve.new.self _ c.pipe_finish.result
    ((λ i. finishes (c.in-Some-pipe.ensures.1 i) (c.instance-in-Finish.ensures i) m)
    ∙ ap (λ (cl : Class). event_of (setting c.args.spec.now c.args.due.moment) cl k m) (sym c.in-Finish.is)) c.requires.stands.housed c.reserve.ensures.still
    c.pipe_finish.ensures.ok

pub emission-requires-clause-may : goal.emission-requires-clause-may
emission-requires-clause-may g c =
    subst (λ (t : KeptTraffic). IsEmitting c.in-Some-flow-2.number t) (sym (ap (λ (x : KeptNet). x.traffic) c.reserve.ensures.rest))
    (subst (λ (j : ℕ). IsEmitting j c.args.self.now.traffic) (sym c.in-Some-flow-2.ensures.1) (c.requires.due.allowed c.in-Emission.is))

pub returns-in-Some-flow-2-clause-ok : goal.returns-in-Some-flow-2-clause-ok
returns-in-Some-flow-2-clause-ok g c =
    let p : Pocket = g.S.Shelf.pocket c.args.shelf.now c.args.owner in
    let k : ℕ = c.args.due.source.number in
    let m : Net = net_of p c.args.self.now in
    event-from_still (emission (setting c.args.spec.now c.args.due.moment) c.in-Some-flow-2.number) (event_of (setting c.args.spec.now c.args.due.moment) c.args.due.source.class k m) p _ c.args.self.now c.reserve.new.self _ c.emission.result
    (ap (λ (j : ℕ). emission (setting c.args.spec.now c.args.due.moment) j m) c.in-Some-flow-2.ensures.1
    ∙ ap (λ (cl : Class). event_of (setting c.args.spec.now c.args.due.moment) cl k m) (sym c.in-Emission.is)) c.requires.stands.housed c.reserve.ensures.still
    c.emission.ensures.ok
