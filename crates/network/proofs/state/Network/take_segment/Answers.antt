use Rattle.std.proofs.Common.{refl, sym, arith}
use Rattle.emu_model.specs.declared.packets.Load.TheVariants.{Seg}
use Rattle.emu_model.specs.Net.{take_load}
use Rattle.emu_model.specs.Step.{setting}
use Rattle.network.specs.contracts.state.Network.{the_view}
use Rattle.network.specs.Kept.{net_of, Stands}
use Rattle.network.specs.Ready.{CanDeliver}
use Rattle.network.proofs.AsReady.{as-make, roomy-same}
use Rattle.network.proofs.Steps.{at_view, from_view}
use Rattle.network.proofs.InFlight.{sent-one, sent-none}
use Rattle.network.proofs.state.Network.take_segment.Goals as goal

pub make-requires-clause-ready : goal.make-requires-clause-ready
make-requires-clause-ready g c =
    let n = the_view c.self.inside in
    let send = c.in-Some.sending.send in
    as-make n (record n { traffic = c.take-answer.new.self }) (roomy-same n _ refl (omega arith) refl refl) send c.args.lookup.now
    ((at_view (CanDeliver (Seg c.args.flow c.args.first) c.args.lookup.now) n _ c.self.view_is c.requires.ready).1 send (λ m. sym (c.in-Some.ensures.header m)))

pub returns-in-Some-clause-becomes : goal.returns-in-Some-clause-becomes
returns-in-Some-clause-becomes g c =
    let p = g.S.Shelf.pocket c.args.shelf.now c.args.owner in
    let n = the_view c.self.inside in
    from_view 1 (λ m. take_load (setting c.args.spec.now c.args.now) (Seg c.args.flow c.args.first) (net_of p m)) p _ n _ _ c.self.view_is
    (sent-one (λ m. take_load (setting c.args.spec.now c.args.now) (Seg c.args.flow c.args.first) m) p n c.take-answer.new.self _ c.make.new.self _ (c.in-Some.ensures.taken (setting c.args.spec.now c.args.now) (net_of p n)) c.make.ensures.becomes)

pub returns-in_default-clause-becomes : goal.returns-in_default-clause-becomes
returns-in_default-clause-becomes g c =
    let p = g.S.Shelf.pocket c.args.shelf.now c.args.owner in
    let n = the_view c.self.inside in
    from_view 1 (λ m. take_load (setting c.args.spec.now c.args.now) (Seg c.args.flow c.args.first) (net_of p m)) p _ n _ _ c.self.view_is
    (sent-none (λ m. take_load (setting c.args.spec.now c.args.now) (Seg c.args.flow c.args.first) m) p n c.take-answer.new.self (at_view (Stands (setting c.args.spec.now c.args.now) p) n _ c.self.view_is c.requires.stands).housed (λ m. c.in_default.ensures.taken (setting c.args.spec.now c.args.now) m))
