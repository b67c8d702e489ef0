use Rattle.std.proofs.Common.{◌≡◌, refl, sym, ap, ◌∙◌, subst, arith, Some}
use Rattle.emu_model.specs.declared.sources.SendSpec.{SendSpec}
use Rattle.emu_model.specs.Events.{emission}
use Rattle.sources.specs.Kept.{KeptTraffic, with_traffic}
use Rattle.sources.specs.Sends.{IsEmitting, next_send}
use Rattle.sources.specs.Standing.{source_place, heads_of, send_at}
use Rattle.emu_model.specs.Step.{setting}
use Rattle.network.specs.contracts.state.Network.{the_view}
use Rattle.network.specs.Kept.{KeptNet, net_of}
use Rattle.network.specs.Ready.{CanMake}
use Rattle.network.proofs.Steps.{still-refl}
use Rattle.network.proofs.InFlight.{sent-one, sent-none}
use Rattle.network.proofs.Readied.{readied, from_readied}
use Rattle.network.proofs.AsReady.{as-make, roomy-same}
use Rattle.network.proofs.state.Network.emission.Goals as goal

pub returns-in_default-clause-ok : goal.returns-in_default-clause-ok
returns-in_default-clause-ok g c =
    let p = g.S.Shelf.pocket c.put_ready.new.self c.args.owner in
    let old = c.args.self.now in
    let r = readied c.requires.stands.housed (still-refl old) (c.put_ready.ensures.pockets c.args.owner) refl in
    let same : c.self.inside.traffic ≡ old.traffic = ap (λ (m : KeptNet). m.traffic) c.self.view_is in
    from_readied r (emission (setting c.args.spec.now c.args.now) c.args.source) 1 p old
    (sent-none (emission (setting c.args.spec.now c.args.now) c.args.source) p old old.traffic r.housed
    (λ m. subst (λ (t : KeptTraffic). emission (setting c.args.spec.now c.args.now) c.args.source (with_traffic t m) ≡ with_traffic t m) same (c.in_default.ensures.still (setting c.args.spec.now c.args.now) m)))

pub emit_at-origin-requires-clause-may : goal.emit_at-origin-requires-clause-may
emit_at-origin-requires-clause-may g c =
    let first : c.self.inside.traffic ≡ c.args.self.now.traffic = ap (λ (m : KeptNet). m.traffic) c.self.view_is in
    let tr : c.self-2.inside.traffic ≡ c.args.self.now.traffic = ap (λ (m : KeptNet). m.traffic) c.self-2.view_is ∙ ap (λ (m : KeptNet). m.traffic) c.make_ready.ensures.rest in
    record {
      number = c.args.source;
      place = ap (source_place c.args.source) (tr ∙ sym first) ∙ sym c.find.ensures.place ∙ c.in-Some.is;
      may = subst (λ (t : KeptTraffic). IsEmitting c.args.source t) (sym tr) c.requires.may;
    }

pub make-requires-clause-ready : goal.make-requires-clause-ready
make-requires-clause-ready g c =
    let n = the_view c.self-2.inside in
    let send : SendSpec = c.header_at-send.result in
    as-make n (record n { traffic = c.emit_at-origin.new.self }) (roomy-same n _ refl (omega arith) refl refl) send c.in_ok-lookup.lookup
    (subst (λ (m : KeptNet). CanMake send c.in_ok-lookup.lookup m) (sym c.self-2.view_is) c.in_ok-lookup.ensures.ready)

pub returns-clause-ok : goal.returns-clause-ok
returns-clause-ok g c =
    let p = g.S.Shelf.pocket c.make_ready.new.shelf c.args.owner in
    let n = the_view c.self-2.inside in
    let first : c.self.inside.traffic ≡ c.args.self.now.traffic = ap (λ (m : KeptNet). m.traffic) c.self.view_is in
    let tr : c.self-2.inside.traffic ≡ c.args.self.now.traffic = ap (λ (m : KeptNet). m.traffic) c.self-2.view_is ∙ ap (λ (m : KeptNet). m.traffic) c.make_ready.ensures.rest in
    let before : source_place c.args.source c.self.inside.traffic ≡ Some c.in-Some.found = sym c.find.ensures.place ∙ c.in-Some.is in
    let there : source_place c.args.source c.self-2.inside.traffic ≡ Some c.in-Some.found = ap (source_place c.args.source) (tr ∙ sym first) ∙ before in
    let sends : next_send c.args.source (with_traffic c.self-2.inside.traffic (net_of p n)) ≡ Some c.header_at-send.result =
    ap (λ (t : KeptTraffic). next_send c.args.source (with_traffic t (net_of p n))) (tr ∙ sym first) ∙ c.header_at-send.ensures c.args.source (net_of p n) before in
    let r = readied c.requires.stands.housed c.make_ready.ensures.still (c.make_ready.ensures.pockets c.args.owner ∙ c.put_ready.ensures.pockets c.args.owner) c.self-2.view_is in
    from_readied r (emission (setting c.args.spec.now c.args.now) c.args.source) 1 _ _
    (sent-one (emission (setting c.args.spec.now c.args.now) c.args.source) p n c.emit_at-origin.new.self _ c.make.new.self _
    (c.emit_at-origin.ensures.emission (setting c.args.spec.now c.args.now) c.args.source (net_of p n) c.header_at-send.result refl there sends) c.make.ensures.becomes)

pub make_ready-requires-clause-header : goal.make_ready-requires-clause-header
make_ready-requires-clause-header g c =
    let p = g.S.Shelf.pocket c.put_ready.new.self c.args.owner in
    let n = net_of p c.args.self.now in
    let t : KeptTraffic = c.self.inside.traffic in
    let first : t ≡ c.args.self.now.traffic = ap (λ (m : KeptNet). m.traffic) c.self.view_is in
    let before : source_place c.args.source t ≡ Some c.in-Some.found = sym c.find.ensures.place ∙ c.in-Some.is in
    let sends : send_at c.in-Some.found (heads_of t) ≡ Some c.header_at-send.result =
    sym (c.in-Some.ensures.header n) ∙ c.header_at-send.ensures c.args.source n before in
    c.line_of.ensures.header (heads_of c.args.self.now.traffic)
    ∙ ap (λ (u : KeptTraffic). send_at c.in-Some.found (heads_of u)) (sym first) ∙ sends
