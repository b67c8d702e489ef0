use Rattle.emu_model.specs.Net.{to_direct as comes_to_direct}
use Rattle.network.specs.Kept.{net_of, IsHoused}
use Rattle.network.specs.contracts.state.Network.{the_view}
use Rattle.network.proofs.Steps.{at_view, from_view}
use Rattle.network.proofs.Arriving.{enters}
use Rattle.network.proofs.state.Network.to_direct.Goals as goal

pub returns-clause-becomes : goal.returns-clause-becomes
returns-clause-becomes g c =
    let p = g.S.Shelf.pocket c.args.shelf.now c.args.owner in
    from_view 0 (λ n. comes_to_direct c.args.now c.args.packet.now (net_of p n)) p _ _ _ _ c.self.view_is
    (enters c.keys_say_all.ensures.agree p _ (the_view c.self.inside) c.in-Ok.key c.args.now c.no_delay.result c.args.packet.now c.enter.new.self
    (at_view (IsHoused p) _ _ c.self.view_is c.requires.housed)
    c.in-Ok.ensures.vacant c.in-Ok.ensures.ok c.no_delay.ensures c.in-Ok-enter.ensures.ok)
