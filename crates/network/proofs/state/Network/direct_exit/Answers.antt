use Rattle.std.proofs.Common.{sym, ap, ◌∙◌}
use Rattle.emu_model.specs.Net.{Net}
use Rattle.packet_store.specs.Pocket.{Pocket}
use Rattle.network.specs.Kept.{net_of}
use Rattle.network.proofs.AsReady.{as-deliver, direct-as-ready}
use Rattle.emu_model.specs.Delay.{first_item}
use Rattle.network.proofs.state.Network.direct_exit.Goals as goal

pub deliver-requires-clause-ready : goal.deliver-requires-clause-ready
deliver-requires-clause-ready g c =
    let p = g.S.Shelf.pocket c.args.shelf.now c.args.owner in
    let n = c.direct_ready.new.self in
    as-deliver n c.leave_direct.new.self (direct-as-ready n c.leave_direct.new.self c.leave_direct.ensures.rest c.leave_direct.ensures.spare) c.in-Some.packet.load c.in_ok-lookup.lookup
    (c.in_ok-lookup.ensures.ready c.in-Some.packet
    (ap (λ (m : Net). first_item m.direct.in_flight) (sym (c.direct_ready.ensures.still.shown p))
    ∙ ap (λ (x : Pocket). first_item (net_of x n).direct.in_flight) (sym (c.direct_ready.ensures.pockets c.args.owner)) ∙ sym c.in-Some.ensures.packet))
