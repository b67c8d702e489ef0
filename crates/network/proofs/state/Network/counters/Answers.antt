use Rattle.std.proofs.Common.{◌≡◌, sym, ◌∙◌, subst}
use Rattle.packet_store.specs.Pocket.{Pocket}
use Rattle.network.specs.contracts.state.Network.{the_view}
use Rattle.network.specs.Kept.{KeptNet, net_of, IsHoused}
use Rattle.network.proofs.Arriving.{held-is}
use Rattle.emu_model.specs.Net.{counters_of}
use Rattle.emu_model.specs.declared.records.Counters.{Counters}
use Rattle.network.proofs.state.Network.counters.Goals as goal

pub returns : goal.returns
returns c =
    let n = the_view c.self.inside in
    let r : Counters = record { made = c.self.inside.made; delivered = c.delivered_count.result; held = c.args.held; drops = c.drops.result } in
    subst (λ (m : KeptNet). (p : Pocket) → IsHoused p m → c.args.held ≡ p.count → r ≡ counters_of (net_of p m)) c.self.view_is
    (λ p h e i. record { made = c.self.inside.made; delivered = c.delivered_count.ensures i; held = (e ∙ sym (held-is c.keys_say_all.ensures.packets p n h)) i; drops = c.drops.ensures i })
