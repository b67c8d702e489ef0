use Rattle.std.proofs.Common.{ap, ◌∙◌}
use Rattle.network.specs.Kept.{KeptNet}
use Rattle.network.proofs.InFlight.{front-seen}
use Rattle.emu_model.specs.Delay.{first_item}
use Rattle.network.proofs.state.Network.direct_front.Goals as goal

pub returns : goal.returns
returns g c =
    let p = g.S.Shelf.pocket c.args.shelf.now c.args.owner in
    front-seen p c.args.self.now c.in_ok-key.key c.look.result c.requires (c.in_ok-key.ensures ∙ ap (λ (m : KeptNet). first_item m.direct.line.in_flight) c.self.view_is) c.look.ensures
