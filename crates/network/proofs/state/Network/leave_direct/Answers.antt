use Rattle.network.specs.contracts.state.Network.{the_view}
use Rattle.network.specs.Kept.{net_of, IsHoused}
use Rattle.network.proofs.Steps.{at_view, from_view}
use Rattle.network.proofs.InFlight.{front-missing, direct-left}
use Rattle.emu_model.specs.Delay.{leave}
use Rattle.network.proofs.state.Network.leave_direct.Goals as goal

pub unreachable_unchecked-unreachable-requires : goal.unreachable_unchecked-unreachable-requires
unreachable_unchecked-unreachable-requires g c =
    let p = g.S.Shelf.pocket c.args.shelf.now c.args.owner in
    let n = the_view c.self.inside in
    front-missing p n c.in_ok-key.key (at_view (IsHoused p) n _ c.self.view_is c.requires) c.in_ok-key.ensures.item c.in_default.ensures.value

pub returns-clause-becomes : goal.returns-clause-becomes
returns-clause-becomes g c =
    let p = g.S.Shelf.pocket c.args.shelf.now c.args.owner in
    let n = the_view c.self.inside in
    from_view 0 (λ n. record (net_of p n) { direct = leave (net_of p n).direct }) p _ n _ _ c.self.view_is
    (direct-left c.keys_say_all.ensures.agree p _ n c.in_ok-key.key c.in-Some.packet c.leave.new.self (at_view (IsHoused p) n _ c.self.view_is c.requires)
    c.in_ok-key.ensures.item c.in-Some.ensures.value c.in-Some.ensures.some c.leave.ensures.line)
