use Rattle.pipe_table.proofs.CallerLemmas.{route-inside}
use Rattle.network.specs.FlowCache.{IsRoute, plain}
use Rattle.network.proofs.state.Network.make_ready.Goals as goal

pub accept_ready_at-requires : goal.accept_ready_at-requires
accept_ready_at-requires g c =
    let s = c.self.inside in
    let held = c.in-Some.held.now in
    let known : IsRoute 0 (plain held.send) held.route s.book.rules s.table.pipes = c.self.invariant.each c.args.line held c.in-Some.ensures.some in
    route-inside held.route.number (plain held.send) held.route.pipe held.route.instance s.table.pipes known.routed
