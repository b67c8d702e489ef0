use Rattle.sources.specs.Standing.{heads_of}
use Rattle.std.proofs.Common.{sym, subst}
use Rattle.emu_model.specs.Rules.{RuleBook, start_behind}
use Rattle.network.specs.FlowCache.{AreKnown}
use Rattle.network.proofs.RouteFacts.{known_searched}
use Rattle.network.proofs.state.Network.search_after.Goals as goal

pub invariant_of-self : goal.invariant_of-self
invariant_of-self g c =
    let s = c.self.inside in
    subst (λ (b : RuleBook). AreKnown b.rules s.table.pipes (heads_of s.traffic) s.flow_cache) (sym c.verdict_after-verdict.ensures.counted)
    (known_searched (start_behind c.args.packet.place s.book.rules) c.args.packet s.book s.table.pipes (heads_of s.traffic) s.flow_cache c.self.invariant)
