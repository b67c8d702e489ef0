use Rattle.sources.specs.Standing.{heads_of}
use Rattle.std.proofs.Common.{sym, subst}
use Rattle.emu_model.specs.Rules.{RuleBook}
use Rattle.network.specs.FlowCache.{AreKnown}
use Rattle.network.proofs.RouteFacts.{known_searched}
use Rattle.network.proofs.state.Network.pass_rules.Goals as goal

pub invariant_of-self : goal.invariant_of-self
invariant_of-self g c =
    let s = c.self.inside in
    subst (λ (b : RuleBook). AreKnown b.rules s.table.pipes (heads_of s.traffic) s.flow_cache) (sym c.verdict-verdict.ensures.counted)
    (known_searched 0 c.args.packet s.book s.table.pipes (heads_of s.traffic) s.flow_cache c.self.invariant)
