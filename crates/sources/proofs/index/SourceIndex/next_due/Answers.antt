use Rattle.std.proofs.Common.{sym, ◌∙◌, subst}
use Rattle.sources.specs.Leaves.{AreIndexed}
use Rattle.sources.proofs.Indexes.{bound_exact, bound_right}
use Rattle.sources.proofs.index.SourceIndex.next_due.Goals as goal

pub returns-then-not-is_expiry-clause-least : goal.returns-then-not-is_expiry-clause-least
returns-then-not-is_expiry-clause-least c = λ ts h.
    bound_exact c.args.clock c.args.flows.now ts c.args.self.now c.args.best c.lower_bound-bound.result h
    (c.lower_bound-bound.ensures c.args.flows.now ts h) (sym c.is_expiry.ensures ∙ c.if-not-is_expiry.true)

pub returns-clause-least : goal.returns-clause-least
returns-clause-least c = λ ts h.
    let fs = c.args.flows.now in
    let x = c.settle.new.self in
    let new : AreIndexed fs ts x = subst (AreIndexed fs ts) (sym c.settle.ensures.rest) (record {
      timers = c.settle.ensures.told;
      whole = h.whole;
      sending = h.sending;
      entries = h.entries;
      packets = h.packets;
    }) in
    bound_right c.args.clock fs ts x c.args.best c.lower_bound.result c.settle.ensures.right (c.lower_bound.ensures fs ts new)
