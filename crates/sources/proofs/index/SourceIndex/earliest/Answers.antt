use Rattle.std.proofs.Common.{sym, ◌∙◌}
use Rattle.sources.proofs.Indexes.{bound_exact, bound_right}
use Rattle.sources.proofs.index.SourceIndex.earliest.Goals as goal

pub returns-then-not-is_expiry : goal.returns-then-not-is_expiry
returns-then-not-is_expiry c = λ ts h.
    bound_exact c.args.clock c.args.flows.now ts c.args.self.now c.args.best c.lower_bound-bound.result h
    (c.lower_bound-bound.ensures c.args.flows.now ts h) (sym c.is_expiry.ensures ∙ c.if-not-is_expiry.true)

pub returns-in-None : goal.returns-in-None
returns-in-None c = λ ts h.
    bound_right c.args.clock c.args.flows.now ts c.args.self.now c.args.best c.lower_bound-bound.result c.in-None.ensures.right
    (c.lower_bound-bound.ensures c.args.flows.now ts h)
