use Rattle.std.proofs.Common.{sym, ap, ◌∙◌}
use Rattle.std.specs.Prelude.{slice_get}
use Rattle.flow_mask.proofs.Numbers.{is_first, came, same_by}
use Rattle.flow_mask.proofs.instances.Instances.find.Goals as goal

pub returns-clause-index : goal.returns-clause-index
returns-clause-index c = is_first c.args.self.now.ids c.args.id c.in-Some.first.now (sym (ap (λ v. slice_get v.ids 0) c.self.view_is) ∙ sym c.in-Some.ensures.key) (same_by c.args.id c.in-Some.first.now (sym c.eq.ensures ∙ c.if-eq.true))

pub returns-clause-found : goal.returns-clause-found
returns-clause-found c = came c.args.self.now.ids c.args.id c.in-Some.first.now (sym (ap (λ v. slice_get v.ids 0) c.self.view_is) ∙ sym c.in-Some.ensures.key) (same_by c.args.id c.in-Some.first.now (sym c.eq.ensures ∙ c.if-eq.true))
