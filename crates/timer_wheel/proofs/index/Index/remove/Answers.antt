use Rattle.std.proofs.Common.{◌≡◌, cond, None, subst}
use Rattle.std.specs.Map.{lookup}
use Rattle.timer_wheel.specs.declared.index.Whose.{Whose}
use Rattle.timer_wheel.proofs.IndexFacts.{keys_changed, same_whose}
use Rattle.timer_wheel.proofs.index.Index.remove.Goals as goal

pub returns-clause-keys : goal.returns-clause-keys
returns-clause-keys c =
    rw (← c.self.view_is)
    (keys_changed c.self.inside.map.entries c.swap_remove.new.self.entries c.args.owner c.args.source None
    (subst
    (λ (w : Whose). (q : Whose) → lookup (same_whose q) c.swap_remove.new.self.entries ≡ cond (same_whose w q) None (lookup (same_whose q) c.self.inside.map.entries))
    c.of.ensures c.swap_remove.ensures.updates.0))
