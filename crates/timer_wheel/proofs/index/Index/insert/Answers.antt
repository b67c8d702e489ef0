use Rattle.std.proofs.Common.{◌≡◌, cond, Some, subst}
use Rattle.std.specs.Map.{lookup}
use Rattle.timer_wheel.specs.declared.index.Whose.{Whose}
use Rattle.timer_wheel.proofs.IndexFacts.{keys_changed, same_whose}
use Rattle.timer_wheel.proofs.index.Index.insert.Goals as goal

pub returns-clause-keys : goal.returns-clause-keys
returns-clause-keys c =
    rw (← c.self.view_is)
    (keys_changed c.self.inside.map.entries c.insert.new.self.entries c.args.owner c.args.source (Some c.args.key)
    (subst
    (λ (w : Whose). (q : Whose) → lookup (same_whose q) c.insert.new.self.entries ≡ cond (same_whose w q) (Some c.args.key) (lookup (same_whose q) c.self.inside.map.entries))
    c.of.ensures c.in-Ok.ensures.updates.0))
