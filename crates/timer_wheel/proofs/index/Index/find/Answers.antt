use Rattle.std.proofs.Common.{ap, ◌∙◌}
use Rattle.std.specs.Map.{lookup}
use Rattle.timer_wheel.specs.declared.index.Whose.{Whose}
use Rattle.timer_wheel.proofs.IndexFacts.{key_found, same_whose}
use Rattle.timer_wheel.proofs.index.Index.find.Goals as goal

pub returns : goal.returns
returns c =
    rw (← c.self.view_is)
    (c.copied.ensures ∙ c.get.ensures.value ∙ ap (λ (w : Whose). lookup (same_whose w) c.self.inside.map.entries) c.of.ensures
    ∙ key_found c.self.inside.map.entries c.args.owner c.args.source)
