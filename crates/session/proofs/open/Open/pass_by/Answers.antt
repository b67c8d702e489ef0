use Rattle.std.proofs.Common.{ap, ◌∙◌}
use Rattle.session.specs.Opens.{KeptOpen}
use Rattle.session.proofs.OpenFacts.{passed-by}
use Rattle.session.proofs.open.Open.pass_by.Goals as goal

pub returns-clause-told : goal.returns-clause-told
returns-clause-told c =
    passed-by c.args.self.now _ c.args.command.now c.requires.over (ap (λ (o : KeptOpen). o.phase) c.self.view_is ∙ c.requires.over)
    (ap (λ (o : KeptOpen). o.name) c.self.view_is) (ap (λ (o : KeptOpen). o.run) c.self.view_is) c.requires.on
