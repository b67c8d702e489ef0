use Rattle.std.proofs.Common.{ap, ◌∙◌, subst}
use Rattle.emu_model.specs.DueLaws.{AreRising}
use Rattle.experiment.specs.Dues.{next_due_in}
use Rattle.experiment.specs.Kept.{view}
use Rattle.shard.specs.Bodies.{Moved}
use Rattle.shard.proofs.BodyFacts.{comes_ahead, same_due}
use Rattle.shard.proofs.body.Body.next_due.Goals as goal

pub returns-clause-ahead : goal.returns-clause-ahead
returns-clause-ahead g c = λ p alone.
    comes_ahead c.dues_stay_ahead.ensures p c.args.self.now.experiment c.next_due.result
    (subst (AreRising 0) (ap (λ (b : Moved _). b.experiment.consumed) c.self.view_is) c.self.invariant.1)
    alone
    (c.next_due.ensures.due p ∙ same_due (g.M.Mail.kept c.self.inside.mail) p c.self.inside.experiment ∙ ap (λ (b : Moved _). next_due_in (view p b.experiment)) c.self.view_is)
