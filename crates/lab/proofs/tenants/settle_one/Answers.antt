use Rattle.std.proofs.Common.{◌∙◌}
use Rattle.lab.proofs.Ownings.{IsTraced, settled_alone, is_shown}
use Rattle.lab.proofs.tenants.settle_one.Goals as goal

pub returns-clause-ok : goal.returns-clause-ok
returns-clause-ok c =
    let o = c.in-Ok.outcome in
    let traced : IsTraced o = record { records = c.reveal_invariant.ensures.records; counters = c.reveal_invariant.ensures.counters; ending = c.reveal_invariant.ensures.ending; few = c.reveal_invariant.ensures.few; made = c.reveal_invariant.ensures.made } in
    c.new.ensures ∙ (λ i. record { records = c.into_records-archive.ensures i; counters = c.counters-counters.ensures i })
    ∙ settled_alone c.later_commands_wait.ensures c.args.tenant c.in-Some.dossier o c.args.experiment.now c.in-Ok.ensures.fits c.in-Ok.ensures.outcome c.requires.serves traced (is_shown c.in-Some.dossier o c.in-Ok.ensures.outcome (rw c.in-Some.is at c.requires.ended))
