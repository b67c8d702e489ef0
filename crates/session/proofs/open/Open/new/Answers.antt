use Rattle.std.proofs.Common.{[], sym, ap, ◌∙◌, subst}
use Rattle.experiment.specs.Written.{Counts}
use Rattle.emu_model.specs.Step.{initial_state}
use Rattle.session.specs.Runs.{KeptRun, state_of}
use Rattle.session.proofs.open.Open.new.Goals as goal

pub returns-clause-begins : goal.returns-clause-begins
returns-clause-begins c =
    let handed = c.in_ok-hand_out.ensures.ok.1 in
    let begun = c.in_ok-run.ensures in (
      ap state_of handed ∙ begun.begins ∙ ap (λ s. initial_state s []) c.spec_as.ensures,
      subst (λ (r : KeptRun). Counts [] r.report) (sym handed) (record { delivered = begun.at.counts.delivered; drops = begun.at.counts.drops }),
      ap (λ (r : KeptRun). r.shows_all) handed ∙ begun.given.3,
      ap (λ (r : KeptRun). r.mine) handed ∙ begun.given.4,
    )
