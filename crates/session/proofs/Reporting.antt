-- What was told of a run that has ended is its report.
use Rattle.std.proofs.Common.{◌≡◌, List, ◌∷◌, ◌++◌, refl, sym, ap, ◌∙◌}
use Rattle.emu_model.specs.declared.records.Record.{Record}
use Rattle.emu_model.specs.Net.{counters_of}
use Rattle.emu_model.specs.Step.{State}
use Rattle.emu_model.specs.Alone.{alone, trace_of}
use Rattle.emu_model.specs.RunLaws.{with_more, with_earlier, LaterCommandsWait}
use Rattle.experiment.specs.Sessions.{EndedStatesAreWhole}
use Rattle.packet_store.specs.Own.{own_pocket}
use Rattle.experiment.specs.Kept.{view}
use Rattle.experiment.proofs.CallerLemmas.{counted-report}
use Rattle.session.specs.Runs.{KeptRun}
use Rattle.session.specs.RunLaws.{EndedRunsAreReports, SpentRunsAreReports}

abbrev shown : List Record → KeptRun → State
shown earlier r = with_earlier earlier (view (own_pocket r.shelf) r.experiment)

pub ended_runs_are_reports : LaterCommandsWait → EndedStatesAreWhole → EndedRunsAreReports
ended_runs_are_reports wait whole name earlier r rest h done =
    let s : State = shown earlier r in
    let e = r.experiment in
    let takes : (alone e.spec e.consumed e.steps).steps ≡ e.steps = ap (λ (x : State). x.steps) (sym h.alone) in
    let is : with_more rest s ≡ alone e.spec (e.consumed ++ rest) e.steps =
    ap (with_more rest) h.alone ∙ sym (wait e.spec e.consumed rest e.steps takes) in
    counted-report name earlier r.report (own_pocket r.shelf) e h.counts done.told (counters_of (view (own_pocket r.shelf) e).net) refl
    (trace_of (alone e.spec (e.consumed ++ rest) e.spec.budget.steps))
    (sym (whole e.spec (e.consumed ++ rest) rest s e.spec.budget.steps done.ended is done.few))

pub spent_runs_are_reports : EndedStatesAreWhole → SpentRunsAreReports
spent_runs_are_reports whole name t earlier r c rest h done later =
    let s : State = shown earlier r in
    let e = r.experiment in
    counted-report name earlier r.report (own_pocket r.shelf) e h.counts done.told (counters_of (view (own_pocket r.shelf) e).net) refl
    (trace_of (alone e.spec (e.consumed ++ c ∷ rest) e.spec.budget.steps))
    (sym (whole e.spec (e.consumed ++ c ∷ rest) (c ∷ rest) s e.spec.budget.steps done.ended (h.waits.alone c rest later) done.few))
