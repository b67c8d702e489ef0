use Rattle.std.proofs.Common.{◌≡◌, ◌∙◌, sym, ap, subst, IfOk, arith}
use Rattle.packet_store.specs.Own.{own_pocket}
use Rattle.report.specs.Lines.{heading_of}
use Rattle.experiment.specs.Kept.{IsHousedIn}
use Rattle.experiment.specs.Written.{AreCountsOf, IsArchived, KeptReport, archived_counts, kept_report}
use Rattle.alone.specs.Reports.{trace_alone}
use Rattle.alone.proofs.Settled.{left_told}
use Rattle.experiment.proofs.CallerLemmas.{archived-new, archived-report, can_archive}
use Rattle.alone.proofs.alone.report_by_itself.Goals as goal

pub play-requires-clause-housed : goal.play-requires-clause-housed
play-requires-clause-housed g c =
    subst (λ p. IsHousedIn p c.in_ok-experiment.experiment) (sym c.new-shelf.ensures.own)
    (c.in_ok-experiment.ensures.housed c.args.script.now.spec.budget.packets (omega arith))

pub play-requires-clause-archived : goal.play-requires-clause-archived
play-requires-clause-archived g c =
    let p = own_pocket c.new-shelf.result in
    archived-new c.in_ok-report.report p c.in_ok-experiment.experiment c.in_ok-report.ensures.records c.in_ok-report.ensures.counts (c.in_ok-experiment.ensures.alone p)

pub keep-requires : goal.keep-requires
keep-requires g c =
    let p = own_pocket c.new-shelf.result in
    can_archive c.packets_add_up.ensures c.play.new.report (own_pocket c.play.new.shelf) c.play.new.experiment c.in_ok-play.ensures.housed
    (c.in_ok-play.ensures.archived (archived-new c.in_ok-report.report p c.in_ok-experiment.experiment c.in_ok-report.ensures.records c.in_ok-report.ensures.counts (c.in_ok-experiment.ensures.alone p)))

pub returns : goal.returns
returns g c =
    let p = own_pocket c.new-shelf.result in
    let q = own_pocket c.play.new.shelf in
    let played = c.in_ok-play.ensures in
    let kept = c.in_ok-keep.ensures in
    let now : IsArchived c.keep.new.self q c.keep.new.experiment = kept.all q (
    played.archived (archived-new c.in_ok-report.report p c.in_ok-experiment.experiment c.in_ok-report.ensures.records c.in_ok-report.ensures.counts (c.in_ok-experiment.ensures.alone p))) in
    let heading = kept.heading ∙ played.heading ∙ c.in_ok-report.ensures.heading ∙ ap heading_of c.as_bytes.ensures.value in
    subst (λ (r : KeptReport). IfOk c.into_report.result (λ report. report ≡ r)) (
    archived-report c.keep.new.self q c.keep.new.experiment now kept.records
    c.counters.result (c.counters.ensures q (kept.housed q played.housed)) (trace_alone c.args.script.now) (
    left_told c.later_commands_wait.ensures c.args.script.now.spec c.args.script.now.commands c.keep.new.self.records q c.play.new.experiment c.keep.new.experiment kept.rest
    (played.spec ∙ c.in_ok-experiment.ensures.given.0) now.after played.rest (sym c.as_slice-commands.ensures ∙ played.all) played.over played.few
    )
    ∙ ap (λ h. kept_report h (trace_alone c.args.script.now)) heading
    ) c.into_report.ensures
