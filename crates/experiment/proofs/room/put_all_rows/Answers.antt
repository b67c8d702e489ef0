use Rattle.std.proofs.Common.{rules, ◌∙◌, take, min}
use Rattle.report.specs.Rows.{rows_of}
use Rattle.experiment.specs.Written.{rows_from}
use Rattle.experiment.proofs.Rooms.{put_both, rows-next}
use Rattle.experiment.proofs.room.put_all_rows.Goals as goal

pub loop-number-preserved : goal.loop-number-preserved
loop-number-preserved c =
    let rs = c.args.reports.now in
    let i = c.loop-number.number in
    let r = c.index-reports-number.result in record {
      page = c.put_report_rows.ensures.page ∙ c.loop-number.invariant.page;
      put = put_both (rows_from 0 (take i rs)) (rows_of (min i 255) r.records r.counters) _
          (rows-next rs i r (search rules) c.index-reports-number.is)
          c.args.at c.loop-number.end c.in_ok-end.end c.args.room.now c.loop-number.room c.put_report_rows.new.room
          c.loop-number.invariant.put (search rules);
      room = c.put_report_rows.ensures.room ∙ c.loop-number.invariant.room;
    }
