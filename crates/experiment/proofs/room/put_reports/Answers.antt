use Rattle.std.proofs.Common.{rules, ◌∙◌}
use Rattle.experiment.specs.Written.{text_of}
use Rattle.experiment.proofs.Rooms.{put_piece}
use Rattle.experiment.proofs.room.put_reports.Goals as goal

pub loop-done-preserved : goal.loop-done-preserved
loop-done-preserved c = record {
  done = search rules;
  put = put_piece text_of c.args.reports.now c.loop-done.done c.index-reports-done.result (search rules) c.index-reports-done.is 0 c.loop-done.end c.in_ok-end.end
      c.args.room.now c.loop-done.room c.put_report.new.room c.loop-done.invariant.put c.in_ok-end.ensures.put;
  room = c.put_report.ensures.room ∙ c.loop-done.invariant.room;
}
