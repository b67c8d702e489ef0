use Rattle.std.proofs.Common.{◌≡◌, List, ℕ, ap, subst, ◌∙◌}
use Rattle.report.specs.Rows.{npy_header}
use Rattle.experiment.specs.Rooms.{IsPutAt}
use Rattle.experiment.specs.Written.{row_count, rows_from}
use Rattle.experiment.proofs.Rooms.{put_behind}
use Rattle.experiment.proofs.room.put_npy.Goals as goal

pub returns-clause-put : goal.returns-clause-put
returns-clause-put c =
    let rs = c.args.reports.now in
    let header : List ℕ = npy_header (row_count rs) in
    let is : c.as_slice.result.now ≡ header = c.as_slice.ensures.value ∙ c.in_ok-header.ensures ∙ ap npy_header c.in_ok-rows.ensures in
    let first : IsPutAt header 0 c.args.room.now c.put_bytes.new.room c.in_ok-end.end =
    subst (λ (l : List ℕ). IsPutAt l 0 c.args.room.now c.put_bytes.new.room c.in_ok-end.end) is c.in_ok-end.ensures.put in
    put_behind header (rows_from 0 rs) 0 c.in_ok-end.end c.args.room.now c.put_bytes.new.room c.put_all_rows.new.room c.put_all_rows.result
    first c.put_all_rows.ensures.put
