use Rattle.std.proofs.Common.{◌≡◌, List, ℕ, length, take, sym, ap, subst, ◌∙◌, arith}
use Rattle.std.specs.Prelude.{flat_map, IfOk}
use Rattle.std.proofs.lemmas.List.{take_all}
use Rattle.report.specs.Rows.{record_bytes, row_bytes, counters_row}
use Rattle.experiment.specs.Rooms.{IsPutAt}
use Rattle.experiment.proofs.Rooms.{put_behind}
use Rattle.experiment.proofs.room.put_report_rows.Goals as goal

pub returns-clause-put : goal.returns-clause-put
returns-clause-put c =
    let records = c.records.ensures in
    let first : List ℕ = flat_map (record_bytes c.args.number) c.args.report.now.records in
    let last : List ℕ = row_bytes c.args.number (counters_row c.args.report.now.counters) in
    let row : List ℕ = c.put_counters.new.page in
    let whole : row ≡ last = sym (take_all 40 row (omega (arith, c.put_counters.ensures.room))) ∙ c.put_counters.ensures.row
    ∙ ap (λ k. row_bytes c.args.number (counters_row k)) c.counters.ensures in
    let second = subst (λ (l : List ℕ). IfOk c.put_bytes.result (IsPutAt l c.in_ok-end.end c.put_record_rows.new.room c.put_bytes.new.room)) whole c.put_bytes.ensures.put in
    let held = subst (λ rs. IsPutAt (flat_map (record_bytes c.args.number) rs) c.args.at c.args.room.now c.put_record_rows.new.room c.in_ok-end.end) records c.in_ok-end.ensures.put in
    put_behind first last c.args.at c.in_ok-end.end c.args.room.now c.put_record_rows.new.room c.put_bytes.new.room c.put_bytes.result held second
