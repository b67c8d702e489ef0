use Rattle.std.proofs.Common.{◌++◌, ◌∙◌, ap}
use Rattle.experiment.specs.Written.{npy_of, rows_from}
use Rattle.alone.proofs.Endings.{out_cut, out_cut_after, out_written}
use Rattle.alone.proofs.within.write_npy.Goals as goal

pub returns-in_default-put_npy-clause-written : goal.returns-in_default-put_npy-clause-written
returns-in_default-put_npy-clause-written g c =
    let rows = rows_from 0 c.args.reports.now in
    out_cut (g.W.Outlet.contents c.args.writer.now) (g.W.Outlet.contents c.put_npy.new.writer) c.in-Ok.buffer (c.as_slice.result.now ++ rows)
    (npy_of c.args.reports.now) c.in-Ok.ensures.buffer (ap (λ h. h ++ rows) (c.as_slice.ensures.value ∙ c.in-Ok.ensures.header)) c.in_default-put_npy.ensures.cut

pub returns-in_default-finish-clause-written : goal.returns-in_default-finish-clause-written
returns-in_default-finish-clause-written g c =
    let rows = rows_from 0 c.args.reports.now in
    out_cut_after (g.W.Outlet.contents c.args.writer.now) (g.W.Outlet.contents c.put_npy.new.writer) (g.W.Outlet.contents c.finish.new.writer) c.in-Ok.buffer
    c.put_npy.new.self (c.as_slice.result.now ++ rows) (npy_of c.args.reports.now) c.in-Ok.ensures.buffer
    (ap (λ h. h ++ rows) (c.as_slice.ensures.value ∙ c.in-Ok.ensures.header)) c.in-Ok-put_npy.ensures.ok c.in_default-finish.ensures.cut

pub returns-clause-written : goal.returns-clause-written
returns-clause-written g c =
    let rows = rows_from 0 c.args.reports.now in
    out_written (g.W.Outlet.contents c.args.writer.now) (g.W.Outlet.contents c.put_npy.new.writer) (g.W.Outlet.contents c.finish.new.writer) c.in-Ok.buffer
    c.put_npy.new.self (c.as_slice.result.now ++ rows) (npy_of c.args.reports.now) c.in-Ok.ensures.buffer
    (ap (λ h. h ++ rows) (c.as_slice.ensures.value ∙ c.in-Ok.ensures.header)) c.in-Ok-put_npy.ensures.ok c.in-Ok-finish.ensures.ok
