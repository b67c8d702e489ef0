use Rattle.std.proofs.Common.{refl}
use Rattle.experiment.specs.Written.{texts_of}
use Rattle.alone.proofs.Endings.{out_cut, out_cut_after, out_written}
use Rattle.alone.proofs.within.write_text.Goals as goal

pub returns-in_default-put_reports-clause-written : goal.returns-in_default-put_reports-clause-written
returns-in_default-put_reports-clause-written g c =
    let text = texts_of c.args.reports.now in
    out_cut (g.W.Outlet.contents c.args.writer.now) (g.W.Outlet.contents c.put_reports.new.writer) c.in-Ok.buffer text text c.in-Ok.ensures refl
    c.in_default-put_reports.ensures.cut

pub returns-in_default-finish-clause-written : goal.returns-in_default-finish-clause-written
returns-in_default-finish-clause-written g c =
    let text = texts_of c.args.reports.now in
    out_cut_after (g.W.Outlet.contents c.args.writer.now) (g.W.Outlet.contents c.put_reports.new.writer) (g.W.Outlet.contents c.finish.new.writer) c.in-Ok.buffer
    c.put_reports.new.self text text c.in-Ok.ensures refl c.in-Ok-put_reports.ensures.ok c.in_default-finish.ensures.cut

pub returns-clause-written : goal.returns-clause-written
returns-clause-written g c =
    let text = texts_of c.args.reports.now in
    out_written (g.W.Outlet.contents c.args.writer.now) (g.W.Outlet.contents c.put_reports.new.writer) (g.W.Outlet.contents c.finish.new.writer) c.in-Ok.buffer
    c.put_reports.new.self text text c.in-Ok.ensures refl c.in-Ok-put_reports.ensures.ok c.in-Ok-finish.ensures.ok
