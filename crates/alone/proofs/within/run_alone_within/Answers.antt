use Rattle.std.proofs.Common.{◌≡◌, ℕ, List, Some, Result, Ok, Err, ◌∙◌, sym, subst}
use Rattle.experiment.specs.Written.{KeptReport}
use Rattle.alone.specs.declared.limits.Stop.{Stop}
use Rattle.alone.specs.declared.within.Made.{Made}
use Rattle.alone.specs.Reports.{bytes_as, output_as}
use Rattle.alone.specs.Within.{CallsWithin, MakesWithin, done_of}
use Rattle.alone.proofs.Answering.{passed}
use Rattle.alone.proofs.Stopping.{read_calls, stop_calls, out_calls, given_within}
use Rattle.alone.proofs.within.run_alone_within.Goals as goal

pub returns-in-Err-clause-given : goal.returns-in-Err-clause-given
returns-in-Err-clause-given g c =
    let b = c.in-Err.ensures.gives in
    (b.0, b.1, read_calls c.args.limits.now (output_as c.args.format) (Some b.0) (g.W.Outlet.contents c.args.writer.now) c.in-Err.fault c.in-Err.ensures.fault)

pub returns-in_err-made-clause-given : goal.returns-in_err-made-clause-given
returns-in_err-made-clause-given g c =
    let w = g.W.Outlet.contents c.args.writer.now in
    let b = c.in-Ok.ensures.gives in
    let text = c.as_slice.result.now in
    let r = c.from_residual.result in
    let e = c.in_err-made.field-0.0 in
    given_within g.R.Inlet.gives c.args.reader.now c.read_text.new.reader c.args.limits.now (output_as c.args.format) w w text (done_of r) (b.0, b.1, c.as_slice.ensures.value ∙ b.2)
    (subst (λ (q : Result Made Stop). CallsWithin c.args.limits.now (output_as c.args.format) (Some text) w w (done_of q)) (sym (passed r e c.from_residual.ensures.1))
    (stop_calls c.args.limits.now (output_as c.args.format) (Some text) w e c.in_err-made.ensures.stop))

pub returns-in_err-write_reports-clause-given : goal.returns-in_err-write_reports-clause-given
returns-in_err-write_reports-clause-given g c =
    let w = g.W.Outlet.contents c.args.writer.now in
    let x = g.W.Outlet.contents c.write_reports.new.writer in
    let b = c.in-Ok.ensures.gives in
    let text = c.as_slice.result.now in
    let limits = c.args.limits.now in
    let says = output_as c.args.format in
    let reports : List KeptReport = c.as_slice-2.result.now in
    let made : MakesWithin limits says (Some text) (bytes_as c.args.format reports) =
    subst (λ (l : List KeptReport). MakesWithin limits says (Some text) (bytes_as c.args.format l)) (sym c.as_slice-2.ensures.value) c.in_ok-made.ensures.within in
    let r = c.from_residual-in_err-write_reports.result in
    let e = c.in_err-write_reports.field-0.0 in
    given_within g.R.Inlet.gives c.args.reader.now c.read_text.new.reader limits says w x text (done_of r) (b.0, b.1, c.as_slice.ensures.value ∙ b.2)
    (subst (λ (q : Result Made Stop). CallsWithin limits says (Some text) w x (done_of q)) (sym (passed r e c.from_residual-in_err-write_reports.ensures.1))
    (out_calls limits says (Some text) w x (bytes_as c.args.format reports) (Err e) made c.in_err-write_reports.ensures.written))

pub returns-clause-given : goal.returns-clause-given
returns-clause-given g c =
    let w = g.W.Outlet.contents c.args.writer.now in
    let x = g.W.Outlet.contents c.write_reports.new.writer in
    let b = c.in-Ok.ensures.gives in
    let text = c.as_slice.result.now in
    let limits = c.args.limits.now in
    let says = output_as c.args.format in
    let reports : List KeptReport = c.as_slice-2.result.now in
    let made : MakesWithin limits says (Some text) (bytes_as c.args.format reports) =
    subst (λ (l : List KeptReport). MakesWithin limits says (Some text) (bytes_as c.args.format l)) (sym c.as_slice-2.ensures.value) c.in_ok-made.ensures.within in
    given_within g.R.Inlet.gives c.args.reader.now c.read_text.new.reader limits says w x text (Ok tt) (b.0, b.1, c.as_slice.ensures.value ∙ b.2)
    (out_calls limits says (Some text) w x (bytes_as c.args.format reports) (Ok tt) made c.in_ok-write_reports.ensures.written)
