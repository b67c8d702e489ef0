use Rattle.std.proofs.Common.{◌≡◌, List, Some, Result, ◌∙◌, sym, subst}
use Rattle.alone.specs.declared.fault.RunFault.{RunFault}
use Rattle.alone.specs.Reports.{Calls, tally}
use Rattle.alone.proofs.Answering.{passed}
use Rattle.alone.proofs.Stopping.{input_calls, given_calls}
use Rattle.alone.proofs.calls.check_kept.Goals as goal

pub returns-in_err-text-clause-given : goal.returns-in_err-text-clause-given
returns-in_err-text-clause-given g c =
    let w = g.W.Outlet.contents c.args.writer.now in
    let b = c.in_err-text.ensures.gives in
    let r = c.from_residual.result in
    let e = c.in_err-text.field-0.0 in
    (b.0, b.1, subst (λ (q : Result (Unit {0}) RunFault). Calls tally (Some b.0) w w q) (sym (passed r e c.from_residual.ensures.1)) (input_calls tally (Some b.0) w e c.in_err-text.ensures.fault))

pub returns-clause-given : goal.returns-clause-given
returns-clause-given g c =
    let b = c.in_ok-text.ensures.gives in
    given_calls g.R.Inlet.gives c.args.reader.now c.read_text.new.reader tally (g.W.Outlet.contents c.args.writer.now) (g.W.Outlet.contents c.write_tally.new.writer) c.as_slice.result.now c.write_tally.result
    (b.0, b.1, c.as_slice.ensures.value ∙ b.2) c.write_tally.ensures.calls
