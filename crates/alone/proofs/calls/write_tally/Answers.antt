use Rattle.std.proofs.Common.{◌∙◌, Some}
use Rattle.alone.proofs.Endings.{cut_after}
use Rattle.alone.proofs.calls.write_tally.Goals as goal

pub returns-in_default-flush_all-clause-calls : goal.returns-in_default-flush_all-clause-calls
returns-in_default-flush_all-clause-calls g c =
    cut_after (Some c.args.text.now) (g.W.Outlet.contents c.args.writer.now) (g.W.Outlet.contents c.write_all.new.writer) (g.W.Outlet.contents c.flush_all.new.writer)
    c.as_slice.result.now c.in_ok-tally.tally c.in_ok-tally.ensures.ok (c.as_slice.ensures.value ∙ c.in-Ok.ensures) c.in-Ok-write_all.ensures.bytes c.flush_all.ensures.bytes
