use Rattle.std.proofs.Common.{◌≡◌, ◌≤◌, take, length, sym, ap, ◌∙◌, subst}
use Rattle.pipe_core.specs.Moves.{packet_at}
use Rattle.pipe_table.specs.Table.{Table}
use Rattle.pipe_table.proofs.LineFacts.{take-end, lines_of, lines-count}
use Rattle.pipe_table.proofs.table.PipeTable.lines.Goals as goal

pub returns : goal.returns
returns c = λ p n.
    let ps = c.args.self.now.pipes in
    let read_as : c.deref-pipe-items.result.now ≡ ps = c.deref-pipe-items.ensures.value ∙ ap (λ (t : Table). t.pipes) c.self.view_is in
    let end : take c.loop-pipe.pipe-index ps ≡ ps = take-end ps c.loop-pipe.pipe-index (subst (λ l. length l ≤ c.loop-pipe.pipe-index) read_as c.loop-pipe-test.false) in
    c.loop-pipe.invariant.0 ∙ ap lines_of end ∙ sym (lines-count (packet_at p.find) ps)
