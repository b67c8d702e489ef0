use Rattle.std.proofs.Common.{◌≡◌, ◌<◌, ◌≤◌, take, length, get_or, ap, ◌∙◌, subst, arith}
use Rattle.packet_store.specs.Pocket.{empty_pocket}
use Rattle.emu_model.specs.Net.{initial_net}
use Rattle.pipe_core.specs.Moves.{packet_at}
use Rattle.pipe_table.specs.Table.{Table}
use Rattle.pipe_table.proofs.LineFacts.{take-end, lines_of, lines-count, count-within}
use Rattle.pipe_table.proofs.table.PipeTable.show.Goals as goal

pub show_pipe-requires : goal.show_pipe-requires
show_pipe-requires c =
    let ps = c.args.self.now.pipes in
    let read_as : c.deref-pipe-items.result.now ≡ ps = c.deref-pipe-items.ensures.value ∙ ap (λ (t : Table). t.pipes) c.self.view_is in
    let i = c.loop-pipe.pipe-index in
    let x = c.pipe-item.result in
    let within : i < length ps = subst (λ l. i < length l) read_as c.loop-pipe-test.true in
    let read : x ≡ get_or ps i x = c.pipe-item.is ∙ ap (λ l. get_or l i x) read_as in
    omega (
      arith,
      c.loop-pipe.invariant.1,
      count-within ps i x within read,
      lines-count (packet_at (empty_pocket 0).find) ps,
      c.requires (empty_pocket 0) initial_net,
    )

pub returns-clause-room : goal.returns-clause-room
returns-clause-room c = λ p n.
    let ps = c.args.self.now.pipes in
    let read_as : c.deref-pipe-items.result.now ≡ ps = c.deref-pipe-items.ensures.value ∙ ap (λ (t : Table). t.pipes) c.self.view_is in
    let end : take c.loop-pipe.pipe-index ps ≡ ps = take-end ps c.loop-pipe.pipe-index (subst (λ l. length l ≤ c.loop-pipe.pipe-index) read_as c.loop-pipe-test.false) in
    omega (arith, c.loop-pipe.invariant.1, ap lines_of end, lines-count (packet_at p.find) ps)
