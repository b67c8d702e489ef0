use Rattle.std.proofs.Common.{[], ◌++◌, sym, ap, ◌∙◌}
use Rattle.std.specs.Option.{option_map_or}
use Rattle.std.proofs.lemmas.List.{append-nil}
use Rattle.emu_model.specs.Net.{arrivals}
use Rattle.pipe_core.specs.Moves.{packet_at}
use Rattle.pipe_table.specs.Table.{has_number}
use Rattle.pipe_table.proofs.Splits.{position-none}
use Rattle.pipe_table.proofs.NetFacts.{find-none, find-some}
use Rattle.pipe_table.proofs.At.{pipe-at}
use Rattle.pipe_table.proofs.table.PipeTable.note_arrival.Goals as goal

pub returns-in_default-clause-records : goal.returns-in_default-clause-records
returns-in_default-clause-records c = λ p n.
    let rs = c.args.log.now.records in
    sym (append-nil rs)
    ∙ ap (λ o. rs ++ option_map_or (arrivals c.args.now c.args.packet) o [])
    (sym (find-none p c.args.number c.args.self.now.pipes n (position-none (has_number c.args.number) c.args.self.now.pipes c.in_default.ensures)))

pub returns-clause-records : goal.returns-clause-records
returns-clause-records c = λ p n.
    let rs = c.args.log.now.records in
    rw (← c.self.view_is)
    (c.note_at.ensures.records (packet_at p.find)
    ∙ ap (λ o. rs ++ option_map_or (arrivals c.args.now c.args.packet) o [])
    (sym (find-some p c.args.number c.self.inside.pipes.items c.index.result.now n (pipe-at c.args.number c.in-Some.place c.self.inside.pipes.items c.index.result.now (rw (← c.self.view_is) at c.in-Some.ensures) c.index.ensures))))
