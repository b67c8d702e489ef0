use Rattle.std.proofs.Common.{◌≡◌, refl, sym, ap, ◌∙◌, arith, ◌++◌}
use Rattle.emu_model.specs.declared.commands.Command.TheVariants.{PipeShow}
use Rattle.emu_model.specs.Net.{initial_net}
use Rattle.emu_model.specs.Commands.{obey}
use Rattle.pipe_table.specs.Table.{with_pipes}
use Rattle.emu_model.specs.Step.{setting}
use Rattle.network.specs.contracts.state.Network.{the_view}
use Rattle.network.specs.Kept.{KeptNet, net_of}
use Rattle.network.proofs.Steps.{still-housed}
use Rattle.network.proofs.Obeying.{from_still, listed-obeys}
use Rattle.std.proofs.Common.{length}
use Rattle.std.specs.Prelude.{flat_map}
use Rattle.emu_model.specs.Commands.{pipe_lines}
use Rattle.packet_store.specs.Pocket.{empty_pocket}
use Rattle.pipe_table.specs.Table.{Table}
use Rattle.network.proofs.state.Network.show_pipes.Goals as goal

pub show-requires : goal.show-requires
show-requires c =
    let tables : c.self-2.inside.table ≡ c.self.inside.table =
    ap (λ (m : KeptNet). m.table) c.self-2.view_is ∙ ap (λ (m : KeptNet). m.table) c.note_done.ensures.rest
    ∙ ap (λ (m : KeptNet). m.table) c.reserve_besides.ensures.rest ∙ sym (ap (λ (m : KeptNet). m.table) c.self.view_is) in
    λ p n. omega (
      arith,
      c.lines-lines.ensures p n,
      ap (λ (t : Table). length (flat_map pipe_lines (with_pipes p t n).pipes)) tables,
      ap (λ (m : KeptNet). m.log.spare) c.self-2.view_is,
      c.note_done.ensures.room,
      c.in_ok-reserve_besides.ensures.ready,
    )

pub returns-clause-ok : goal.returns-clause-ok
returns-clause-ok c =
    let n1 = c.reserve_besides.new.self in
    let n2 = c.note_done.new.self in
    let new : KeptNet = record (the_view c.self-2.inside) { log = c.show.new.log } in
    let tables : c.self-2.inside.table ≡ n1.table = ap (λ (m : KeptNet). m.table) c.self-2.view_is ∙ ap (λ (m : KeptNet). m.table) c.note_done.ensures.rest in
    λ p h. from_still (obey (setting c.args.spec.now c.args.now) c.args.number PipeShow) 1 p p c.args.self.now n1 new h c.reserve_besides.ensures.still
    (listed-obeys (setting c.args.spec.now c.args.now) c.args.number PipeShow n1 n2 new (λ q. flat_map pipe_lines (net_of q n1).pipes) (λ q. refl) (λ q. refl) c.note_done.ensures
    (λ q. record {
      rest = λ i. record (c.self-2.view_is i) { log = c.show.new.log };
      records = c.show.ensures.records q (net_of q n1) ∙ (λ i. (c.self-2.view_is i).log.records ++ flat_map pipe_lines (with_pipes q (tables i) (net_of q n1)).pipes);
      room = omega (arith, c.show.ensures.room q (net_of q n1), ap (λ (m : KeptNet). m.log.spare) c.self-2.view_is, ap (λ (t : Table). length (flat_map pipe_lines (with_pipes q t (net_of q n1)).pipes)) tables);
    }) p (still-housed p c.args.self.now n1 h c.reserve_besides.ensures.still))

pub returns-clause-room : goal.returns-clause-room
returns-clause-room c =
    let tables : c.self-2.inside.table ≡ c.self.inside.table =
    ap (λ (m : KeptNet). m.table) c.self-2.view_is ∙ ap (λ (m : KeptNet). m.table) c.note_done.ensures.rest
    ∙ ap (λ (m : KeptNet). m.table) c.reserve_besides.ensures.rest ∙ sym (ap (λ (m : KeptNet). m.table) c.self.view_is) in
    let p = empty_pocket 0 in
    let n = initial_net in
    omega (
      arith,
      c.lines-lines.ensures p n,
      ap (λ (t : Table). length (flat_map pipe_lines (with_pipes p t n).pipes)) tables,
      ap (λ (m : KeptNet). m.log.spare) c.self-2.view_is,
      c.note_done.ensures.room,
      c.in_ok-reserve_besides.ensures.ready,
      c.show.ensures.room p n,
    )
