use Rattle.std.proofs.Common.{sym, subst}
use Rattle.emu_model.specs.Step.{setting}
use Rattle.network.specs.Kept.{KeptNet, Stands}
use Rattle.pipe_table.specs.Table.{HasRoomIn}
use Rattle.network.proofs.Arriving.{arrives}
use Rattle.network.proofs.state.Network.to_pipe.Goals as goal

pub enter_pipe-requires-clause-stands : goal.enter_pipe-requires-clause-stands
enter_pipe-requires-clause-stands g c =
    let p = g.S.Shelf.pocket c.args.shelf.now c.args.owner in
    subst (λ (m : KeptNet). Stands (setting c.args.spec.now c.args.now) p m) (sym c.note_arrival.ensures.rest) (record {
      early = c.requires.stands.early;
      seed = c.requires.stands.seed;
      room = c.requires.stands.room;
      housed = record { each = c.requires.stands.housed.each; count = c.requires.stands.housed.count };
    })

pub enter_pipe-requires-clause-ready : goal.enter_pipe-requires-clause-ready
enter_pipe-requires-clause-ready g c =
    subst (λ (m : KeptNet). HasRoomIn c.args.number c.args.packet.now m.table.pipes) (sym c.note_arrival.ensures.rest) c.requires.ready

pub returns-clause-becomes : goal.returns-clause-becomes
returns-clause-becomes g c =
    let p = g.S.Shelf.pocket c.args.shelf.now c.args.owner in
    arrives (setting c.args.spec.now c.args.now) p _ c.args.self.now c.note_arrival.new.self _ c.args.number c.args.packet.now
    c.requires.stands.housed c.note_arrival.ensures.rest (c.note_arrival.ensures.records p) c.enter_pipe.ensures.becomes
