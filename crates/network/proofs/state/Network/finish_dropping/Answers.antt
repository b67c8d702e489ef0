use Rattle.std.proofs.Common.{◌≡◌, ℕ, refl, sym, ap, ◌∙◌, subst, List, map}
use Rattle.emu_model.specs.declared.packets.Packet.{Packet}
use Rattle.emu_model.specs.declared.records.DropCause.TheVariants.{Codel}
use Rattle.emu_model.specs.declared.records.Record.TheVariants.{PacketFinished}
use Rattle.emu_model.specs.Net.{drop_record, note, note_drops}
use Rattle.pipe_core.specs.Keyed.{KeyedPipe}
use Rattle.pipe_core.specs.Steps.{drops_by_codel}
use Rattle.pipe_table.specs.Table.{with_pipes}
use Rattle.pipe_table.specs.Places.{StandsAt}
use Rattle.emu_model.specs.Step.{setting}
use Rattle.network.specs.contracts.state.Network.{the_view}
use Rattle.network.specs.Kept.{KeptNet, net_of}
use Rattle.network.specs.Changes.{NotesIn}
use Rattle.network.proofs.InFlight.{finished, finishes}
use Rattle.network.proofs.Readied.{readied, from_readied}
use Rattle.network.proofs.Frame.{pipes-named}
use Rattle.network.proofs.state.Network.finish_dropping.Goals as goal

pub finish-requires-clause-named : goal.finish-requires-clause-named
finish-requires-clause-named g c =
    let r = readied c.requires.stands.housed c.reserve_besides.ensures.still refl c.self.view_is in
    pipes-named _ _ r.housed

pub returns-clause-ok : goal.returns-clause-ok
returns-clause-ok g c =
    let p = g.S.Shelf.pocket c.args.shelf.now c.args.owner in
    let q = g.S.Shelf.pocket c.finish.new.shelf c.args.owner in
    let n : KeptNet = the_view c.self.inside in
    let r = readied c.requires.stands.housed c.reserve_besides.ensures.still refl c.self.view_is in
    let k = c.args.pipe in
    let table = c.finish.new.self in
    let number = c.in_ok-packet.packet.number in
    let drops = c.finish.new.drops.items in
    let mid : KeptNet = record n { table = table; log = c.note.new.self } in
    let new : KeptNet = record n { table = table; log = c.note_drops.new.log } in
    let stands : StandsAt k c.args.place n.table.pipes =
    subst (λ (ps : List KeyedPipe). StandsAt k c.args.place ps)
    (sym (ap (λ (m : KeptNet). m.table.pipes) (c.self.view_is ∙ c.reserve_besides.ensures.rest))) c.requires.place in
    let done = subst (λ (j : ℕ). finishes (setting c.args.spec.now c.args.now) k j (net_of p n)
    ≡ note_drops c.args.now (drops_by_codel drops) (with_pipes q table (note (PacketFinished c.args.now number k j) (net_of p n))))
    c.from-index.ensures (c.in_ok-packet.ensures.ok k stands (setting c.args.spec.now c.args.now) (net_of p n) refl) in
    let rest = subst (λ (xs : List Packet). NotesIn (map (drop_record c.args.now) (map (λ x. record { packet = x; cause = Codel }) xs)) c.note.new.self c.note_drops.new.log)
    c.deref.ensures.value c.note_drops.ensures in
    from_readied r (finishes (setting c.args.spec.now c.args.now) k c.args.instance) 0 _ _
    (finished p q n table k c.args.instance r.housed c.finish.ensures.keys c.finish.ensures.seed (setting c.args.spec.now c.args.now) number drops mid new done
    (record { rest = refl; records = c.note.ensures.records; room = c.note.ensures.room })
    (record { rest = refl; records = rest.records; room = rest.room }))
