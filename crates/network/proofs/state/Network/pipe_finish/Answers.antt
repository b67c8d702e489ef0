use Rattle.std.proofs.Common.{◌≡◌, ℕ, refl, sym, subst, List, [], map}
use Rattle.emu_model.specs.declared.packets.Packet.{Packet}
use Rattle.emu_model.specs.declared.records.Record.TheVariants.{PacketFinished}
use Rattle.emu_model.specs.Net.{drop_record, note, note_drops}
use Rattle.pipe_core.specs.Steps.{drops_by_codel}
use Rattle.pipe_table.specs.Table.{has_number, IsFinishing, with_pipes}
use Rattle.pipe_table.specs.Places.{IsInside}
use Rattle.pipe_table.proofs.CallerLemmas.{position-none, not-finishing, finishing-inside}
use Rattle.emu_model.specs.Step.{setting}
use Rattle.network.specs.contracts.state.Network.{the_view}
use Rattle.network.specs.Kept.{KeptNet, net_of, Stands}
use Rattle.network.specs.Changes.{Notes}
use Rattle.network.proofs.Steps.{at_view, from_view, notes-nil}
use Rattle.network.proofs.Frame.{pipes-named}
use Rattle.network.proofs.InFlight.{finishes, finished}
use Rattle.network.proofs.state.Network.pipe_finish.Goals as goal

pub unreachable_unchecked-unreachable-requires : goal.unreachable_unchecked-unreachable-requires
unreachable_unchecked-unreachable-requires g c =
    let n = the_view c.self.inside in
    not-finishing c.args.pipe c.args.instance c.args.now n.table.pipes
    (position-none (has_number c.args.pipe) n.table.pipes c.in_default.ensures)
    (at_view (λ m. IsFinishing c.args.pipe c.args.instance c.args.now m.table.pipes) n _ c.self.view_is c.requires.due)

pub drops_none-requires : goal.drops_none-requires
drops_none-requires g c =
    let n = the_view c.self.inside in
    subst (λ (j : ℕ). IsInside c.in-Some.place j n.table.pipes) (sym c.from-index.ensures)
    (finishing-inside c.args.pipe c.in-Some.place c.args.instance c.args.now n.table.pipes c.in-Some.ensures
    (at_view (λ m. IsFinishing c.args.pipe c.args.instance c.args.now m.table.pipes) n _ c.self.view_is c.requires.due))

pub finish-requires-clause-named : goal.finish-requires-clause-named
finish-requires-clause-named g c =
    let p = g.S.Shelf.pocket c.args.shelf.now c.args.owner in
    let n = the_view c.self.inside in
    pipes-named p n (at_view (Stands (setting c.args.spec.now c.args.now) p) n _ c.self.view_is c.requires.stands).housed

pub returns-clause-ok : goal.returns-clause-ok
returns-clause-ok g c =
    let p = g.S.Shelf.pocket c.args.shelf.now c.args.owner in
    let n = the_view c.self.inside in
    let stands : Stands (setting c.args.spec.now c.args.now) p n = at_view (Stands (setting c.args.spec.now c.args.now) p) n _ c.self.view_is c.requires.stands in
    let k = c.args.pipe in
    let table = c.finish.new.self in
    let number = c.in_ok-packet.packet.number in
    let q = g.S.Shelf.pocket c.finish.new.shelf c.args.owner in
    let drops = c.finish.new.drops.items in
    let none : drops ≡ [] = c.in_ok-packet.ensures.none refl in
    let mid : KeptNet = c.note.new.self in
    let done = subst (λ (j : ℕ). finishes (setting c.args.spec.now c.args.now) k j (net_of p n)
    ≡ note_drops c.args.now (drops_by_codel drops) (with_pipes q table (note (PacketFinished c.args.now number k j) (net_of p n))))
    c.from-index.ensures (c.in_ok-packet.ensures.ok k c.in-Some.ensures (setting c.args.spec.now c.args.now) (net_of p n) refl) in
    from_view 0 (λ m. finishes (setting c.args.spec.now c.args.now) k c.args.instance (net_of p m)) p _ n _ _ c.self.view_is
    (finished p q n table k c.args.instance stands.housed c.finish.ensures.keys c.finish.ensures.seed
    (setting c.args.spec.now c.args.now) number drops mid mid done c.note.ensures
    (subst (λ (xs : List Packet). Notes (map (drop_record c.args.now) (drops_by_codel xs)) mid mid) (sym none) (notes-nil mid)))
