use Rattle.std.proofs.Common.{◌≡◌, ℕ, ◌<◌, List, [], ◌∷◌, ◌++◌, length, sym, ap, ◌∙◌, subst}
use Rattle.emu_model.specs.declared.records.Record.TheVariants.{PacketArrived}
use Rattle.pipe_core.specs.Keyed.{KeyedPipe}
use Rattle.pipe_table.specs.Table.{Table}
use Rattle.pipe_table.specs.Places.{StandsAt, IsInside, IsRouted}
use Rattle.pipe_table.proofs.PlaceFacts.{inside-within, inside-of, route-inside, route-its}
use Rattle.pipe_table.proofs.Routed.{arrives-routed}
use Rattle.pipe_table.proofs.table.PipeTable.note_arrival_at.Goals as goal

pub returns-clause-records : goal.returns-clause-records
returns-clause-records c = λ k stands p n.
    let s = c.self.inside in
    let ps : List KeyedPipe = s.pipes.items in
    let i : ℕ = c.args.place in
    let j : ℕ = c.args.instance in
    let x : KeyedPipe = c.index-pipe.result.now in
    let read = c.index-pipe.ensures in
    let route : IsRouted c.requires.route.0 c.args.packet.now i j ps =
    subst (λ (t : Table). IsRouted c.requires.route.0 c.args.packet.now i j t.pipes) (sym c.self.view_is) c.requires.route.1 in
    let inside : IsInside i j ps = route-inside c.requires.route.0 c.args.packet.now i j ps route in
    let here : StandsAt k i ps = subst (λ (t : Table). StandsAt k i t.pipes) (sym c.self.view_is) stands in
    rw (← c.self.view_is)
    (c.note.ensures.records
    ∙ ap (λ (m : ℕ). c.args.log.now.records ++ PacketArrived c.args.now c.args.packet.now.number m j ∷ []) c.number.ensures
    ∙ ap (λ l. c.args.log.now.records ++ l)
    (sym (arrives-routed k i j s.seed c.args.now ps x c.args.packet.now p n here read (inside-of i j ps x inside read)
    (route-its c.requires.route.0 c.args.packet.now i j ps x route read))))
