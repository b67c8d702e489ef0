use Rattle.std.proofs.Common.{ℕ, ◌<◌, List, length, sym, ap, ◌∙◌, subst}
use Rattle.std.specs.Prelude.{option_and_then}
use Rattle.emu_model.specs.Events.{flying_in}
use Rattle.packet_store.specs.Pocket.{Pocket}
use Rattle.pipe_core.specs.Moves.{AreNamed}
use Rattle.pipe_core.specs.Keyed.{KeyedPipe}
use Rattle.pipe_table.specs.Table.{Table, pipe_keys}
use Rattle.pipe_table.specs.Places.{StandsAt, IsInside}
use Rattle.pipe_table.proofs.NetFacts.{find-some}
use Rattle.pipe_table.proofs.At.{pipe-at, named-at}
use Rattle.pipe_table.proofs.PlaceFacts.{standing-place, inside-within, inside-of}
use Rattle.pipe_table.proofs.table.PipeTable.front.Goals as goal

pub front-requires-clause-inside : goal.front-requires-clause-inside
front-requires-clause-inside g c =
    let s = c.self.inside in
    let ps : List KeyedPipe = s.pipes.items in
    let i : ℕ = c.args.place in
    let inside : IsInside i c.args.instance ps = subst (λ (t : Table). IsInside i c.args.instance t.pipes) (sym c.self.view_is) c.requires.inside in
    inside-of i c.args.instance ps c.index.result.now inside c.index.ensures

pub front-requires-clause-named : goal.front-requires-clause-named
front-requires-clause-named g c =
    let s = c.self.inside in
    let ps : List KeyedPipe = s.pipes.items in
    let i : ℕ = c.args.place in
    let x : KeyedPipe = c.index.result.now in
    let read = c.index.ensures in
    let inside : IsInside i c.args.instance ps = subst (λ (t : Table). IsInside i c.args.instance t.pipes) (sym c.self.view_is) c.requires.inside in
    let within : i < length ps = inside-within i c.args.instance ps inside in
    let here : StandsAt x.number i ps = standing-place s.seed ps i x c.self.invariant.0.0 within read in
    let named : AreNamed (g.S.Shelf.pocket c.args.shelf.now c.args.owner) (pipe_keys ps) =
    subst (λ (t : Table). AreNamed (g.S.Shelf.pocket c.args.shelf.now c.args.owner) (pipe_keys t.pipes)) (sym c.self.view_is) c.requires.named in
    named-at x.number i ps x here read (g.S.Shelf.pocket c.args.shelf.now c.args.owner) named

pub returns : goal.returns
returns g c = λ k stands n.
    let s = c.self.inside in
    let ps : List KeyedPipe = s.pipes.items in
    let i : ℕ = c.args.place in
    let x : KeyedPipe = c.index.result.now in
    let read = c.index.ensures in
    let here : StandsAt k i ps = subst (λ (t : Table). StandsAt k i t.pipes) (sym c.self.view_is) stands in
    let p : Pocket = g.S.Shelf.pocket c.args.shelf.now c.args.owner in
    rw (← c.self.view_is)
    (c.front.ensures ∙ sym (ap (option_and_then (flying_in c.args.instance)) (find-some p k ps x n (pipe-at k i ps x here read))))
