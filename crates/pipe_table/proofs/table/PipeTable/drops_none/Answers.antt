use Rattle.std.proofs.Common.{ℕ, ◌<◌, List, length, sym, subst}
use Rattle.pipe_core.specs.Keyed.{KeyedPipe}
use Rattle.pipe_core.specs.Steps.{IsPlainAt}
use Rattle.pipe_table.specs.Table.{Table}
use Rattle.pipe_table.specs.Places.{StandsAt, IsInside}
use Rattle.pipe_table.proofs.PlaceFacts.{get-there, get-is, standing-place, inside-within, inside-of}
use Rattle.pipe_table.proofs.table.PipeTable.drops_none.Goals as goal

pub drops_none-requires : goal.drops_none-requires
drops_none-requires c =
    let s = c.self.inside in
    let ps : List KeyedPipe = s.pipes.items in
    let i : ℕ = c.args.place in
    let x : KeyedPipe = c.index.result.now in
    let read = c.index.ensures in
    let inside : IsInside i c.args.instance ps = subst (λ (t : Table). IsInside i c.args.instance t.pipes) (sym c.self.view_is) c.requires in
    let within : i < length ps = inside-within i c.args.instance ps inside in
    let k : ℕ = x.number in
    let here : StandsAt k i ps = standing-place s.seed ps i x c.self.invariant.0.0 within read in
    inside-of i c.args.instance ps x inside read

pub returns : goal.returns
returns c =
    let s = c.self.inside in
    let ps : List KeyedPipe = s.pipes.items in
    let i : ℕ = c.args.place in
    let x : KeyedPipe = c.index.result.now in
    let read = c.index.ensures in
    let inside : IsInside i c.args.instance ps = subst (λ (t : Table). IsInside i c.args.instance t.pipes) (sym c.self.view_is) c.requires in
    let within : i < length ps = inside-within i c.args.instance ps inside in
    let k : ℕ = x.number in
    let here : StandsAt k i ps = standing-place s.seed ps i x c.self.invariant.0.0 within read in
    rw (← c.self.view_is) (
      λ yes p there. subst (λ (z : KeyedPipe). IsPlainAt c.args.instance c.args.now z) (sym (get-is ps i x p read there)) (c.drops_none.ensures.0 yes),
      λ plain. c.drops_none.ensures.1 (plain x (get-there ps i x within read)),
    )
