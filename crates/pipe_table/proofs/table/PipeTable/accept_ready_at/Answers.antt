use Rattle.std.proofs.Common.{ℕ, ◌<◌, List, length, set, sym, ap, subst}
use Rattle.emu_model.specs.declared.packets.Packet.{Packet}
use Rattle.pipe_core.specs.Moves.{some_packet}
use Rattle.pipe_core.specs.Keyed.{KeyedPipe}
use Rattle.pipe_table.specs.Table.{Table}
use Rattle.pipe_table.specs.Places.{StandsAt, IsInside, HasRoomAtPlace}
use Rattle.pipe_table.proofs.At.{sound-at, grown-set, ok-by}
use Rattle.pipe_table.proofs.Indexes.{indexed-shown}
use Rattle.pipe_table.proofs.PlaceFacts.{get-there, get-set, standing-place, led-set, kept-grown, room-there, inside-within, inside-of}
use Rattle.pipe_table.proofs.table.PipeTable.accept_ready_at.Goals as goal

pub accept_ready-requires : goal.accept_ready-requires
accept_ready-requires c =
    let s = c.self.inside in
    let ps : List KeyedPipe = s.pipes.items in
    let i : ℕ = c.args.place in
    let x : KeyedPipe = c.index_mut.result.now in
    let read = c.index_mut.ensures.value in
    let inside : IsInside i c.args.instance ps = subst (λ (t : Table). IsInside i c.args.instance t.pipes) (sym c.self.view_is) c.requires in
    let within : i < length ps = inside-within i c.args.instance ps inside in
    let k : ℕ = x.number in
    let here : StandsAt k i ps = standing-place s.seed ps i x c.self.invariant.0.0 within read in
    inside-of i c.args.instance ps x inside read

pub invariant_of-self : goal.invariant_of-self
invariant_of-self c =
    let s = c.self.inside in
    let ps : List KeyedPipe = s.pipes.items in
    let i : ℕ = c.args.place in
    let x : KeyedPipe = c.index_mut.result.now in
    let read = c.index_mut.ensures.value in
    let inside : IsInside i c.args.instance ps = subst (λ (t : Table). IsInside i c.args.instance t.pipes) (sym c.self.view_is) c.requires in
    let within : i < length ps = inside-within i c.args.instance ps inside in
    let k : ℕ = x.number in
    let here : StandsAt k i ps = standing-place s.seed ps i x c.self.invariant.0.0 within read in (
      sound-at k i ps x here read s.seed c.accept_ready.new.self c.self.invariant.0 (ap (λ (p : KeyedPipe). p.seed) c.accept_ready.ensures.grown.same) (ap (λ (p : KeyedPipe). p.number) c.accept_ready.ensures.grown.same),
      (let f : ℕ → Packet = λ n. some_packet in
          indexed-shown f f ps (set ps i c.accept_ready.new.self) s.dues ((grown-set k i ps x here read c.accept_ready.new.self c.accept_ready.ensures.grown).shown f) c.self.invariant.1),
      led-set ps i x c.accept_ready.new.self s.places within read (ap (λ (p : KeyedPipe). p.number) c.accept_ready.ensures.grown.same) c.self.invariant.2,
    )

pub returns-clause-grown : goal.returns-clause-grown
returns-clause-grown c =
    let s = c.self.inside in
    let ps : List KeyedPipe = s.pipes.items in
    let i : ℕ = c.args.place in
    let x : KeyedPipe = c.index_mut.result.now in
    let read = c.index_mut.ensures.value in
    let inside : IsInside i c.args.instance ps = subst (λ (t : Table). IsInside i c.args.instance t.pipes) (sym c.self.view_is) c.requires in
    let within : i < length ps = inside-within i c.args.instance ps inside in
    let k : ℕ = x.number in
    let here : StandsAt k i ps = standing-place s.seed ps i x c.self.invariant.0.0 within read in
    rw (← c.self.view_is) (grown-set k i ps x here read c.accept_ready.new.self c.accept_ready.ensures.grown)

pub returns-clause-places : goal.returns-clause-places
returns-clause-places c =
    let s = c.self.inside in
    let ps : List KeyedPipe = s.pipes.items in
    let i : ℕ = c.args.place in
    let x : KeyedPipe = c.index_mut.result.now in
    let read = c.index_mut.ensures.value in
    let inside : IsInside i c.args.instance ps = subst (λ (t : Table). IsInside i c.args.instance t.pipes) (sym c.self.view_is) c.requires in
    let within : i < length ps = inside-within i c.args.instance ps inside in
    let k : ℕ = x.number in
    let here : StandsAt k i ps = standing-place s.seed ps i x c.self.invariant.0.0 within read in
    rw (← c.self.view_is) (kept-grown ps (set ps i c.accept_ready.new.self) (grown-set k i ps x here read c.accept_ready.new.self c.accept_ready.ensures.grown))

pub returns-clause-ready : goal.returns-clause-ready
returns-clause-ready c =
    let s = c.self.inside in
    let ps : List KeyedPipe = s.pipes.items in
    let i : ℕ = c.args.place in
    let x : KeyedPipe = c.index_mut.result.now in
    let read = c.index_mut.ensures.value in
    let inside : IsInside i c.args.instance ps = subst (λ (t : Table). IsInside i c.args.instance t.pipes) (sym c.self.view_is) c.requires in
    let within : i < length ps = inside-within i c.args.instance ps inside in
    let k : ℕ = x.number in
    let here : StandsAt k i ps = standing-place s.seed ps i x c.self.invariant.0.0 within read in
    ok-by c.accept_ready.result (room-there (set ps i c.accept_ready.new.self) i c.args.size c.args.instance c.accept_ready.new.self (get-set ps i c.accept_ready.new.self within)) c.accept_ready.ensures.ready

pub returns-clause-succeeds : goal.returns-clause-succeeds
returns-clause-succeeds c = λ room.
    let s = c.self.inside in
    let ps : List KeyedPipe = s.pipes.items in
    let i : ℕ = c.args.place in
    let x : KeyedPipe = c.index_mut.result.now in
    let read = c.index_mut.ensures.value in
    let inside : IsInside i c.args.instance ps = subst (λ (t : Table). IsInside i c.args.instance t.pipes) (sym c.self.view_is) c.requires in
    let within : i < length ps = inside-within i c.args.instance ps inside in
    let k : ℕ = x.number in
    let here : StandsAt k i ps = standing-place s.seed ps i x c.self.invariant.0.0 within read in
    c.accept_ready.ensures.succeeds (subst (λ (t : Table). HasRoomAtPlace c.args.size i c.args.instance t.pipes) (sym c.self.view_is) room x (get-there ps i x within read))
