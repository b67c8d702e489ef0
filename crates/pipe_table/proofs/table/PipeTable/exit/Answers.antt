use Rattle.std.proofs.Common.{ℕ, ◌<◌, List, length, sym, ap, ◌∙◌, subst}
use Rattle.std.specs.Prelude.{option_and_then, slice_set}
use Rattle.emu_model.specs.Events.{flying_in}
use Rattle.packet_store.specs.Pocket.{Pocket}
use Rattle.pipe_core.specs.Moves.{AreNamed}
use Rattle.pipe_core.specs.Keyed.{KeyedPipe}
use Rattle.pipe_core.proofs.CallerLemmas.{keeps-same}
use Rattle.pipe_table.specs.Table.{Table, pipe_keys}
use Rattle.pipe_table.specs.Places.{StandsAt, IsInside}
use Rattle.pipe_table.proofs.NetFacts.{find-some}
use Rattle.pipe_table.proofs.At.{sound-at, ready-at, pipe-at, named-at, keys-at, exit-at}
use Rattle.pipe_table.proofs.Indexes.{indexed-put, indexed-within}
use Rattle.pipe_table.proofs.PlaceFacts.{standing-place, led-set, kept-set, rooms-set, inside-within, inside-of}
use Rattle.pipe_table.proofs.table.PipeTable.exit.Goals as goal

pub exit-packet-requires-clause-inside : goal.exit-packet-requires-clause-inside
exit-packet-requires-clause-inside g c =
    let s = c.self.inside in
    let ps : List KeyedPipe = s.pipes.items in
    let i : ℕ = c.args.place in
    let x : KeyedPipe = c.index_mut-pipe.result.now in
    let read = c.index_mut-pipe.ensures.value in
    let inside : IsInside i c.args.instance ps = subst (λ (t : Table). IsInside i c.args.instance t.pipes) (sym c.self.view_is) c.requires.inside in
    let within : i < length ps = inside-within i c.args.instance ps inside in
    inside-of i c.args.instance ps x inside read

pub exit-packet-requires-clause-named : goal.exit-packet-requires-clause-named
exit-packet-requires-clause-named g c =
    let s = c.self.inside in
    let ps : List KeyedPipe = s.pipes.items in
    let i : ℕ = c.args.place in
    let x : KeyedPipe = c.index_mut-pipe.result.now in
    let read = c.index_mut-pipe.ensures.value in
    let inside : IsInside i c.args.instance ps = subst (λ (t : Table). IsInside i c.args.instance t.pipes) (sym c.self.view_is) c.requires.inside in
    let within : i < length ps = inside-within i c.args.instance ps inside in
    let at : StandsAt x.number i ps = standing-place s.seed ps i x c.self.invariant.0.0 within read in
    let named : AreNamed (g.S.Shelf.pocket c.args.shelf.now c.args.owner) (pipe_keys ps) =
    subst (λ (t : Table). AreNamed (g.S.Shelf.pocket c.args.shelf.now c.args.owner) (pipe_keys t.pipes)) (sym c.self.view_is) c.requires.named in
    named-at x.number i ps x at read (g.S.Shelf.pocket c.args.shelf.now c.args.owner) named

pub set_least-requires : goal.set_least-requires
set_least-requires g c =
    let s = c.self.inside in
    let ps : List KeyedPipe = s.pipes.items in
    let i : ℕ = c.args.place in
    let x : KeyedPipe = c.index_mut-pipe.result.now in
    let read = c.index_mut-pipe.ensures.value in
    let inside : IsInside i c.args.instance ps = subst (λ (t : Table). IsInside i c.args.instance t.pipes) (sym c.self.view_is) c.requires.inside in
    let within : i < length ps = inside-within i c.args.instance ps inside in
    indexed-within ps s.dues i c.self.invariant.1 within

pub invariant_of-self : goal.invariant_of-self
invariant_of-self g c =
    let s = c.self.inside in
    let ps : List KeyedPipe = s.pipes.items in
    let i : ℕ = c.args.place in
    let x : KeyedPipe = c.index_mut-pipe.result.now in
    let read = c.index_mut-pipe.ensures.value in
    let inside : IsInside i c.args.instance ps = subst (λ (t : Table). IsInside i c.args.instance t.pipes) (sym c.self.view_is) c.requires.inside in
    let within : i < length ps = inside-within i c.args.instance ps inside in
    let at : StandsAt x.number i ps = standing-place s.seed ps i x c.self.invariant.0.0 within read in (
      sound-at x.number i ps x at read s.seed c.exit-packet.new.self c.self.invariant.0 (ap (λ (p : KeyedPipe). p.seed) c.exit-packet.ensures.same) (ap (λ (p : KeyedPipe). p.number) c.exit-packet.ensures.same),
      indexed-put ps i c.exit-packet.new.self s.dues c.set_least.new.self c.self.invariant.1 within c.least.ensures.number c.least.ensures.few (λ f. c.set_least.ensures ∙ ap (λ d. record s.dues { leaves = slice_set s.dues.leaves i d }) (c.least.ensures.due f)),
      led-set ps i x c.exit-packet.new.self s.places within read (ap (λ (p : KeyedPipe). p.number) c.exit-packet.ensures.same) c.self.invariant.2,
    )

pub returns-clause-gone : goal.returns-clause-gone
returns-clause-gone g c = λ k stands at n.
    let s = c.self.inside in
    let ps : List KeyedPipe = s.pipes.items in
    let i : ℕ = c.args.place in
    let x : KeyedPipe = c.index_mut-pipe.result.now in
    let read = c.index_mut-pipe.ensures.value in
    let here : StandsAt k i ps = subst (λ (t : Table). StandsAt k i t.pipes) (sym c.self.view_is) stands in
    let p : Pocket = g.S.Shelf.pocket c.args.shelf.now c.args.owner in
    let q : Pocket = g.S.Shelf.pocket c.exit-packet.new.shelf c.args.owner in
    let y : KeyedPipe = c.exit-packet.new.self in
    let named : AreNamed (g.S.Shelf.pocket c.args.shelf.now c.args.owner) (pipe_keys ps) =
    subst (λ (t : Table). AreNamed (g.S.Shelf.pocket c.args.shelf.now c.args.owner) (pipe_keys t.pipes)) (sym c.self.view_is) c.requires.named in
    rw (← c.self.view_is)
    (exit-at k i ps x here read c.keys_say_all.ensures.agree p q y named c.exit-packet.ensures.keys
    at c.args.instance c.exit-packet.result n s.seed c.exit-packet.ensures.packet c.exit-packet.ensures.shown)

pub returns-clause-packet : goal.returns-clause-packet
returns-clause-packet g c = λ k stands n.
    let s = c.self.inside in
    let ps : List KeyedPipe = s.pipes.items in
    let i : ℕ = c.args.place in
    let x : KeyedPipe = c.index_mut-pipe.result.now in
    let read = c.index_mut-pipe.ensures.value in
    let here : StandsAt k i ps = subst (λ (t : Table). StandsAt k i t.pipes) (sym c.self.view_is) stands in
    let p : Pocket = g.S.Shelf.pocket c.args.shelf.now c.args.owner in
    rw (← c.self.view_is)
    (c.exit-packet.ensures.packet ∙ sym (ap (option_and_then (flying_in c.args.instance)) (find-some p k ps x n (pipe-at k i ps x here read))))

pub returns-clause-keys : goal.returns-clause-keys
returns-clause-keys g c =
    let s = c.self.inside in
    let ps : List KeyedPipe = s.pipes.items in
    let i : ℕ = c.args.place in
    let x : KeyedPipe = c.index_mut-pipe.result.now in
    let read = c.index_mut-pipe.ensures.value in
    let inside : IsInside i c.args.instance ps = subst (λ (t : Table). IsInside i c.args.instance t.pipes) (sym c.self.view_is) c.requires.inside in
    let within : i < length ps = inside-within i c.args.instance ps inside in
    let at : StandsAt x.number i ps = standing-place s.seed ps i x c.self.invariant.0.0 within read in
    let p : Pocket = g.S.Shelf.pocket c.args.shelf.now c.args.owner in
    let q : Pocket = g.S.Shelf.pocket c.exit-packet.new.shelf c.args.owner in
    let y : KeyedPipe = c.exit-packet.new.self in
    rw (← c.self.view_is) (keys-at x.number i ps x at read p q y c.exit-packet.ensures.keys)

pub returns-clause-places : goal.returns-clause-places
returns-clause-places g c =
    let s = c.self.inside in
    let ps : List KeyedPipe = s.pipes.items in
    let i : ℕ = c.args.place in
    let x : KeyedPipe = c.index_mut-pipe.result.now in
    let read = c.index_mut-pipe.ensures.value in
    let inside : IsInside i c.args.instance ps = subst (λ (t : Table). IsInside i c.args.instance t.pipes) (sym c.self.view_is) c.requires.inside in
    let within : i < length ps = inside-within i c.args.instance ps inside in
    let y : KeyedPipe = c.exit-packet.new.self in
    rw (← c.self.view_is) (kept-set ps i x y within read (ap (λ (p : KeyedPipe). p.number) c.exit-packet.ensures.same) (ap (λ (p : KeyedPipe). p.config.mask) c.exit-packet.ensures.same) (keeps-same x.slots y.slots c.exit-packet.ensures.ids))

pub returns-clause-ready : goal.returns-clause-ready
returns-clause-ready g c =
    let s = c.self.inside in
    let ps : List KeyedPipe = s.pipes.items in
    let i : ℕ = c.args.place in
    let x : KeyedPipe = c.index_mut-pipe.result.now in
    let read = c.index_mut-pipe.ensures.value in
    let inside : IsInside i c.args.instance ps = subst (λ (t : Table). IsInside i c.args.instance t.pipes) (sym c.self.view_is) c.requires.inside in
    let within : i < length ps = inside-within i c.args.instance ps inside in
    let at : StandsAt x.number i ps = standing-place s.seed ps i x c.self.invariant.0.0 within read in
    rw (← c.self.view_is) (ready-at x.number i ps x at read c.exit-packet.new.self (ap (λ (p : KeyedPipe). p.number) c.exit-packet.ensures.same) c.exit-packet.ensures.ready)

pub returns-clause-ready_at : goal.returns-clause-ready_at
returns-clause-ready_at g c =
    let s = c.self.inside in
    let ps : List KeyedPipe = s.pipes.items in
    let i : ℕ = c.args.place in
    let x : KeyedPipe = c.index_mut-pipe.result.now in
    let read = c.index_mut-pipe.ensures.value in
    let inside : IsInside i c.args.instance ps = subst (λ (t : Table). IsInside i c.args.instance t.pipes) (sym c.self.view_is) c.requires.inside in
    let within : i < length ps = inside-within i c.args.instance ps inside in
    rw (← c.self.view_is) (rooms-set ps i x c.exit-packet.new.self within read c.exit-packet.ensures.ready_at)
