use Rattle.std.proofs.Common.{◌≡◌, ℕ, ◌<◌, List, length, sym, ap, ◌∙◌, subst}
use Rattle.std.specs.Prelude.{slice_set}
use Rattle.emu_model.specs.Pipes.{pipe_arrive}
use Rattle.packet_store.specs.Pocket.{Pocket}
use Rattle.pipe_core.specs.Moves.{AreNamed}
use Rattle.pipe_core.specs.Keyed.{KeyedPipe, view}
use Rattle.pipe_table.specs.Table.{Table, pipe_keys, HasRoomIn}
use Rattle.pipe_table.specs.Places.{StandsAt}
use Rattle.pipe_table.proofs.At.{sound-at, pipe-at, named-at, keys-at, seed-at, arrive-at}
use Rattle.pipe_table.proofs.Indexes.{indexed-put, indexed-within}
use Rattle.pipe_table.proofs.PlaceFacts.{stands-within, standing-place, led-set, kept-set}
use Rattle.pipe_table.proofs.table.PipeTable.arrive.Goals as goal

pub arrive-answer-requires-clause-named : goal.arrive-answer-requires-clause-named
arrive-answer-requires-clause-named g c =
    let s = c.self.inside in
    let ps : List KeyedPipe = s.pipes.items in
    let i : ℕ = c.args.place in
    let x : KeyedPipe = c.index_mut-pipe.result.now in
    let read = c.index_mut-pipe.ensures.value in
    let k : ℕ = c.requires.there.0 in
    let here : StandsAt k i ps = subst (λ (t : Table). StandsAt k i t.pipes) (sym c.self.view_is) c.requires.there.1 in
    let within : i < length ps = stands-within k i ps here in
    let named : AreNamed (g.S.Shelf.pocket c.args.shelf.now c.args.owner) (pipe_keys ps) =
    subst (λ (t : Table). AreNamed (g.S.Shelf.pocket c.args.shelf.now c.args.owner) (pipe_keys t.pipes)) (sym c.self.view_is) c.requires.named in
    named-at k i ps x here read (g.S.Shelf.pocket c.args.shelf.now c.args.owner) named

pub arrive-answer-requires-clause-ready : goal.arrive-answer-requires-clause-ready
arrive-answer-requires-clause-ready g c =
    let s = c.self.inside in
    let ps : List KeyedPipe = s.pipes.items in
    let i : ℕ = c.args.place in
    let x : KeyedPipe = c.index_mut-pipe.result.now in
    let read = c.index_mut-pipe.ensures.value in
    let k : ℕ = c.requires.there.0 in
    let here : StandsAt k i ps = subst (λ (t : Table). StandsAt k i t.pipes) (sym c.self.view_is) c.requires.there.1 in
    let within : i < length ps = stands-within k i ps here in
    (subst (λ (t : Table). HasRoomIn k c.args.packet.now t.pipes) (sym c.self.view_is) c.requires.there.2) x (pipe-at k i ps x here read)

pub set-requires : goal.set-requires
set-requires g c =
    let s = c.self.inside in
    let ps : List KeyedPipe = s.pipes.items in
    let i : ℕ = c.args.place in
    let x : KeyedPipe = c.index_mut-pipe.result.now in
    let read = c.index_mut-pipe.ensures.value in
    let k : ℕ = c.requires.there.0 in
    let here : StandsAt k i ps = subst (λ (t : Table). StandsAt k i t.pipes) (sym c.self.view_is) c.requires.there.1 in
    let within : i < length ps = stands-within k i ps here in
    indexed-within ps s.dues i c.self.invariant.1 within

pub invariant_of-self : goal.invariant_of-self
invariant_of-self g c =
    let s = c.self.inside in
    let ps : List KeyedPipe = s.pipes.items in
    let i : ℕ = c.args.place in
    let x : KeyedPipe = c.index_mut-pipe.result.now in
    let read = c.index_mut-pipe.ensures.value in
    let k : ℕ = c.requires.there.0 in
    let here : StandsAt k i ps = subst (λ (t : Table). StandsAt k i t.pipes) (sym c.self.view_is) c.requires.there.1 in
    let within : i < length ps = stands-within k i ps here in
    let y : KeyedPipe = c.arrive-answer.new.self in
    let at : StandsAt x.number i ps = standing-place s.seed ps i x c.self.invariant.0.0 within read in (
      sound-at x.number i ps x at read s.seed y c.self.invariant.0 (ap (λ (p : KeyedPipe). p.seed) c.arrive-answer.ensures.same) (ap (λ (p : KeyedPipe). p.number) c.arrive-answer.ensures.same),
      indexed-put ps i y s.dues c.set.new.self c.self.invariant.1 within c.least.ensures.number c.least.ensures.few (λ f. c.set.ensures ∙ ap (λ d. record s.dues { leaves = slice_set s.dues.leaves i d }) (c.least.ensures.due f)),
      led-set ps i x y s.places within read (ap (λ (p : KeyedPipe). p.number) c.arrive-answer.ensures.same) c.self.invariant.2,
    )

pub returns-clause-arrived : goal.returns-clause-arrived
returns-clause-arrived g c = λ j stands at n same now.
    let s = c.self.inside in
    let ps : List KeyedPipe = s.pipes.items in
    let i : ℕ = c.args.place in
    let x : KeyedPipe = c.index_mut-pipe.result.now in
    let read = c.index_mut-pipe.ensures.value in
    let here : StandsAt j i ps = subst (λ (t : Table). StandsAt j i t.pipes) (sym c.self.view_is) stands in
    let p : Pocket = g.S.Shelf.pocket c.args.shelf.now c.args.owner in
    let q : Pocket = g.S.Shelf.pocket c.arrive-answer.new.shelf c.args.owner in
    let y : KeyedPipe = c.arrive-answer.new.self in
    let named : AreNamed (g.S.Shelf.pocket c.args.shelf.now c.args.owner) (pipe_keys ps) =
    subst (λ (t : Table). AreNamed (g.S.Shelf.pocket c.args.shelf.now c.args.owner) (pipe_keys t.pipes)) (sym c.self.view_is) c.requires.named in
    let seeds : at.seed ≡ x.seed = same ∙ ap (λ (t : Table). t.seed) (sym c.self.view_is) ∙ sym (seed-at j i ps x here read s.seed 0 c.self.invariant.0.0) in
    rw (← c.self.view_is, ← now) (arrive-at j i ps x here read c.keys_say_all.ensures.agree p q y named c.arrive-answer.ensures.keys
    at c.args.packet.now _ n s.seed
    ((λ t. pipe_arrive (seeds t) (now t) c.args.packet.now (view p x)) ∙ c.arrive-answer.ensures.arrived))

pub returns-clause-keys : goal.returns-clause-keys
returns-clause-keys g c =
    let s = c.self.inside in
    let ps : List KeyedPipe = s.pipes.items in
    let i : ℕ = c.args.place in
    let x : KeyedPipe = c.index_mut-pipe.result.now in
    let read = c.index_mut-pipe.ensures.value in
    let k : ℕ = c.requires.there.0 in
    let here : StandsAt k i ps = subst (λ (t : Table). StandsAt k i t.pipes) (sym c.self.view_is) c.requires.there.1 in
    let within : i < length ps = stands-within k i ps here in
    let at : StandsAt x.number i ps = standing-place s.seed ps i x c.self.invariant.0.0 within read in
    let p : Pocket = g.S.Shelf.pocket c.args.shelf.now c.args.owner in
    let q : Pocket = g.S.Shelf.pocket c.arrive-answer.new.shelf c.args.owner in
    rw (← c.self.view_is) (keys-at x.number i ps x at read p q c.arrive-answer.new.self c.arrive-answer.ensures.keys)

pub returns-clause-places : goal.returns-clause-places
returns-clause-places g c =
    let s = c.self.inside in
    let ps : List KeyedPipe = s.pipes.items in
    let i : ℕ = c.args.place in
    let x : KeyedPipe = c.index_mut-pipe.result.now in
    let read = c.index_mut-pipe.ensures.value in
    let k : ℕ = c.requires.there.0 in
    let here : StandsAt k i ps = subst (λ (t : Table). StandsAt k i t.pipes) (sym c.self.view_is) c.requires.there.1 in
    let within : i < length ps = stands-within k i ps here in
    let y : KeyedPipe = c.arrive-answer.new.self in
    rw (← c.self.view_is) (kept-set ps i x y within read (ap (λ (p : KeyedPipe). p.number) c.arrive-answer.ensures.same) (ap (λ (p : KeyedPipe). p.config.mask) c.arrive-answer.ensures.same) c.arrive-answer.ensures.ids)
