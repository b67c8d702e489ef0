use Rattle.std.proofs.Common.{◌≡◌, ℕ, ◌<◌, List, length, sym, ap, ◌∙◌, subst}
use Rattle.std.specs.Prelude.{slice_set}
use Rattle.std.proofs.lemmas.Bool.{not-false}
use Rattle.emu_model.specs.Pipes.{pipe_arrive}
use Rattle.packet_store.specs.Pocket.{Pocket}
use Rattle.pipe_core.specs.Moves.{AreNamed}
use Rattle.pipe_core.specs.Keyed.{KeyedPipe, view}
use Rattle.pipe_core.proofs.CallerLemmas.{keeps-same}
use Rattle.pipe_table.specs.Table.{Table, pipe_keys}
use Rattle.pipe_table.specs.Places.{StandsAt, IsInside, IsRouted, HasRoomAtPlace}
use Rattle.pipe_table.proofs.At.{sound-at, named-at, keys-at, seed-at, arrive-at}
use Rattle.pipe_table.proofs.Indexes.{indexed-put, indexed-same, same-ids, indexed-within}
use Rattle.pipe_table.proofs.PlaceFacts.{get-there, standing-place, led-set, kept-set, inside-within, inside-of, route-inside, route-its}
use Rattle.pipe_table.proofs.table.PipeTable.arrive_at.Goals as goal

pub arrive_at-answer-requires-clause-inside : goal.arrive_at-answer-requires-clause-inside
arrive_at-answer-requires-clause-inside g c =
    let s = c.self.inside in
    let ps : List KeyedPipe = s.pipes.items in
    let i : ℕ = c.args.place in
    let x : KeyedPipe = c.index_mut-pipe.result.now in
    let read = c.index_mut-pipe.ensures.value in
    let route : IsRouted c.requires.route.0 c.args.packet.now i c.args.instance ps =
    subst (λ (t : Table). IsRouted c.requires.route.0 c.args.packet.now i c.args.instance t.pipes) (sym c.self.view_is) c.requires.route.1 in
    let inside : IsInside i c.args.instance ps = route-inside c.requires.route.0 c.args.packet.now i c.args.instance ps route in
    let within : i < length ps = inside-within i c.args.instance ps inside in
    inside-of i c.args.instance ps x inside read

pub arrive_at-answer-requires-clause-ready : goal.arrive_at-answer-requires-clause-ready
arrive_at-answer-requires-clause-ready g c =
    let s = c.self.inside in
    let ps : List KeyedPipe = s.pipes.items in
    let i : ℕ = c.args.place in
    let x : KeyedPipe = c.index_mut-pipe.result.now in
    let read = c.index_mut-pipe.ensures.value in
    let route : IsRouted c.requires.route.0 c.args.packet.now i c.args.instance ps =
    subst (λ (t : Table). IsRouted c.requires.route.0 c.args.packet.now i c.args.instance t.pipes) (sym c.self.view_is) c.requires.route.1 in
    let inside : IsInside i c.args.instance ps = route-inside c.requires.route.0 c.args.packet.now i c.args.instance ps route in
    let within : i < length ps = inside-within i c.args.instance ps inside in
    let ready : HasRoomAtPlace c.args.packet.now.size i c.args.instance ps =
    subst (λ (t : Table). HasRoomAtPlace c.args.packet.now.size i c.args.instance t.pipes) (sym c.self.view_is) c.requires.ready in
    ready x (get-there ps i x within read)

pub set-requires : goal.set-requires
set-requires g c =
    let s = c.self.inside in
    let ps : List KeyedPipe = s.pipes.items in
    let i : ℕ = c.args.place in
    let x : KeyedPipe = c.index_mut-pipe.result.now in
    let read = c.index_mut-pipe.ensures.value in
    let route : IsRouted c.requires.route.0 c.args.packet.now i c.args.instance ps =
    subst (λ (t : Table). IsRouted c.requires.route.0 c.args.packet.now i c.args.instance t.pipes) (sym c.self.view_is) c.requires.route.1 in
    let inside : IsInside i c.args.instance ps = route-inside c.requires.route.0 c.args.packet.now i c.args.instance ps route in
    let within : i < length ps = inside-within i c.args.instance ps inside in
    indexed-within ps s.dues i c.self.invariant.1 within

pub invariant_of-self : goal.invariant_of-self
invariant_of-self g c =
    let s = c.self.inside in
    let ps : List KeyedPipe = s.pipes.items in
    let i : ℕ = c.args.place in
    let x : KeyedPipe = c.index_mut-pipe.result.now in
    let read = c.index_mut-pipe.ensures.value in
    let route : IsRouted c.requires.route.0 c.args.packet.now i c.args.instance ps =
    subst (λ (t : Table). IsRouted c.requires.route.0 c.args.packet.now i c.args.instance t.pipes) (sym c.self.view_is) c.requires.route.1 in
    let inside : IsInside i c.args.instance ps = route-inside c.requires.route.0 c.args.packet.now i c.args.instance ps route in
    let within : i < length ps = inside-within i c.args.instance ps inside in
    let at : StandsAt x.number i ps = standing-place s.seed ps i x c.self.invariant.0.0 within read in (
      sound-at x.number i ps x at read s.seed c.arrive_at-answer.new.self c.self.invariant.0 (ap (λ (p : KeyedPipe). p.seed) c.arrive_at-answer.ensures.same) (ap (λ (p : KeyedPipe). p.number) c.arrive_at-answer.ensures.same),
      indexed-put ps i c.arrive_at-answer.new.self s.dues c.set.new.self c.self.invariant.1 within c.least.ensures.number c.least.ensures.few (λ f. c.set.ensures ∙ ap (λ d. record s.dues { leaves = slice_set s.dues.leaves i d }) (c.least.ensures.due f)),
      led-set ps i x c.arrive_at-answer.new.self s.places within read (ap (λ (p : KeyedPipe). p.number) c.arrive_at-answer.ensures.same) c.self.invariant.2,
    )

pub invariant_of-self-else-not-answer : goal.invariant_of-self-else-not-answer
invariant_of-self-else-not-answer g c =
    let s = c.self.inside in
    let ps : List KeyedPipe = s.pipes.items in
    let i : ℕ = c.args.place in
    let x : KeyedPipe = c.index_mut-pipe.result.now in
    let read = c.index_mut-pipe.ensures.value in
    let route : IsRouted c.requires.route.0 c.args.packet.now i c.args.instance ps =
    subst (λ (t : Table). IsRouted c.requires.route.0 c.args.packet.now i c.args.instance t.pipes) (sym c.self.view_is) c.requires.route.1 in
    let inside : IsInside i c.args.instance ps = route-inside c.requires.route.0 c.args.packet.now i c.args.instance ps route in
    let within : i < length ps = inside-within i c.args.instance ps inside in
    let at : StandsAt x.number i ps = standing-place s.seed ps i x c.self.invariant.0.0 within read in (
      sound-at x.number i ps x at read s.seed c.arrive_at-answer.new.self c.self.invariant.0 (ap (λ (p : KeyedPipe). p.seed) c.arrive_at-answer.ensures.same) (ap (λ (p : KeyedPipe). p.number) c.arrive_at-answer.ensures.same),
      indexed-same ps i x c.arrive_at-answer.new.self s.dues c.self.invariant.1 within read (ap (λ (p : KeyedPipe). p.number) c.arrive_at-answer.ensures.same)
          (same-ids x.slots c.arrive_at-answer.new.self.slots c.arrive_at-answer.ensures.ids) (c.arrive_at-answer.ensures.due (not-false _ c.if-not-answer.false)),
      led-set ps i x c.arrive_at-answer.new.self s.places within read (ap (λ (p : KeyedPipe). p.number) c.arrive_at-answer.ensures.same) c.self.invariant.2,
    )

pub returns-then-not-answer-clause-arrived : goal.returns-then-not-answer-clause-arrived
returns-then-not-answer-clause-arrived g c = λ k stands at n same now.
    let s = c.self.inside in
    let ps : List KeyedPipe = s.pipes.items in
    let i : ℕ = c.args.place in
    let x : KeyedPipe = c.index_mut-pipe.result.now in
    let read = c.index_mut-pipe.ensures.value in
    let route : IsRouted c.requires.route.0 c.args.packet.now i c.args.instance ps =
    subst (λ (t : Table). IsRouted c.requires.route.0 c.args.packet.now i c.args.instance t.pipes) (sym c.self.view_is) c.requires.route.1 in
    let inside : IsInside i c.args.instance ps = route-inside c.requires.route.0 c.args.packet.now i c.args.instance ps route in
    let within : i < length ps = inside-within i c.args.instance ps inside in
    let here : StandsAt k i ps = subst (λ (t : Table). StandsAt k i t.pipes) (sym c.self.view_is) stands in
    let p : Pocket = g.S.Shelf.pocket c.args.shelf.now c.args.owner in
    let q : Pocket = g.S.Shelf.pocket c.arrive_at-answer.new.shelf c.args.owner in
    let y : KeyedPipe = c.arrive_at-answer.new.self in
    let named : AreNamed (g.S.Shelf.pocket c.args.shelf.now c.args.owner) (pipe_keys ps) =
    subst (λ (t : Table). AreNamed (g.S.Shelf.pocket c.args.shelf.now c.args.owner) (pipe_keys t.pipes)) (sym c.self.view_is) c.requires.named in
    let seeds : at.seed ≡ x.seed = same ∙ ap (λ (t : Table). t.seed) (sym c.self.view_is) ∙ sym (seed-at k i ps x here read s.seed 0 c.self.invariant.0.0) in
    let came = c.arrive_at-answer.ensures.arrived (route-its c.requires.route.0 c.args.packet.now i c.args.instance ps x route read) (named-at k i ps x here read p named) in
    rw (← c.self.view_is, ← now) (arrive-at k i ps x here read c.keys_say_all.ensures.agree p q y named c.arrive_at-answer.ensures.keys
    at c.args.packet.now _ n s.seed
    ((λ t. pipe_arrive (seeds t) (now t) c.args.packet.now (view p x)) ∙ came))

pub returns-else-not-answer-clause-arrived : goal.returns-else-not-answer-clause-arrived
returns-else-not-answer-clause-arrived g c = λ k stands at n same now.
    let s = c.self.inside in
    let ps : List KeyedPipe = s.pipes.items in
    let i : ℕ = c.args.place in
    let x : KeyedPipe = c.index_mut-pipe.result.now in
    let read = c.index_mut-pipe.ensures.value in
    let route : IsRouted c.requires.route.0 c.args.packet.now i c.args.instance ps =
    subst (λ (t : Table). IsRouted c.requires.route.0 c.args.packet.now i c.args.instance t.pipes) (sym c.self.view_is) c.requires.route.1 in
    let inside : IsInside i c.args.instance ps = route-inside c.requires.route.0 c.args.packet.now i c.args.instance ps route in
    let within : i < length ps = inside-within i c.args.instance ps inside in
    let here : StandsAt k i ps = subst (λ (t : Table). StandsAt k i t.pipes) (sym c.self.view_is) stands in
    let p : Pocket = g.S.Shelf.pocket c.args.shelf.now c.args.owner in
    let q : Pocket = g.S.Shelf.pocket c.arrive_at-answer.new.shelf c.args.owner in
    let y : KeyedPipe = c.arrive_at-answer.new.self in
    let named : AreNamed (g.S.Shelf.pocket c.args.shelf.now c.args.owner) (pipe_keys ps) =
    subst (λ (t : Table). AreNamed (g.S.Shelf.pocket c.args.shelf.now c.args.owner) (pipe_keys t.pipes)) (sym c.self.view_is) c.requires.named in
    let seeds : at.seed ≡ x.seed = same ∙ ap (λ (t : Table). t.seed) (sym c.self.view_is) ∙ sym (seed-at k i ps x here read s.seed 0 c.self.invariant.0.0) in
    let came = c.arrive_at-answer.ensures.arrived (route-its c.requires.route.0 c.args.packet.now i c.args.instance ps x route read) (named-at k i ps x here read p named) in
    rw (← c.self.view_is, ← now) (arrive-at k i ps x here read c.keys_say_all.ensures.agree p q y named c.arrive_at-answer.ensures.keys
    at c.args.packet.now _ n s.seed
    ((λ t. pipe_arrive (seeds t) (now t) c.args.packet.now (view p x)) ∙ came))

pub returns-then-not-answer-clause-keys : goal.returns-then-not-answer-clause-keys
returns-then-not-answer-clause-keys g c =
    let s = c.self.inside in
    let ps : List KeyedPipe = s.pipes.items in
    let i : ℕ = c.args.place in
    let x : KeyedPipe = c.index_mut-pipe.result.now in
    let read = c.index_mut-pipe.ensures.value in
    let route : IsRouted c.requires.route.0 c.args.packet.now i c.args.instance ps =
    subst (λ (t : Table). IsRouted c.requires.route.0 c.args.packet.now i c.args.instance t.pipes) (sym c.self.view_is) c.requires.route.1 in
    let inside : IsInside i c.args.instance ps = route-inside c.requires.route.0 c.args.packet.now i c.args.instance ps route in
    let within : i < length ps = inside-within i c.args.instance ps inside in
    let at : StandsAt x.number i ps = standing-place s.seed ps i x c.self.invariant.0.0 within read in
    let p : Pocket = g.S.Shelf.pocket c.args.shelf.now c.args.owner in
    let q : Pocket = g.S.Shelf.pocket c.arrive_at-answer.new.shelf c.args.owner in
    let y : KeyedPipe = c.arrive_at-answer.new.self in
    rw (← c.self.view_is) (keys-at x.number i ps x at read p q y c.arrive_at-answer.ensures.keys)

pub returns-else-not-answer-clause-keys : goal.returns-else-not-answer-clause-keys
returns-else-not-answer-clause-keys g c =
    let s = c.self.inside in
    let ps : List KeyedPipe = s.pipes.items in
    let i : ℕ = c.args.place in
    let x : KeyedPipe = c.index_mut-pipe.result.now in
    let read = c.index_mut-pipe.ensures.value in
    let route : IsRouted c.requires.route.0 c.args.packet.now i c.args.instance ps =
    subst (λ (t : Table). IsRouted c.requires.route.0 c.args.packet.now i c.args.instance t.pipes) (sym c.self.view_is) c.requires.route.1 in
    let inside : IsInside i c.args.instance ps = route-inside c.requires.route.0 c.args.packet.now i c.args.instance ps route in
    let within : i < length ps = inside-within i c.args.instance ps inside in
    let at : StandsAt x.number i ps = standing-place s.seed ps i x c.self.invariant.0.0 within read in
    let p : Pocket = g.S.Shelf.pocket c.args.shelf.now c.args.owner in
    let q : Pocket = g.S.Shelf.pocket c.arrive_at-answer.new.shelf c.args.owner in
    let y : KeyedPipe = c.arrive_at-answer.new.self in
    rw (← c.self.view_is) (keys-at x.number i ps x at read p q y c.arrive_at-answer.ensures.keys)

pub returns-then-not-answer-clause-places : goal.returns-then-not-answer-clause-places
returns-then-not-answer-clause-places g c =
    let s = c.self.inside in
    let ps : List KeyedPipe = s.pipes.items in
    let i : ℕ = c.args.place in
    let x : KeyedPipe = c.index_mut-pipe.result.now in
    let read = c.index_mut-pipe.ensures.value in
    let route : IsRouted c.requires.route.0 c.args.packet.now i c.args.instance ps =
    subst (λ (t : Table). IsRouted c.requires.route.0 c.args.packet.now i c.args.instance t.pipes) (sym c.self.view_is) c.requires.route.1 in
    let inside : IsInside i c.args.instance ps = route-inside c.requires.route.0 c.args.packet.now i c.args.instance ps route in
    let within : i < length ps = inside-within i c.args.instance ps inside in
    let y : KeyedPipe = c.arrive_at-answer.new.self in
    rw (← c.self.view_is) (kept-set ps i x y within read (ap (λ (p : KeyedPipe). p.number) c.arrive_at-answer.ensures.same) (ap (λ (p : KeyedPipe). p.config.mask) c.arrive_at-answer.ensures.same) (keeps-same x.slots y.slots c.arrive_at-answer.ensures.ids))

pub returns-else-not-answer-clause-places : goal.returns-else-not-answer-clause-places
returns-else-not-answer-clause-places g c =
    let s = c.self.inside in
    let ps : List KeyedPipe = s.pipes.items in
    let i : ℕ = c.args.place in
    let x : KeyedPipe = c.index_mut-pipe.result.now in
    let read = c.index_mut-pipe.ensures.value in
    let route : IsRouted c.requires.route.0 c.args.packet.now i c.args.instance ps =
    subst (λ (t : Table). IsRouted c.requires.route.0 c.args.packet.now i c.args.instance t.pipes) (sym c.self.view_is) c.requires.route.1 in
    let inside : IsInside i c.args.instance ps = route-inside c.requires.route.0 c.args.packet.now i c.args.instance ps route in
    let within : i < length ps = inside-within i c.args.instance ps inside in
    let y : KeyedPipe = c.arrive_at-answer.new.self in
    rw (← c.self.view_is) (kept-set ps i x y within read (ap (λ (p : KeyedPipe). p.number) c.arrive_at-answer.ensures.same) (ap (λ (p : KeyedPipe). p.config.mask) c.arrive_at-answer.ensures.same) (keeps-same x.slots y.slots c.arrive_at-answer.ensures.ids))
