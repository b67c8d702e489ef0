use Rattle.std.proofs.Common.{ℕ, ◌<◌, List, length, sym, ap, subst, vec_capacity, ◌∙◌}
use Rattle.std.specs.Prelude.{slice_set}
use Rattle.packet_store.specs.Pocket.{Pocket}
use Rattle.pipe_core.specs.Moves.{packet_at, AreNamed}
use Rattle.pipe_core.specs.Keyed.{KeyedPipe}
use Rattle.pipe_core.proofs.CallerLemmas.{keeps-same}
use Rattle.pipe_table.specs.Table.{Table, pipe_keys, IsFinishing}
use Rattle.pipe_table.specs.Places.{StandsAt, HasLineRoomIn, IsFreeIn, IsPlainIn}
use Rattle.pipe_table.proofs.At.{sound-at, grown-set, pipe-at, named-at, keys-at, finish-told, err-by, finishing-at}
use Rattle.pipe_table.proofs.Indexes.{indexed-put, indexed-within}
use Rattle.pipe_table.proofs.PlaceFacts.{get-there, stands-within, standing-place, led-set, kept-set}
use Rattle.pipe_table.proofs.table.PipeTable.finish.Goals as goal

pub finish-finished-requires-clause-due : goal.finish-finished-requires-clause-due
finish-finished-requires-clause-due g c =
    let s = c.self.inside in
    let ps : List KeyedPipe = s.pipes.items in
    let i : ℕ = c.args.place in
    let x : KeyedPipe = c.index_mut-pipe.result.now in
    let read = c.index_mut-pipe.ensures.value in
    let k : ℕ = c.requires.due.0 in
    let here : StandsAt k i ps = subst (λ (t : Table). StandsAt k i t.pipes) (sym c.self.view_is) c.requires.due.1 in
    let due : IsFinishing k c.args.instance c.args.now ps = subst (λ (t : Table). IsFinishing k c.args.instance c.args.now t.pipes) (sym c.self.view_is) c.requires.due.2 in
    let within : i < length ps = stands-within k i ps here in
    finishing-at k c.args.instance c.args.now ps x (pipe-at k i ps x here read) due (packet_at (g.S.Shelf.pocket c.args.shelf.now c.args.owner).find)

pub finish-finished-requires-clause-named : goal.finish-finished-requires-clause-named
finish-finished-requires-clause-named g c =
    let s = c.self.inside in
    let ps : List KeyedPipe = s.pipes.items in
    let i : ℕ = c.args.place in
    let x : KeyedPipe = c.index_mut-pipe.result.now in
    let read = c.index_mut-pipe.ensures.value in
    let k : ℕ = c.requires.due.0 in
    let here : StandsAt k i ps = subst (λ (t : Table). StandsAt k i t.pipes) (sym c.self.view_is) c.requires.due.1 in
    let due : IsFinishing k c.args.instance c.args.now ps = subst (λ (t : Table). IsFinishing k c.args.instance c.args.now t.pipes) (sym c.self.view_is) c.requires.due.2 in
    let within : i < length ps = stands-within k i ps here in
    let named : AreNamed (g.S.Shelf.pocket c.args.shelf.now c.args.owner) (pipe_keys ps) =
    subst (λ (t : Table). AreNamed (g.S.Shelf.pocket c.args.shelf.now c.args.owner) (pipe_keys t.pipes)) (sym c.self.view_is) c.requires.named in
    named-at k i ps x here read (g.S.Shelf.pocket c.args.shelf.now c.args.owner) named

pub finish-finished-requires-clause-plain : goal.finish-finished-requires-clause-plain
finish-finished-requires-clause-plain g c =
    let s = c.self.inside in
    let ps : List KeyedPipe = s.pipes.items in
    let i : ℕ = c.args.place in
    let x : KeyedPipe = c.index_mut-pipe.result.now in
    let read = c.index_mut-pipe.ensures.value in
    let k : ℕ = c.requires.due.0 in
    let here : StandsAt k i ps = subst (λ (t : Table). StandsAt k i t.pipes) (sym c.self.view_is) c.requires.due.1 in
    let due : IsFinishing k c.args.instance c.args.now ps = subst (λ (t : Table). IsFinishing k c.args.instance c.args.now t.pipes) (sym c.self.view_is) c.requires.due.2 in
    let within : i < length ps = stands-within k i ps here in
    λ yes. (subst (λ (t : Table). IsPlainIn i c.args.instance c.args.now t.pipes) (sym c.self.view_is) (c.requires.plain yes)) x (get-there ps i x within read)

pub set_least-requires : goal.set_least-requires
set_least-requires g c =
    let s = c.self.inside in
    let ps : List KeyedPipe = s.pipes.items in
    let i : ℕ = c.args.place in
    let x : KeyedPipe = c.index_mut-pipe.result.now in
    let read = c.index_mut-pipe.ensures.value in
    let k : ℕ = c.requires.due.0 in
    let here : StandsAt k i ps = subst (λ (t : Table). StandsAt k i t.pipes) (sym c.self.view_is) c.requires.due.1 in
    let due : IsFinishing k c.args.instance c.args.now ps = subst (λ (t : Table). IsFinishing k c.args.instance c.args.now t.pipes) (sym c.self.view_is) c.requires.due.2 in
    let within : i < length ps = stands-within k i ps here in
    indexed-within ps s.dues i c.self.invariant.1 within

pub invariant_of-self : goal.invariant_of-self
invariant_of-self g c =
    let s = c.self.inside in
    let ps : List KeyedPipe = s.pipes.items in
    let i : ℕ = c.args.place in
    let x : KeyedPipe = c.index_mut-pipe.result.now in
    let read = c.index_mut-pipe.ensures.value in
    let k : ℕ = c.requires.due.0 in
    let here : StandsAt k i ps = subst (λ (t : Table). StandsAt k i t.pipes) (sym c.self.view_is) c.requires.due.1 in
    let due : IsFinishing k c.args.instance c.args.now ps = subst (λ (t : Table). IsFinishing k c.args.instance c.args.now t.pipes) (sym c.self.view_is) c.requires.due.2 in
    let within : i < length ps = stands-within k i ps here in
    let at : StandsAt x.number i ps = standing-place s.seed ps i x c.self.invariant.0.0 within read in (
      sound-at x.number i ps x at read s.seed c.finish-finished.new.self c.self.invariant.0 (ap (λ (p : KeyedPipe). p.seed) c.finish-finished.ensures.same) (ap (λ (p : KeyedPipe). p.number) c.finish-finished.ensures.same),
      indexed-put ps i c.finish-finished.new.self s.dues c.set_least.new.self c.self.invariant.1 within c.least.ensures.number c.least.ensures.few (λ f. c.set_least.ensures ∙ ap (λ d. record s.dues { leaves = slice_set s.dues.leaves i d }) (c.least.ensures.due f)),
      led-set ps i x c.finish-finished.new.self s.places within read (ap (λ (p : KeyedPipe). p.number) c.finish-finished.ensures.same) c.self.invariant.2,
    )

pub returns-clause-ok : goal.returns-clause-ok
returns-clause-ok g c =
    let s = c.self.inside in
    let ps : List KeyedPipe = s.pipes.items in
    let i : ℕ = c.args.place in
    let x : KeyedPipe = c.index_mut-pipe.result.now in
    let read = c.index_mut-pipe.ensures.value in
    let p : Pocket = g.S.Shelf.pocket c.args.shelf.now c.args.owner in
    let named : AreNamed (g.S.Shelf.pocket c.args.shelf.now c.args.owner) (pipe_keys ps) =
    subst (λ (t : Table). AreNamed (g.S.Shelf.pocket c.args.shelf.now c.args.owner) (pipe_keys t.pipes)) (sym c.self.view_is) c.requires.named in
    finish-told p (g.S.Shelf.pocket c.finish-finished.new.shelf c.args.owner) ps i x s.seed c.args.self.now (sym c.self.view_is) read c.keys_say_all.ensures.agree c.finish-finished.new.self named c.finish-finished.ensures.keys
    c.args.instance c.args.now c.finish-finished.new.drops.items c.finish-finished.result c.finish-finished.ensures.served c.finish-finished.ensures.ok

pub returns-clause-keys : goal.returns-clause-keys
returns-clause-keys g c =
    let s = c.self.inside in
    let ps : List KeyedPipe = s.pipes.items in
    let i : ℕ = c.args.place in
    let x : KeyedPipe = c.index_mut-pipe.result.now in
    let read = c.index_mut-pipe.ensures.value in
    let k : ℕ = c.requires.due.0 in
    let here : StandsAt k i ps = subst (λ (t : Table). StandsAt k i t.pipes) (sym c.self.view_is) c.requires.due.1 in
    let due : IsFinishing k c.args.instance c.args.now ps = subst (λ (t : Table). IsFinishing k c.args.instance c.args.now t.pipes) (sym c.self.view_is) c.requires.due.2 in
    let within : i < length ps = stands-within k i ps here in
    let at : StandsAt x.number i ps = standing-place s.seed ps i x c.self.invariant.0.0 within read in
    let p : Pocket = g.S.Shelf.pocket c.args.shelf.now c.args.owner in
    let q : Pocket = g.S.Shelf.pocket c.finish-finished.new.shelf c.args.owner in
    rw (← c.self.view_is) (keys-at x.number i ps x at read p q c.finish-finished.new.self c.finish-finished.ensures.keys)

pub returns-clause-places : goal.returns-clause-places
returns-clause-places g c =
    let s = c.self.inside in
    let ps : List KeyedPipe = s.pipes.items in
    let i : ℕ = c.args.place in
    let x : KeyedPipe = c.index_mut-pipe.result.now in
    let read = c.index_mut-pipe.ensures.value in
    let k : ℕ = c.requires.due.0 in
    let here : StandsAt k i ps = subst (λ (t : Table). StandsAt k i t.pipes) (sym c.self.view_is) c.requires.due.1 in
    let due : IsFinishing k c.args.instance c.args.now ps = subst (λ (t : Table). IsFinishing k c.args.instance c.args.now t.pipes) (sym c.self.view_is) c.requires.due.2 in
    let within : i < length ps = stands-within k i ps here in
    let y : KeyedPipe = c.finish-finished.new.self in
    rw (← c.self.view_is) (kept-set ps i x y within read (ap (λ (p : KeyedPipe). p.number) c.finish-finished.ensures.same) (ap (λ (p : KeyedPipe). p.config.mask) c.finish-finished.ensures.same) (keeps-same x.slots y.slots c.finish-finished.ensures.ids))

pub returns-clause-refused : goal.returns-clause-refused
returns-clause-refused g c =
    let s = c.self.inside in
    let ps : List KeyedPipe = s.pipes.items in
    let i : ℕ = c.args.place in
    let x : KeyedPipe = c.index_mut-pipe.result.now in
    let read = c.index_mut-pipe.ensures.value in
    let k : ℕ = c.requires.due.0 in
    let here : StandsAt k i ps = subst (λ (t : Table). StandsAt k i t.pipes) (sym c.self.view_is) c.requires.due.1 in
    let due : IsFinishing k c.args.instance c.args.now ps = subst (λ (t : Table). IsFinishing k c.args.instance c.args.now t.pipes) (sym c.self.view_is) c.requires.due.2 in
    let within : i < length ps = stands-within k i ps here in
    rw (← c.self.view_is) (err-by c.finish-finished.result (grown-set k i ps x here read c.finish-finished.new.self) c.finish-finished.ensures.refused)

pub returns-clause-succeeds : goal.returns-clause-succeeds
returns-clause-succeeds g c = λ room.
    let s = c.self.inside in
    let ps : List KeyedPipe = s.pipes.items in
    let i : ℕ = c.args.place in
    let x : KeyedPipe = c.index_mut-pipe.result.now in
    let read = c.index_mut-pipe.ensures.value in
    let k : ℕ = c.requires.due.0 in
    let here : StandsAt k i ps = subst (λ (t : Table). StandsAt k i t.pipes) (sym c.self.view_is) c.requires.due.1 in
    let due : IsFinishing k c.args.instance c.args.now ps = subst (λ (t : Table). IsFinishing k c.args.instance c.args.now t.pipes) (sym c.self.view_is) c.requires.due.2 in
    let within : i < length ps = stands-within k i ps here in
    c.finish-finished.ensures.succeeds (subst (λ (t : Table). IsFreeIn i c.args.instance c.args.now (vec_capacity c.args.drops.now) t.pipes) (sym c.self.view_is) room x (get-there ps i x within read))

pub returns-clause-plainly : goal.returns-clause-plainly
returns-clause-plainly g c = λ yes room.
    let s = c.self.inside in
    let ps : List KeyedPipe = s.pipes.items in
    let i : ℕ = c.args.place in
    let x : KeyedPipe = c.index_mut-pipe.result.now in
    let read = c.index_mut-pipe.ensures.value in
    let k : ℕ = c.requires.due.0 in
    let here : StandsAt k i ps = subst (λ (t : Table). StandsAt k i t.pipes) (sym c.self.view_is) c.requires.due.1 in
    let due : IsFinishing k c.args.instance c.args.now ps = subst (λ (t : Table). IsFinishing k c.args.instance c.args.now t.pipes) (sym c.self.view_is) c.requires.due.2 in
    let within : i < length ps = stands-within k i ps here in
    c.finish-finished.ensures.plainly yes (subst (λ (t : Table). HasLineRoomIn i c.args.instance t.pipes) (sym c.self.view_is) room x (get-there ps i x within read))
