use Rattle.std.proofs.Common.{ℕ, ◌-◌, ◌∙◌, List, set, sym, ap, subst, vec_len, vec_capacity}
use Rattle.std.specs.Prelude.{min, OnErr}
use Rattle.emu_model.specs.declared.pipes.PipeConfig.{PipeConfig}
use Rattle.packet_store.specs.Pocket.{Pocket}
use Rattle.pipe_core.specs.declared.slot.Slot.{Slot}
use Rattle.pipe_core.specs.Keyed.{KeyedPipe, ids_of}
use Rattle.pipe_core.specs.Steps.{HasLineRoomAt, IsFreeAt, IsGrown, IsPlainAt}
use Rattle.pipe_core.proofs.InstancePlaces.{named_inside, slot_at, pipe_at, named_at, keeps_at, get_at, ids_same}
use Rattle.pipe_core.proofs.FinishViews.{within_due, place_due, due_at, finish_place, finish_keeps, finish_view, served_view, refused_grown, on_ok_by, if_ok_by, on_err}
use Rattle.pipe_core.proofs.DueLeaves.{leaves_set, leaves_within, number_at}
use Rattle.due_index.specs.Places.{Places}
use Rattle.pipe_core.proofs.pipe.Pipe.finish.Goals as goal

pub finish-finished-requires-clause-tuned : goal.finish-finished-requires-clause-tuned
finish-finished-requires-clause-tuned g c =
    let s = c.self.inside in
    let at = place_due (g.S.Shelf.pocket c.args.shelf.now c.args.owner) c.args.instance c.self.view_is c.requires.due c.index_mut-slot.ensures.value in
    (slot_at _ _ _ at s.config s.seed s.number s.ids.ids c.self.invariant.0).tuned

pub finish-finished-requires-clause-due : goal.finish-finished-requires-clause-due
finish-finished-requires-clause-due g c = due_at (g.S.Shelf.pocket c.args.shelf.now c.args.owner) c.args.instance c.self.view_is c.requires.due c.index_mut-slot.ensures.value

pub finish-finished-requires-clause-named : goal.finish-finished-requires-clause-named
finish-finished-requires-clause-named g c =
    let at = place_due (g.S.Shelf.pocket c.args.shelf.now c.args.owner) c.args.instance c.self.view_is c.requires.due c.index_mut-slot.ensures.value in
    named_at _ _ _ at _ (named_inside c.self.view_is c.requires.named)

pub invariant_of-self : goal.invariant_of-self
invariant_of-self g c =
    let s = c.self.inside in
    let y : Slot = c.finish-finished.new.self in
    let at = place_due (g.S.Shelf.pocket c.args.shelf.now c.args.owner) c.args.instance c.self.view_is c.requires.due c.index_mut-slot.ensures.value in (
      pipe_at _ _ _ at s.config s.seed s.number s.ids.ids y
          (finish_place s.config c.args.now y.instance.delay_line.spare c.finish-finished.new.drops.items _ _ _ y c.finish-finished.result c.finish-finished.ensures.finished c.finish-finished.ensures.refused) c.self.invariant.0,
      leaves_set s.slots.items c.args.instance y s.dues c.set_least.new.self c.due.result c.self.invariant.1
          c.due.ensures c.set_least.ensures,
      c.self.invariant.2,
    )

abbrev inside_of : PipeConfig → ℕ → ℕ → List Slot → ℕ → KeyedPipe
inside_of config seed number slots spare =
    record { seed = seed; number = number; config = config; slots = slots; spare = spare }

pub returns-clause-served : goal.returns-clause-served
returns-clause-served g c =
    let s = c.self.inside in
    let at = place_due (g.S.Shelf.pocket c.args.shelf.now c.args.owner) c.args.instance c.self.view_is c.requires.due c.index_mut-slot.ensures.value in
    let p : Pocket = g.S.Shelf.pocket c.args.shelf.now c.args.owner in
    let q : Pocket = g.S.Shelf.pocket c.finish-finished.new.shelf c.args.owner in
    let old : KeyedPipe = inside_of s.config s.seed s.number s.slots.items (min (min (vec_capacity s.slots - vec_len s.slots) s.ids.spare) s.dues.spare) in
    rw (← c.self.view_is) (if_ok_by c.finish-finished.result (λ packet f. served_view c.args.instance old _ _ at p q c.args.now packet c.finish-finished.new.drops.items f) c.finish-finished.ensures.finished)

pub returns-clause-ok : goal.returns-clause-ok
returns-clause-ok g c =
    let s = c.self.inside in
    let at = place_due (g.S.Shelf.pocket c.args.shelf.now c.args.owner) c.args.instance c.self.view_is c.requires.due c.index_mut-slot.ensures.value in
    let p : Pocket = g.S.Shelf.pocket c.args.shelf.now c.args.owner in
    let q : Pocket = g.S.Shelf.pocket c.finish-finished.new.shelf c.args.owner in
    let old : KeyedPipe = inside_of s.config s.seed s.number s.slots.items (min (min (vec_capacity s.slots - vec_len s.slots) s.ids.spare) s.dues.spare) in
    rw (← c.self.view_is) (on_ok_by c.finish-finished.result (λ packet f. finish_view c.args.instance old _ _ at p q c.args.now packet c.finish-finished.new.drops.items (named_inside c.self.view_is c.requires.named) f) c.finish-finished.ensures.finished)

pub returns-clause-keys : goal.returns-clause-keys
returns-clause-keys g c =
    let s = c.self.inside in
    let y : Slot = c.finish-finished.new.self in
    let at = place_due (g.S.Shelf.pocket c.args.shelf.now c.args.owner) c.args.instance c.self.view_is c.requires.due c.index_mut-slot.ensures.value in
    rw (← c.self.view_is) (keeps_at _ _ _ at _ _ y
    (finish_keeps s.config c.args.now y.instance.delay_line.spare c.finish-finished.new.drops.items _ _ _ y c.finish-finished.result c.finish-finished.ensures.finished c.finish-finished.ensures.refused c.finish-finished.ensures.refused_pocket))

pub returns-clause-refused : goal.returns-clause-refused
returns-clause-refused g c =
    let s = c.self.inside in
    let at = place_due (g.S.Shelf.pocket c.args.shelf.now c.args.owner) c.args.instance c.self.view_is c.requires.due c.index_mut-slot.ensures.value in
    let p : Pocket = g.S.Shelf.pocket c.args.shelf.now c.args.owner in
    let q : Pocket = g.S.Shelf.pocket c.finish-finished.new.shelf c.args.owner in
    let y : Slot = c.finish-finished.new.self in
    let old : KeyedPipe = inside_of s.config s.seed s.number s.slots.items (min (min (vec_capacity s.slots - vec_len s.slots) s.ids.spare) s.dues.spare) in
    let spare = sym (ap (λ (p : Places). p.spare) c.set_least.ensures) in
    rw (← c.self.view_is) (subst (λ m. OnErr c.finish-finished.result (IsGrown old (record old {
      slots = set s.slots.items c.args.instance y;
      spare = min (min (vec_capacity s.slots - vec_len s.slots) s.ids.spare) m;
    }))) spare (on_err c.finish-finished.result (λ e. refused_grown c.args.instance old _ y at p q y.instance.delay_line.spare e) c.finish-finished.ensures.refused))

pub returns-clause-succeeds : goal.returns-clause-succeeds
returns-clause-succeeds g c =
    let at = place_due (g.S.Shelf.pocket c.args.shelf.now c.args.owner) c.args.instance c.self.view_is c.requires.due c.index_mut-slot.ensures.value in
    λ free. c.finish-finished.ensures.succeeds
    (subst (λ (e : KeyedPipe). IsFreeAt c.args.instance c.args.now (vec_capacity c.args.drops.now) e) (sym c.self.view_is) free _ (get_at _ _ _ at))

pub returns-clause-count : goal.returns-clause-count
returns-clause-count g c = on_ok_by c.finish-finished.result (λ packet f. f.count) c.finish-finished.ensures.finished

pub due-requires : goal.due-requires
due-requires g c =
    let s = c.self.inside in
    let y : Slot = c.finish-finished.new.self in
    let at = place_due (g.S.Shelf.pocket c.args.shelf.now c.args.owner) c.args.instance c.self.view_is c.requires.due c.index_mut-slot.ensures.value in
    number_at s.config s.seed s.number _ _ y
    (slot_at _ _ _ at s.config s.seed s.number s.ids.ids c.self.invariant.0)
    (finish_place s.config c.args.now y.instance.delay_line.spare c.finish-finished.new.drops.items _ _ _ y c.finish-finished.result c.finish-finished.ensures.finished c.finish-finished.ensures.refused)

pub set_least-requires : goal.set_least-requires
set_least-requires g c =
    let s = c.self.inside in
    leaves_within s.slots.items s.dues c.args.instance c.self.invariant.1 (within_due (g.S.Shelf.pocket c.args.shelf.now c.args.owner) c.args.instance c.self.view_is c.requires.due)

pub returns-clause-ids : goal.returns-clause-ids
returns-clause-ids g c =
    let s = c.self.inside in
    let y : Slot = c.finish-finished.new.self in
    let at = place_due (g.S.Shelf.pocket c.args.shelf.now c.args.owner) c.args.instance c.self.view_is c.requires.due c.index_mut-slot.ensures.value in
    ids_same _ _ _ at y
    (finish_place s.config c.args.now y.instance.delay_line.spare c.finish-finished.new.drops.items _ _ _ y c.finish-finished.result c.finish-finished.ensures.finished c.finish-finished.ensures.refused).id
    ∙ ap (λ (z : KeyedPipe). ids_of z.slots) c.self.view_is

pub finish-finished-requires-clause-plain : goal.finish-finished-requires-clause-plain
finish-finished-requires-clause-plain g c =
    let at = place_due (g.S.Shelf.pocket c.args.shelf.now c.args.owner) c.args.instance c.self.view_is c.requires.due c.index_mut-slot.ensures.value in
    λ yes. subst (λ (e : KeyedPipe). IsPlainAt c.args.instance c.args.now e) (sym c.self.view_is) (c.requires.plain yes) _ (get_at _ _ _ at)

pub returns-clause-plainly : goal.returns-clause-plainly
returns-clause-plainly g c =
    let at = place_due (g.S.Shelf.pocket c.args.shelf.now c.args.owner) c.args.instance c.self.view_is c.requires.due c.index_mut-slot.ensures.value in
    λ yes room. c.finish-finished.ensures.plainly yes
    (subst (λ (e : KeyedPipe). HasLineRoomAt c.args.instance e) (sym c.self.view_is) room _ (get_at _ _ _ at))
