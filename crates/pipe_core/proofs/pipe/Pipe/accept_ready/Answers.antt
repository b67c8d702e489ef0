use Rattle.std.proofs.Common.{ℕ, ◌-◌, ◌<◌, length, sym, subst, ap, ◌∙◌, vec_len, vec_capacity}
use Rattle.std.specs.Prelude.{min}
use Rattle.pipe_core.specs.declared.slot.Slot.{Slot}
use Rattle.pipe_core.specs.Keyed.{KeyedPipe, ids_of}
use Rattle.pipe_core.specs.Steps.{HasRoomAtSlot}
use Rattle.pipe_core.proofs.InstancePlaces.{IsPlace, place_of, pipe_at, ids_same, get_at}
use Rattle.pipe_core.proofs.Growths.{grown_place, grown_at, ready_here, not_refused}
use Rattle.pipe_core.specs.Leaves.{slot_due}
use Rattle.pipe_core.proofs.DueLeaves.{leaves_same}
use Rattle.pipe_core.proofs.pipe.Pipe.accept_ready.Goals as goal

pub invariant_of-self : goal.invariant_of-self
invariant_of-self c =
    let s = c.self.inside in
    let k : ℕ = c.args.instance in
    let x : Slot = c.index_mut-slot.result.now in
    let within : k < length s.slots.items = subst (λ (e : KeyedPipe). k < length e.slots) (sym c.self.view_is) c.requires in
    let at : IsPlace k s.slots.items x = place_of s.slots.items k x c.index_mut-slot.ensures.value within in
    let j = c.accept_ready.new.self in
    let y : Slot = record { id = x.id; instance = j } in (
      pipe_at k s.slots.items x at s.config s.seed s.number s.ids.ids y (grown_place x.id x.instance j j.queue.capacity c.accept_ready.ensures.same) c.self.invariant.0,
      leaves_same s.slots.items k x y s.dues c.index_mut-slot.ensures.value
          (λ t. slot_due (record { id = x.id; instance = c.accept_ready.ensures.same t })) c.self.invariant.1,
      c.self.invariant.2,
    )

pub returns-clause-grown : goal.returns-clause-grown
returns-clause-grown c =
    let s = c.self.inside in
    let k : ℕ = c.args.instance in
    let x : Slot = c.index_mut-slot.result.now in
    let within : k < length s.slots.items = subst (λ (e : KeyedPipe). k < length e.slots) (sym c.self.view_is) c.requires in
    let at : IsPlace k s.slots.items x = place_of s.slots.items k x c.index_mut-slot.ensures.value within in
    let j = c.accept_ready.new.self in
    let y : Slot = record { id = x.id; instance = j } in
    let old : KeyedPipe = record { seed = s.seed; number = s.number; config = s.config; slots = s.slots.items; spare = min (min (vec_capacity s.slots - vec_len s.slots) s.ids.spare) s.dues.spare } in
    rw (← c.self.view_is) (grown_at k old x.id x.instance j j.queue.capacity at c.accept_ready.ensures.same c.accept_ready.ensures.grows)

pub returns-clause-ids : goal.returns-clause-ids
returns-clause-ids c =
    let s = c.self.inside in
    let k : ℕ = c.args.instance in
    let x : Slot = c.index_mut-slot.result.now in
    let within : k < length s.slots.items = subst (λ (e : KeyedPipe). k < length e.slots) (sym c.self.view_is) c.requires in
    let at : IsPlace k s.slots.items x = place_of s.slots.items k x c.index_mut-slot.ensures.value within in
    let j = c.accept_ready.new.self in
    let y : Slot = record { id = x.id; instance = j } in
    ids_same k s.slots.items x at y (λ t. x.id) ∙ ap (λ (z : KeyedPipe). ids_of z.slots) c.self.view_is

pub returns-clause-ready : goal.returns-clause-ready
returns-clause-ready c =
    let s = c.self.inside in
    let k : ℕ = c.args.instance in
    let x : Slot = c.index_mut-slot.result.now in
    let within : k < length s.slots.items = subst (λ (e : KeyedPipe). k < length e.slots) (sym c.self.view_is) c.requires in
    let at : IsPlace k s.slots.items x = place_of s.slots.items k x c.index_mut-slot.ensures.value within in
    let j = c.accept_ready.new.self in
    let y : Slot = record { id = x.id; instance = j } in
    ready_here c.accept_ready.result c.args.size k s.slots.items x.id x.instance j j.queue.capacity at c.accept_ready.ensures.same c.accept_ready.ensures.ready

pub returns-clause-succeeds : goal.returns-clause-succeeds
returns-clause-succeeds c =
    let s = c.self.inside in
    let k : ℕ = c.args.instance in
    let x : Slot = c.index_mut-slot.result.now in
    let within : k < length s.slots.items = subst (λ (e : KeyedPipe). k < length e.slots) (sym c.self.view_is) c.requires in
    let at : IsPlace k s.slots.items x = place_of s.slots.items k x c.index_mut-slot.ensures.value within in
    let j = c.accept_ready.new.self in
    let y : Slot = record { id = x.id; instance = j } in
    λ room. not_refused c.accept_ready.result x.instance.queue.capacity (length x.instance.queue.waiting) c.accept_ready.ensures.refused
    (subst (λ (z : KeyedPipe). HasRoomAtSlot c.args.size k z) (sym c.self.view_is) room x (get_at k s.slots.items x at))
