use Rattle.std.proofs.Common.{◌≡◌, ℕ, ◌-◌, ◌<◌, length, true, Some, set, sym, subst, ap, ◌∙◌, vec_len, vec_capacity, arith}
use Rattle.std.specs.Prelude.{min, is_some}
use Rattle.emu_model.specs.FlowIds.{flow_id, instance_of}
use Rattle.packet_store.specs.Pocket.{Pocket}
use Rattle.due_index.specs.Places.{Places}
use Rattle.pipe_core.specs.KeyedInstance.{KeyedInstance}
use Rattle.pipe_core.specs.Leaves.{pipe_due}
use Rattle.pipe_core.specs.Keyed.{KeyedPipe, ids_of}
use Rattle.pipe_core.specs.Steps.{HasRoom, HasRoomAtSlot, ArrivesAt}
use Rattle.pipe_core.proofs.InstancePlaces.{place_inside, named_inside, slot_at, get_at}
use Rattle.pipe_core.proofs.SlotArrivals.{arrive-lost, arrive-full, arrive-in}
use Rattle.pipe_core.proofs.PipeArrivals.{drawn-due, pipe_of, came_pipe, came_keys, came_ids, came_there, came_shown, came_due}
use Rattle.pipe_core.proofs.Busy.{due-busy, busy-at}
use Rattle.pipe_core.proofs.DueLeaves.{leaves_set, leaves_same, number_at}
use Rattle.pipe_core.proofs.pipe.Pipe.arrive_at.Goals as goal

pub accept-waits-requires-clause-ready : goal.accept-waits-requires-clause-ready
accept-waits-requires-clause-ready g c =
    let at = place_inside c.self.view_is c.requires.inside c.index_mut-slot.ensures.value in
    let ready = subst (λ (e : KeyedPipe). HasRoomAtSlot c.args.packet.now.size c.args.instance e) (sym c.self.view_is) c.requires.ready in
    subst (λ (m : KeyedInstance). HasRoom c.args.packet.now.size m) (sym c.lose.ensures.drawn) (ready _ (get_at _ _ _ at))
    (sym c.accepts.ensures ∙ c.if-not-accepts.false)

pub due-requires : goal.due-requires
due-requires g c =
    let s = c.self.inside in
    let at = place_inside c.self.view_is c.requires.inside c.index_mut-slot.ensures.value in
    let tuned = (slot_at _ _ _ at s.config s.seed s.number s.ids.ids c.self.invariant.0).tuned in
    let p : Pocket = g.S.Shelf.pocket c.args.shelf.now c.args.owner in
    let q : Pocket = g.S.Shelf.pocket c.put.new.self c.args.owner in
    let came =
    arrive-in s.config c.args.now c.args.packet.now p q c.index_mut-slot.result.now.id _ _ c.accept-waits.new.self _ _ c.in-Ok.key c.lose.ensures.answer c.if-lose.false
    c.lose.ensures.drawn tuned c.accepts.ensures c.if-not-accepts.false c.in-Ok.ensures.vacant c.in-Ok.ensures.ok c.accept-waits.ensures.came in
    number_at s.config s.seed s.number _ _ _ (slot_at _ _ _ at s.config s.seed s.number s.ids.ids c.self.invariant.0) came.place

pub invariant_of-self : goal.invariant_of-self
invariant_of-self g c =
    let s = c.self.inside in
    let at = place_inside c.self.view_is c.requires.inside c.index_mut-slot.ensures.value in
    let tuned = (slot_at _ _ _ at s.config s.seed s.number s.ids.ids c.self.invariant.0).tuned in
    let p : Pocket = g.S.Shelf.pocket c.args.shelf.now c.args.owner in
    let came = arrive-lost s.config c.args.now c.args.packet.now p c.index_mut-slot.result.now.id _ _ _ c.lose.ensures.answer c.if-lose.true c.lose.ensures.drawn in
    (came_pipe at c.self.invariant.0 came, leaves_same s.slots.items c.args.instance _ _ s.dues c.index_mut-slot.ensures.value (drawn-due c.index_mut-slot.result.now.id _ _ c.lose.ensures.drawn) c.self.invariant.1, c.self.invariant.2)

pub returns-then-lose-clause-came : goal.returns-then-lose-clause-came
returns-then-lose-clause-came g c =
    let s = c.self.inside in
    let at = place_inside c.self.view_is c.requires.inside c.index_mut-slot.ensures.value in
    let tuned = (slot_at _ _ _ at s.config s.seed s.number s.ids.ids c.self.invariant.0).tuned in
    let p : Pocket = g.S.Shelf.pocket c.args.shelf.now c.args.owner in
    let came = arrive-lost s.config c.args.now c.args.packet.now p c.index_mut-slot.result.now.id _ _ _ c.lose.ensures.answer c.if-lose.true c.lose.ensures.drawn in
    rw (← c.self.view_is) (came_there at c.self.invariant.0 came (min (min (vec_capacity s.slots - vec_len s.slots) s.ids.spare) s.dues.spare))

pub returns-then-lose-clause-arrived : goal.returns-then-lose-clause-arrived
returns-then-lose-clause-arrived g c = λ its named.
    let s = c.self.inside in
    let at = place_inside c.self.view_is c.requires.inside c.index_mut-slot.ensures.value in
    let tuned = (slot_at _ _ _ at s.config s.seed s.number s.ids.ids c.self.invariant.0).tuned in
    let p : Pocket = g.S.Shelf.pocket c.args.shelf.now c.args.owner in
    let came = arrive-lost s.config c.args.now c.args.packet.now p c.index_mut-slot.result.now.id _ _ _ c.lose.ensures.answer c.if-lose.true c.lose.ensures.drawn in
    let here : instance_of (ids_of s.slots.items) (flow_id s.config.mask c.args.packet.now) ≡ Some c.args.instance =
    ap (λ (z : KeyedPipe). instance_of (ids_of z.slots) (flow_id z.config.mask c.args.packet.now)) c.self.view_is ∙ its in
    let within : c.args.instance < length s.slots.items = subst (λ (e : KeyedPipe). c.args.instance < length e.slots) (sym c.self.view_is) c.requires.inside in
    rw (← c.self.view_is) (came_shown at c.self.invariant.0 came within here (named_inside c.self.view_is named) 0 0)

pub returns-then-lose-clause-keys : goal.returns-then-lose-clause-keys
returns-then-lose-clause-keys g c =
    let s = c.self.inside in
    let at = place_inside c.self.view_is c.requires.inside c.index_mut-slot.ensures.value in
    let tuned = (slot_at _ _ _ at s.config s.seed s.number s.ids.ids c.self.invariant.0).tuned in
    let p : Pocket = g.S.Shelf.pocket c.args.shelf.now c.args.owner in
    let came = arrive-lost s.config c.args.now c.args.packet.now p c.index_mut-slot.result.now.id _ _ _ c.lose.ensures.answer c.if-lose.true c.lose.ensures.drawn in
    rw (← c.self.view_is) (came_keys at c.self.invariant.0 came)

pub returns-then-lose-clause-ids : goal.returns-then-lose-clause-ids
returns-then-lose-clause-ids g c =
    let s = c.self.inside in
    let at = place_inside c.self.view_is c.requires.inside c.index_mut-slot.ensures.value in
    let tuned = (slot_at _ _ _ at s.config s.seed s.number s.ids.ids c.self.invariant.0).tuned in
    let p : Pocket = g.S.Shelf.pocket c.args.shelf.now c.args.owner in
    let came = arrive-lost s.config c.args.now c.args.packet.now p c.index_mut-slot.result.now.id _ _ _ c.lose.ensures.answer c.if-lose.true c.lose.ensures.drawn in
    rw (← c.self.view_is) (came_ids at c.self.invariant.0 came)

pub returns-then-lose-clause-due : goal.returns-then-lose-clause-due
returns-then-lose-clause-due g c = λ told f.
    let s = c.self.inside in
    let at = place_inside c.self.view_is c.requires.inside c.index_mut-slot.ensures.value in
    let tuned = (slot_at _ _ _ at s.config s.seed s.number s.ids.ids c.self.invariant.0).tuned in
    let p : Pocket = g.S.Shelf.pocket c.args.shelf.now c.args.owner in
    let came = arrive-lost s.config c.args.now c.args.packet.now p c.index_mut-slot.result.now.id _ _ _ c.lose.ensures.answer c.if-lose.true c.lose.ensures.drawn in
    came_due at c.self.invariant.0 came c.index_mut-slot.ensures.value (drawn-due c.index_mut-slot.result.now.id _ _ c.lose.ensures.drawn) f 0 0 ∙ ap (pipe_due f) c.self.view_is

pub invariant_of-self-then-not-accepts : goal.invariant_of-self-then-not-accepts
invariant_of-self-then-not-accepts g c =
    let s = c.self.inside in
    let at = place_inside c.self.view_is c.requires.inside c.index_mut-slot.ensures.value in
    let tuned = (slot_at _ _ _ at s.config s.seed s.number s.ids.ids c.self.invariant.0).tuned in
    let p : Pocket = g.S.Shelf.pocket c.args.shelf.now c.args.owner in
    let came =
    arrive-full s.config c.args.now c.args.packet.now p c.index_mut-slot.result.now.id _ _ _ _ c.lose.ensures.answer c.if-lose.false c.lose.ensures.drawn tuned
    c.accepts.ensures c.if-not-accepts.true in
    (came_pipe at c.self.invariant.0 came, leaves_same s.slots.items c.args.instance _ _ s.dues c.index_mut-slot.ensures.value (drawn-due c.index_mut-slot.result.now.id _ _ c.lose.ensures.drawn) c.self.invariant.1, c.self.invariant.2)

pub returns-then-not-accepts-clause-came : goal.returns-then-not-accepts-clause-came
returns-then-not-accepts-clause-came g c =
    let s = c.self.inside in
    let at = place_inside c.self.view_is c.requires.inside c.index_mut-slot.ensures.value in
    let tuned = (slot_at _ _ _ at s.config s.seed s.number s.ids.ids c.self.invariant.0).tuned in
    let p : Pocket = g.S.Shelf.pocket c.args.shelf.now c.args.owner in
    let came =
    arrive-full s.config c.args.now c.args.packet.now p c.index_mut-slot.result.now.id _ _ _ _ c.lose.ensures.answer c.if-lose.false c.lose.ensures.drawn tuned
    c.accepts.ensures c.if-not-accepts.true in
    rw (← c.self.view_is) (came_there at c.self.invariant.0 came (min (min (vec_capacity s.slots - vec_len s.slots) s.ids.spare) s.dues.spare))

pub returns-then-not-accepts-clause-arrived : goal.returns-then-not-accepts-clause-arrived
returns-then-not-accepts-clause-arrived g c = λ its named.
    let s = c.self.inside in
    let at = place_inside c.self.view_is c.requires.inside c.index_mut-slot.ensures.value in
    let tuned = (slot_at _ _ _ at s.config s.seed s.number s.ids.ids c.self.invariant.0).tuned in
    let p : Pocket = g.S.Shelf.pocket c.args.shelf.now c.args.owner in
    let came =
    arrive-full s.config c.args.now c.args.packet.now p c.index_mut-slot.result.now.id _ _ _ _ c.lose.ensures.answer c.if-lose.false c.lose.ensures.drawn tuned
    c.accepts.ensures c.if-not-accepts.true in
    let here : instance_of (ids_of s.slots.items) (flow_id s.config.mask c.args.packet.now) ≡ Some c.args.instance =
    ap (λ (z : KeyedPipe). instance_of (ids_of z.slots) (flow_id z.config.mask c.args.packet.now)) c.self.view_is ∙ its in
    let within : c.args.instance < length s.slots.items = subst (λ (e : KeyedPipe). c.args.instance < length e.slots) (sym c.self.view_is) c.requires.inside in
    rw (← c.self.view_is) (came_shown at c.self.invariant.0 came within here (named_inside c.self.view_is named) 0 0)

pub returns-then-not-accepts-clause-keys : goal.returns-then-not-accepts-clause-keys
returns-then-not-accepts-clause-keys g c =
    let s = c.self.inside in
    let at = place_inside c.self.view_is c.requires.inside c.index_mut-slot.ensures.value in
    let tuned = (slot_at _ _ _ at s.config s.seed s.number s.ids.ids c.self.invariant.0).tuned in
    let p : Pocket = g.S.Shelf.pocket c.args.shelf.now c.args.owner in
    let came =
    arrive-full s.config c.args.now c.args.packet.now p c.index_mut-slot.result.now.id _ _ _ _ c.lose.ensures.answer c.if-lose.false c.lose.ensures.drawn tuned
    c.accepts.ensures c.if-not-accepts.true in
    rw (← c.self.view_is) (came_keys at c.self.invariant.0 came)

pub returns-then-not-accepts-clause-ids : goal.returns-then-not-accepts-clause-ids
returns-then-not-accepts-clause-ids g c =
    let s = c.self.inside in
    let at = place_inside c.self.view_is c.requires.inside c.index_mut-slot.ensures.value in
    let tuned = (slot_at _ _ _ at s.config s.seed s.number s.ids.ids c.self.invariant.0).tuned in
    let p : Pocket = g.S.Shelf.pocket c.args.shelf.now c.args.owner in
    let came =
    arrive-full s.config c.args.now c.args.packet.now p c.index_mut-slot.result.now.id _ _ _ _ c.lose.ensures.answer c.if-lose.false c.lose.ensures.drawn tuned
    c.accepts.ensures c.if-not-accepts.true in
    rw (← c.self.view_is) (came_ids at c.self.invariant.0 came)

pub returns-then-not-accepts-clause-due : goal.returns-then-not-accepts-clause-due
returns-then-not-accepts-clause-due g c = λ told f.
    let s = c.self.inside in
    let at = place_inside c.self.view_is c.requires.inside c.index_mut-slot.ensures.value in
    let tuned = (slot_at _ _ _ at s.config s.seed s.number s.ids.ids c.self.invariant.0).tuned in
    let p : Pocket = g.S.Shelf.pocket c.args.shelf.now c.args.owner in
    let came =
    arrive-full s.config c.args.now c.args.packet.now p c.index_mut-slot.result.now.id _ _ _ _ c.lose.ensures.answer c.if-lose.false c.lose.ensures.drawn tuned
    c.accepts.ensures c.if-not-accepts.true in
    came_due at c.self.invariant.0 came c.index_mut-slot.ensures.value (drawn-due c.index_mut-slot.result.now.id _ _ c.lose.ensures.drawn) f 0 0 ∙ ap (pipe_due f) c.self.view_is

pub invariant_of-self-then-not-waits : goal.invariant_of-self-then-not-waits
invariant_of-self-then-not-waits g c =
    let s = c.self.inside in
    let at = place_inside c.self.view_is c.requires.inside c.index_mut-slot.ensures.value in
    let tuned = (slot_at _ _ _ at s.config s.seed s.number s.ids.ids c.self.invariant.0).tuned in
    let p : Pocket = g.S.Shelf.pocket c.args.shelf.now c.args.owner in
    let q : Pocket = g.S.Shelf.pocket c.put.new.self c.args.owner in
    let came =
    arrive-in s.config c.args.now c.args.packet.now p q c.index_mut-slot.result.now.id _ _ c.accept-waits.new.self _ _ c.in-Ok.key c.lose.ensures.answer c.if-lose.false
    c.lose.ensures.drawn tuned c.accepts.ensures c.if-not-accepts.false c.in-Ok.ensures.vacant c.in-Ok.ensures.ok c.accept-waits.ensures.came in (
      came_pipe at c.self.invariant.0 came,
      leaves_set s.slots.items c.args.instance _ s.dues c.set.new.self c.due.result c.self.invariant.1 c.due.ensures c.set.ensures,
      c.self.invariant.2,
    )

pub returns-then-not-waits-clause-came : goal.returns-then-not-waits-clause-came
returns-then-not-waits-clause-came g c =
    let s = c.self.inside in
    let at = place_inside c.self.view_is c.requires.inside c.index_mut-slot.ensures.value in
    let tuned = (slot_at _ _ _ at s.config s.seed s.number s.ids.ids c.self.invariant.0).tuned in
    let p : Pocket = g.S.Shelf.pocket c.args.shelf.now c.args.owner in
    let q : Pocket = g.S.Shelf.pocket c.put.new.self c.args.owner in
    let came =
    arrive-in s.config c.args.now c.args.packet.now p q c.index_mut-slot.result.now.id _ _ c.accept-waits.new.self _ _ c.in-Ok.key c.lose.ensures.answer c.if-lose.false
    c.lose.ensures.drawn tuned c.accepts.ensures c.if-not-accepts.false c.in-Ok.ensures.vacant c.in-Ok.ensures.ok c.accept-waits.ensures.came in
    let room = min (vec_capacity s.slots - vec_len s.slots) s.ids.spare in
    let old : KeyedPipe = pipe_of s.config s.seed s.number s.slots.items (min room s.dues.spare) in
    let spare = sym (ap (λ (p : Places). p.spare) c.set.ensures) in
    rw (← c.self.view_is) (subst (λ n. ArrivesAt c.args.instance c.args.now c.args.packet.now _ p q old (pipe_of s.config s.seed s.number
    (set s.slots.items c.args.instance (record { id = c.index_mut-slot.result.now.id; instance = c.accept-waits.new.self })) (min room n)))
    spare (came_there at c.self.invariant.0 came (min room s.dues.spare)))

pub returns-then-not-waits-clause-arrived : goal.returns-then-not-waits-clause-arrived
returns-then-not-waits-clause-arrived g c = λ its named.
    let s = c.self.inside in
    let at = place_inside c.self.view_is c.requires.inside c.index_mut-slot.ensures.value in
    let tuned = (slot_at _ _ _ at s.config s.seed s.number s.ids.ids c.self.invariant.0).tuned in
    let p : Pocket = g.S.Shelf.pocket c.args.shelf.now c.args.owner in
    let q : Pocket = g.S.Shelf.pocket c.put.new.self c.args.owner in
    let came =
    arrive-in s.config c.args.now c.args.packet.now p q c.index_mut-slot.result.now.id _ _ c.accept-waits.new.self _ _ c.in-Ok.key c.lose.ensures.answer c.if-lose.false
    c.lose.ensures.drawn tuned c.accepts.ensures c.if-not-accepts.false c.in-Ok.ensures.vacant c.in-Ok.ensures.ok c.accept-waits.ensures.came in
    let here : instance_of (ids_of s.slots.items) (flow_id s.config.mask c.args.packet.now) ≡ Some c.args.instance =
    ap (λ (z : KeyedPipe). instance_of (ids_of z.slots) (flow_id z.config.mask c.args.packet.now)) c.self.view_is ∙ its in
    let within : c.args.instance < length s.slots.items = subst (λ (e : KeyedPipe). c.args.instance < length e.slots) (sym c.self.view_is) c.requires.inside in
    rw (← c.self.view_is) (came_shown at c.self.invariant.0 came within here (named_inside c.self.view_is named) 0 0)

pub returns-then-not-waits-clause-keys : goal.returns-then-not-waits-clause-keys
returns-then-not-waits-clause-keys g c =
    let s = c.self.inside in
    let at = place_inside c.self.view_is c.requires.inside c.index_mut-slot.ensures.value in
    let tuned = (slot_at _ _ _ at s.config s.seed s.number s.ids.ids c.self.invariant.0).tuned in
    let p : Pocket = g.S.Shelf.pocket c.args.shelf.now c.args.owner in
    let q : Pocket = g.S.Shelf.pocket c.put.new.self c.args.owner in
    let came =
    arrive-in s.config c.args.now c.args.packet.now p q c.index_mut-slot.result.now.id _ _ c.accept-waits.new.self _ _ c.in-Ok.key c.lose.ensures.answer c.if-lose.false
    c.lose.ensures.drawn tuned c.accepts.ensures c.if-not-accepts.false c.in-Ok.ensures.vacant c.in-Ok.ensures.ok c.accept-waits.ensures.came in
    rw (← c.self.view_is) (came_keys at c.self.invariant.0 came)

pub returns-then-not-waits-clause-ids : goal.returns-then-not-waits-clause-ids
returns-then-not-waits-clause-ids g c =
    let s = c.self.inside in
    let at = place_inside c.self.view_is c.requires.inside c.index_mut-slot.ensures.value in
    let tuned = (slot_at _ _ _ at s.config s.seed s.number s.ids.ids c.self.invariant.0).tuned in
    let p : Pocket = g.S.Shelf.pocket c.args.shelf.now c.args.owner in
    let q : Pocket = g.S.Shelf.pocket c.put.new.self c.args.owner in
    let came =
    arrive-in s.config c.args.now c.args.packet.now p q c.index_mut-slot.result.now.id _ _ c.accept-waits.new.self _ _ c.in-Ok.key c.lose.ensures.answer c.if-lose.false
    c.lose.ensures.drawn tuned c.accepts.ensures c.if-not-accepts.false c.in-Ok.ensures.vacant c.in-Ok.ensures.ok c.accept-waits.ensures.came in
    rw (← c.self.view_is) (came_ids at c.self.invariant.0 came)

pub returns-then-not-waits-clause-told : goal.returns-then-not-waits-clause-told
returns-then-not-waits-clause-told g c =
    let s = c.self.inside in
    let at = place_inside c.self.view_is c.requires.inside c.index_mut-slot.ensures.value in
    rw (← c.self.view_is) (λ f. c.accept-waits.ensures.waits ∙ ap (λ (m : KeyedInstance). is_some m.service.busy) c.lose.ensures.drawn
    ∙ sym (busy-at c.args.instance s.slots.items _ at f))

pub invariant_of-self-else-not-waits : goal.invariant_of-self-else-not-waits
invariant_of-self-else-not-waits g c =
    let s = c.self.inside in
    let at = place_inside c.self.view_is c.requires.inside c.index_mut-slot.ensures.value in
    let tuned = (slot_at _ _ _ at s.config s.seed s.number s.ids.ids c.self.invariant.0).tuned in
    let p : Pocket = g.S.Shelf.pocket c.args.shelf.now c.args.owner in
    let q : Pocket = g.S.Shelf.pocket c.put.new.self c.args.owner in
    let came =
    arrive-in s.config c.args.now c.args.packet.now p q c.index_mut-slot.result.now.id _ _ c.accept-waits.new.self _ _ c.in-Ok.key c.lose.ensures.answer c.if-lose.false
    c.lose.ensures.drawn tuned c.accepts.ensures c.if-not-accepts.false c.in-Ok.ensures.vacant c.in-Ok.ensures.ok c.accept-waits.ensures.came in
    let served : is_some c.index_mut-slot.result.now.instance.service.busy ≡ true =
    ap (λ (m : KeyedInstance). is_some m.service.busy) (sym c.lose.ensures.drawn) ∙ sym c.accept-waits.ensures.waits ∙ c.if-not-waits.false in
    let same = due-busy s.config c.args.now c.args.packet.now _ p q _ _ served came in
    (came_pipe at c.self.invariant.0 came, leaves_same s.slots.items c.args.instance _ _ s.dues c.index_mut-slot.ensures.value same c.self.invariant.1, c.self.invariant.2)

pub returns-else-not-waits-clause-came : goal.returns-else-not-waits-clause-came
returns-else-not-waits-clause-came g c =
    let s = c.self.inside in
    let at = place_inside c.self.view_is c.requires.inside c.index_mut-slot.ensures.value in
    let tuned = (slot_at _ _ _ at s.config s.seed s.number s.ids.ids c.self.invariant.0).tuned in
    let p : Pocket = g.S.Shelf.pocket c.args.shelf.now c.args.owner in
    let q : Pocket = g.S.Shelf.pocket c.put.new.self c.args.owner in
    let came =
    arrive-in s.config c.args.now c.args.packet.now p q c.index_mut-slot.result.now.id _ _ c.accept-waits.new.self _ _ c.in-Ok.key c.lose.ensures.answer c.if-lose.false
    c.lose.ensures.drawn tuned c.accepts.ensures c.if-not-accepts.false c.in-Ok.ensures.vacant c.in-Ok.ensures.ok c.accept-waits.ensures.came in
    rw (← c.self.view_is) (came_there at c.self.invariant.0 came (min (min (vec_capacity s.slots - vec_len s.slots) s.ids.spare) s.dues.spare))

pub returns-else-not-waits-clause-arrived : goal.returns-else-not-waits-clause-arrived
returns-else-not-waits-clause-arrived g c = λ its named.
    let s = c.self.inside in
    let at = place_inside c.self.view_is c.requires.inside c.index_mut-slot.ensures.value in
    let tuned = (slot_at _ _ _ at s.config s.seed s.number s.ids.ids c.self.invariant.0).tuned in
    let p : Pocket = g.S.Shelf.pocket c.args.shelf.now c.args.owner in
    let q : Pocket = g.S.Shelf.pocket c.put.new.self c.args.owner in
    let came =
    arrive-in s.config c.args.now c.args.packet.now p q c.index_mut-slot.result.now.id _ _ c.accept-waits.new.self _ _ c.in-Ok.key c.lose.ensures.answer c.if-lose.false
    c.lose.ensures.drawn tuned c.accepts.ensures c.if-not-accepts.false c.in-Ok.ensures.vacant c.in-Ok.ensures.ok c.accept-waits.ensures.came in
    let here : instance_of (ids_of s.slots.items) (flow_id s.config.mask c.args.packet.now) ≡ Some c.args.instance =
    ap (λ (z : KeyedPipe). instance_of (ids_of z.slots) (flow_id z.config.mask c.args.packet.now)) c.self.view_is ∙ its in
    let within : c.args.instance < length s.slots.items = subst (λ (e : KeyedPipe). c.args.instance < length e.slots) (sym c.self.view_is) c.requires.inside in
    rw (← c.self.view_is) (came_shown at c.self.invariant.0 came within here (named_inside c.self.view_is named) 0 0)

pub returns-else-not-waits-clause-keys : goal.returns-else-not-waits-clause-keys
returns-else-not-waits-clause-keys g c =
    let s = c.self.inside in
    let at = place_inside c.self.view_is c.requires.inside c.index_mut-slot.ensures.value in
    let tuned = (slot_at _ _ _ at s.config s.seed s.number s.ids.ids c.self.invariant.0).tuned in
    let p : Pocket = g.S.Shelf.pocket c.args.shelf.now c.args.owner in
    let q : Pocket = g.S.Shelf.pocket c.put.new.self c.args.owner in
    let came =
    arrive-in s.config c.args.now c.args.packet.now p q c.index_mut-slot.result.now.id _ _ c.accept-waits.new.self _ _ c.in-Ok.key c.lose.ensures.answer c.if-lose.false
    c.lose.ensures.drawn tuned c.accepts.ensures c.if-not-accepts.false c.in-Ok.ensures.vacant c.in-Ok.ensures.ok c.accept-waits.ensures.came in
    rw (← c.self.view_is) (came_keys at c.self.invariant.0 came)

pub returns-else-not-waits-clause-ids : goal.returns-else-not-waits-clause-ids
returns-else-not-waits-clause-ids g c =
    let s = c.self.inside in
    let at = place_inside c.self.view_is c.requires.inside c.index_mut-slot.ensures.value in
    let tuned = (slot_at _ _ _ at s.config s.seed s.number s.ids.ids c.self.invariant.0).tuned in
    let p : Pocket = g.S.Shelf.pocket c.args.shelf.now c.args.owner in
    let q : Pocket = g.S.Shelf.pocket c.put.new.self c.args.owner in
    let came =
    arrive-in s.config c.args.now c.args.packet.now p q c.index_mut-slot.result.now.id _ _ c.accept-waits.new.self _ _ c.in-Ok.key c.lose.ensures.answer c.if-lose.false
    c.lose.ensures.drawn tuned c.accepts.ensures c.if-not-accepts.false c.in-Ok.ensures.vacant c.in-Ok.ensures.ok c.accept-waits.ensures.came in
    rw (← c.self.view_is) (came_ids at c.self.invariant.0 came)

pub returns-else-not-waits-clause-told : goal.returns-else-not-waits-clause-told
returns-else-not-waits-clause-told g c =
    let s = c.self.inside in
    let at = place_inside c.self.view_is c.requires.inside c.index_mut-slot.ensures.value in
    rw (← c.self.view_is) (λ f. c.accept-waits.ensures.waits ∙ ap (λ (m : KeyedInstance). is_some m.service.busy) c.lose.ensures.drawn
    ∙ sym (busy-at c.args.instance s.slots.items _ at f))

pub returns-else-not-waits-clause-due : goal.returns-else-not-waits-clause-due
returns-else-not-waits-clause-due g c = λ told f.
    let s = c.self.inside in
    let at = place_inside c.self.view_is c.requires.inside c.index_mut-slot.ensures.value in
    let tuned = (slot_at _ _ _ at s.config s.seed s.number s.ids.ids c.self.invariant.0).tuned in
    let p : Pocket = g.S.Shelf.pocket c.args.shelf.now c.args.owner in
    let q : Pocket = g.S.Shelf.pocket c.put.new.self c.args.owner in
    let came =
    arrive-in s.config c.args.now c.args.packet.now p q c.index_mut-slot.result.now.id _ _ c.accept-waits.new.self _ _ c.in-Ok.key c.lose.ensures.answer c.if-lose.false
    c.lose.ensures.drawn tuned c.accepts.ensures c.if-not-accepts.false c.in-Ok.ensures.vacant c.in-Ok.ensures.ok c.accept-waits.ensures.came in
    let served : is_some c.index_mut-slot.result.now.instance.service.busy ≡ true =
    ap (λ (m : KeyedInstance). is_some m.service.busy) (sym c.lose.ensures.drawn) ∙ sym c.accept-waits.ensures.waits ∙ c.if-not-waits.false in
    let same = due-busy s.config c.args.now c.args.packet.now _ p q _ _ served came in
    came_due at c.self.invariant.0 came c.index_mut-slot.ensures.value same f 0 0 ∙ ap (pipe_due f) c.self.view_is
