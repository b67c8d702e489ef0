use Rattle.std.proofs.Common.{◌≡◌, ◌∙◌, ℕ, ◌-◌, set, sym, subst, ap, vec_len, vec_capacity}
use Rattle.std.specs.Prelude.{min}
use Rattle.pipe_core.specs.KeyedInstance.{KeyedInstance}
use Rattle.pipe_core.specs.declared.slot.Slot.{Slot}
use Rattle.pipe_core.specs.Keyed.{KeyedPipe, ids_of}
use Rattle.pipe_core.specs.Steps.{HasRoom, HasRoomAt}
use Rattle.pipe_core.proofs.InstancePlaces.{place_inside, named_inside, named_at, pipe_at, keeps_at, exit_packet, exit_view, room_same, slot_rooms, ids_same, slot_at}
use Rattle.pipe_core.proofs.DueLeaves.{leaves_set, number_at}
use Rattle.due_index.specs.Places.{Places}
use Rattle.emu_model.specs.declared.packets.Packet.{Packet}
use Rattle.pipe_core.proofs.pipe.Pipe.exit.Goals as goal

kept_room : (size : ℕ) (i j : KeyedInstance) → j.queue ≡ i.queue → j.service ≡ i.service → HasRoom size i → HasRoom size j
kept_room size i j queue service h =
    subst (λ (m : KeyedInstance). HasRoom size m) (λ t. record j { queue = sym queue t; service = sym service t }) h

pub exit-packet-requires : goal.exit-packet-requires
exit-packet-requires g c =
    let s = c.self.inside in
    let at = place_inside c.self.view_is c.requires.inside c.index_mut-slot.ensures.value in
    named_at _ _ _ at _ (named_inside c.self.view_is c.requires.named)

pub invariant_of-self : goal.invariant_of-self
invariant_of-self g c =
    let s = c.self.inside in
    let at = place_inside c.self.view_is c.requires.inside c.index_mut-slot.ensures.value in (
      pipe_at _ _ _ at s.config s.seed s.number s.ids.ids c.exit-packet.new.self c.exit-packet.ensures.left.place c.self.invariant.0,
      leaves_set s.slots.items c.args.instance c.exit-packet.new.self s.dues c.set_least.new.self c.due.result c.self.invariant.1
          c.due.ensures c.set_least.ensures,
      c.self.invariant.2,
    )

pub returns-clause-packet : goal.returns-clause-packet
returns-clause-packet g c =
    let s = c.self.inside in
    let at = place_inside c.self.view_is c.requires.inside c.index_mut-slot.ensures.value in
    rw (← c.self.view_is) (exit_packet _ _ _ at _ _ c.exit-packet.new.self c.exit-packet.result c.exit-packet.ensures.left)

pub returns-clause-shown : goal.returns-clause-shown
returns-clause-shown g c =
    let s = c.self.inside in
    let at = place_inside c.self.view_is c.requires.inside c.index_mut-slot.ensures.value in
    rw (← c.self.view_is) (exit_view _ _ _ at _ _ s.config s.seed s.number 0 c.exit-packet.new.self c.exit-packet.result (named_inside c.self.view_is c.requires.named) c.exit-packet.ensures.left)

pub returns-clause-keys : goal.returns-clause-keys
returns-clause-keys g c =
    let s = c.self.inside in
    let at = place_inside c.self.view_is c.requires.inside c.index_mut-slot.ensures.value in
    rw (← c.self.view_is) (keeps_at _ _ _ at _ _ c.exit-packet.new.self c.exit-packet.ensures.left.keys)

pub returns-clause-ready : goal.returns-clause-ready
returns-clause-ready g c =
    let s = c.self.inside in
    let at = place_inside c.self.view_is c.requires.inside c.index_mut-slot.ensures.value in
    let y : Slot = c.exit-packet.new.self in
    let left = c.exit-packet.ensures.left in
    let room = min (vec_capacity s.slots - vec_len s.slots) s.ids.spare in
    let old : KeyedPipe = record {
      seed = s.seed;
      number = s.number;
      config = s.config;
      slots = s.slots.items;
      spare = min room s.dues.spare;
    } in
    let same = room_same _ _ _ at s.seed s.number (min room s.dues.spare) s.config y left.place.id
    (λ size h. kept_room size c.index_mut-slot.result.now.instance y.instance left.queue left.service h) in
    let spare = sym (ap (λ (p : Places). p.spare) c.set_least.ensures) in
    rw (← c.self.view_is) (subst (λ n. (p : Packet) → HasRoomAt p old → HasRoomAt p (record old {
      slots = set s.slots.items c.args.instance y;
      spare = min room n;
    })) spare same)

pub due-requires : goal.due-requires
due-requires g c =
    let s = c.self.inside in
    let at = place_inside c.self.view_is c.requires.inside c.index_mut-slot.ensures.value in
    number_at s.config s.seed s.number _ _ c.exit-packet.new.self
    (slot_at _ _ _ at s.config s.seed s.number s.ids.ids c.self.invariant.0) c.exit-packet.ensures.left.place

pub returns-clause-ids : goal.returns-clause-ids
returns-clause-ids g c =
    let at = place_inside c.self.view_is c.requires.inside c.index_mut-slot.ensures.value in
    ids_same _ _ _ at c.exit-packet.new.self c.exit-packet.ensures.left.place.id ∙ ap (λ (z : KeyedPipe). ids_of z.slots) c.self.view_is

pub returns-clause-ready_at : goal.returns-clause-ready_at
returns-clause-ready_at g c =
    let s = c.self.inside in
    let at = place_inside c.self.view_is c.requires.inside c.index_mut-slot.ensures.value in
    let left = c.exit-packet.ensures.left in
    rw (← c.self.view_is) (slot_rooms _ _ _ at c.exit-packet.new.self
    (λ size h. kept_room size c.index_mut-slot.result.now.instance c.exit-packet.new.self.instance left.queue left.service h))
