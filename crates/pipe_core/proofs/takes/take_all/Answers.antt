use Rattle.std.proofs.Common.{◌≡◌, ℕ, ◌+◌, List, [], ◌∷◌, length, refl, sym, ap, ◌∙◌, subst, arith, length-append}
use Rattle.std.specs.Vec.Iter.{into_iter_items}
use Rattle.emu_model.specs.declared.packets.Packet.{Packet}
use Rattle.packet_store.specs.Pocket.{Pocket}
use Rattle.pipe_core.specs.declared.slot.Slot.{Slot}
use Rattle.pipe_core.specs.Moves.{Taking}
use Rattle.pipe_core.specs.Keyed.{keys_of}
use Rattle.pipe_core.proofs.PipeFacts.{keys_of-nil}
use Rattle.pipe_core.proofs.TakeFacts.{taking_none, first_named, slot_keys, taking_slot, taking_all, none_left}
use Rattle.pipe_core.proofs.takes.take_all.Goals as goal

pub loop-slot-init : goal.loop-slot-init
loop-slot-init g c =
    let p : Pocket = g.S.Shelf.pocket c.args.shelf.now c.args.owner in
    let start : List Packet = c.args.gone.now.items in
    let all : List ℕ = keys_of c.args.slots.items in
    let gives = c.into_iter-slot-iterator.ensures.into_iter_gives in (
      subst (λ (ss : List Slot). Taking p p all (keys_of ss) start start) (sym gives.0) (taking_none p all start),
      ap (λ (ss : List Slot). c.args.gone.now.len + length (keys_of ss)) gives.0,
      refl,
      λ o differs. refl,
      omega (arith, ap length gives.0, gives.1, c.args.slots.ok.0),
    )

pub take_leftovers-requires-clause-named : goal.take_leftovers-requires-clause-named
take_leftovers-requires-clause-named g c =
    first_named _ _ _ _ _ _ _ c.requires.named (taking_slot c.in-Some.ensures.steps.0 c.into_leftovers.ensures c.loop-slot.invariant.0)

pub take_leftovers-requires-clause-room : goal.take_leftovers-requires-clause-room
take_leftovers-requires-clause-room g c =
    let left : List ℕ = keys_of (into_iter_items c.next.new.self) in
    omega (
      arith,
      c.loop-slot.invariant.1,
      c.loop-slot.invariant.2,
      ap length (slot_keys c.in-Some.ensures.steps.0 c.into_leftovers.ensures),
      length-append c.into_leftovers.result left,
      c.requires.room,
    )

pub loop-slot-preserved : goal.loop-slot-preserved
loop-slot-preserved g c =
    let left : List ℕ = keys_of (into_iter_items c.next.new.self) in (
      taking_all _ _ _ _ _ left _ _ _ c.requires.named
          (taking_slot c.in-Some.ensures.steps.0 c.into_leftovers.ensures c.loop-slot.invariant.0) c.take_leftovers.ensures.taken,
      omega (
        arith,
        c.loop-slot.invariant.1,
        c.take_leftovers.ensures.count,
        ap length (slot_keys c.in-Some.ensures.steps.0 c.into_leftovers.ensures),
        length-append c.into_leftovers.result left,
      ),
      c.take_leftovers.ensures.capacity ∙ c.loop-slot.invariant.2,
      λ o differs. c.take_leftovers.ensures.others o differs ∙ c.loop-slot.invariant.3 o differs,
      omega (arith, c.loop-slot.invariant.4, ap length c.in-Some.ensures.steps.0, c.in-Some.ensures.steps.1),
    )

pub returns-clause-taken : goal.returns-clause-taken
returns-clause-taken g c =
    let p : Pocket = g.S.Shelf.pocket c.args.shelf.now c.args.owner in
    let q : Pocket = g.S.Shelf.pocket c.loop-slot.shelf c.args.owner in
    let last : List Slot = into_iter_items c.loop-slot.slot-iterator in
    let empty : length last ≡ 0 = omega (arith, c.loop-slot.invariant.4, c.in-None.ensures.steps.0) in
    none_left p q (keys_of c.args.slots.items) (keys_of last) c.args.gone.now.items c.loop-slot.gone.items
    (no_keys last empty) c.loop-slot.invariant.0
  where
    no_keys : (ss : List Slot) → length ss ≡ 0 → keys_of ss ≡ []
    no_keys [] e = keys_of-nil
    no_keys (s ∷ ss) e = absurd (omega (arith, e))
