use Rattle.std.proofs.Common.{◌≡◌, ◌∙◌, ℕ, List, get_or, refl, ap, arith}
use Rattle.packet_store.specs.Pocket.{Pocket}
use Rattle.pipe_core.specs.declared.slot.Slot.{Slot}
use Rattle.pipe_core.proofs.SlotMoves.{slots_none, slots_named, slots_left, slots_count, slots_more, slots_next, slots_all}
use Rattle.pipe_core.proofs.rehouse.rehouse_all.Goals as goal

pub loop-slot-init : goal.loop-slot-init
loop-slot-init g c = record {
  half = slots_none (g.S.Shelf.pocket c.args.from.now c.args.owner) (g.T.Shelf.pocket c.args.to.now c.args.other) c.args.slots.now;
  room = omega arith;
  others_from = λ o differs. refl;
  others_to = λ o differs. refl;
}

pub rehouse_instance-requires-clause-named : goal.rehouse_instance-requires-clause-named
rehouse_instance-requires-clause-named g c =
    let i = c.loop-slot.invariant in
    let p : Pocket = g.S.Shelf.pocket c.args.from.now c.args.owner in
    let q : Pocket = g.S.Shelf.pocket c.loop-slot.from c.args.owner in
    let r : Pocket = g.T.Shelf.pocket c.args.to.now c.args.other in
    let s : Pocket = g.T.Shelf.pocket c.loop-slot.to c.args.other in
    let n : ℕ = c.loop-slot.slot-index in
    let all : List Slot = c.args.slots.now in
    let now : List Slot = c.loop-slot.slots in
    let x : Slot = get_or now n c.slot-item.result in
    let value : x ≡ get_or now n x = ap (get_or now n) c.slot-item.is in
    slots_named p q r s all now n x c.requires.named c.loop-slot-test.true value i.half

pub rehouse_instance-requires-clause-budget : goal.rehouse_instance-requires-clause-budget
rehouse_instance-requires-clause-budget g c =
    let i = c.loop-slot.invariant in
    let p : Pocket = g.S.Shelf.pocket c.args.from.now c.args.owner in
    let q : Pocket = g.S.Shelf.pocket c.loop-slot.from c.args.owner in
    let r : Pocket = g.T.Shelf.pocket c.args.to.now c.args.other in
    let s : Pocket = g.T.Shelf.pocket c.loop-slot.to c.args.other in
    let n : ℕ = c.loop-slot.slot-index in
    let all : List Slot = c.args.slots.now in
    let now : List Slot = c.loop-slot.slots in
    let x : Slot = get_or now n c.slot-item.result in
    let value : x ≡ get_or now n x = ap (get_or now n) c.slot-item.is in
    let left = slots_left p q r s all now n x c.loop-slot-test.true value i.half in
    omega (arith, c.requires.budget, slots_count p q r s all now n i.half, i.half.moved.gives.budget, left)

pub rehouse_instance-requires-clause-room : goal.rehouse_instance-requires-clause-room
rehouse_instance-requires-clause-room g c =
    let i = c.loop-slot.invariant in
    let p : Pocket = g.S.Shelf.pocket c.args.from.now c.args.owner in
    let q : Pocket = g.S.Shelf.pocket c.loop-slot.from c.args.owner in
    let r : Pocket = g.T.Shelf.pocket c.args.to.now c.args.other in
    let s : Pocket = g.T.Shelf.pocket c.loop-slot.to c.args.other in
    let n : ℕ = c.loop-slot.slot-index in
    let all : List Slot = c.args.slots.now in
    let now : List Slot = c.loop-slot.slots in
    let x : Slot = get_or now n c.slot-item.result in
    let value : x ≡ get_or now n x = ap (get_or now n) c.slot-item.is in
    let left = slots_left p q r s all now n x c.loop-slot-test.true value i.half in
    omega (arith, c.requires.room, i.room, left)

pub loop-slot-preserved : goal.loop-slot-preserved
loop-slot-preserved g c =
    let i = c.loop-slot.invariant in
    let p : Pocket = g.S.Shelf.pocket c.args.from.now c.args.owner in
    let q : Pocket = g.S.Shelf.pocket c.loop-slot.from c.args.owner in
    let r : Pocket = g.T.Shelf.pocket c.args.to.now c.args.other in
    let s : Pocket = g.T.Shelf.pocket c.loop-slot.to c.args.other in
    let n : ℕ = c.loop-slot.slot-index in
    let all : List Slot = c.args.slots.now in
    let now : List Slot = c.loop-slot.slots in
    let x : Slot = get_or now n c.slot-item.result in
    let value : x ≡ get_or now n x = ap (get_or now n) c.slot-item.is in
    let t : Pocket = g.S.Shelf.pocket c.rehouse_instance.new.from c.args.owner in
    let u : Pocket = g.T.Shelf.pocket c.rehouse_instance.new.to c.args.other in
    let y : Slot = record { id = x.id; instance = c.rehouse_instance.new.instance } in
    let done = c.rehouse_instance.ensures in
    record {
      half = slots_next p q t r s u all now n x y c.requires.named c.loop-slot-test.true value i.half done.moved (λ j. record { id = x.id; instance = done.blank j });
      room = omega (arith, i.room, done.room, slots_more p q r s all now n x c.loop-slot-test.true value i.half);
      others_from = λ o differs. done.others_from o differs ∙ i.others_from o differs;
      others_to = λ o differs. done.others_to o differs ∙ i.others_to o differs;
    }

pub returns-clause-blank : goal.returns-clause-blank
returns-clause-blank g c = c.loop-slot.invariant.half.blanks

pub returns-clause-moved : goal.returns-clause-moved
returns-clause-moved g c =
    slots_all (g.S.Shelf.pocket c.args.from.now c.args.owner) (g.S.Shelf.pocket c.loop-slot.from c.args.owner)
    (g.T.Shelf.pocket c.args.to.now c.args.other) (g.T.Shelf.pocket c.loop-slot.to c.args.other)
    c.args.slots.now c.loop-slot.slots c.loop-slot.slot-index (omega arith) c.loop-slot.invariant.half
