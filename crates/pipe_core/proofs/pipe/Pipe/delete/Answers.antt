use Rattle.std.proofs.Common.{◌≡◌, List, [], ◌++◌, map, sym, ap, ◌∙◌, subst, Vec, Global}
use Rattle.emu_model.specs.declared.packets.Packet.{Packet}
use Rattle.packet_store.specs.Pocket.{Pocket}
use Rattle.pipe_core.specs.declared.slot.Slot.{Slot}
use Rattle.pipe_core.specs.Moves.{packet_at, Taking}
use Rattle.pipe_core.specs.Keyed.{keys_of}
use Rattle.pipe_core.proofs.PipeFacts.{IsPipe-none, packets-named, keys_of-nil}
use Rattle.pipe_core.proofs.TakeFacts.{all_taken, all_came, keeps_none}
use Rattle.pipe_core.specs.Leaves.{slot_due}
use Rattle.pipe_core.proofs.MaskFacts.{masked-none}
use Rattle.pipe_core.proofs.pipe.Pipe.delete.Goals as goal

pub invariant_of-self : goal.invariant_of-self
invariant_of-self g c =
    let s = c.self.inside in
    let none : c.replace-slots.new.dest.items ≡ [] =
    ap (λ (v : Vec Slot Global). v.items) c.replace-slots.ensures.after ∙ c.new-vacant.ensures.items in (
      IsPipe-none s.config s.seed s.number c.new.result.ids c.replace-slots.new.dest.items c.new.ensures none,
      c.clear.ensures.leaves ∙ ap (map slot_due) (sym none),
      masked-none s.unmasked s.config.mask c.new.result.ids c.self.invariant.2.zero c.new.ensures,
    )

pub returns-clause-gone : goal.returns-clause-gone
returns-clause-gone g c =
    let s = c.self.inside in
    let p : Pocket = g.S.Shelf.pocket c.args.shelf.now c.args.owner in
    let q : Pocket = g.S.Shelf.pocket c.take_all.new.shelf c.args.owner in
    let start : List Packet = c.reserve.new.self.items in
    let now : List Packet = c.take_all.new.gone.items in
    let taking : Taking p q (keys_of s.slots.items) [] start now =
    subst (λ (v : Vec Slot Global). Taking p q (keys_of v.items) [] start now) c.replace-slots.ensures.value c.take_all.ensures.taken in
    let none : start ≡ [] = c.reserve.ensures.items ∙ c.new-gone.ensures.items in
    rw (← c.self.view_is) (all_came p q (keys_of s.slots.items) start now taking
    ∙ ap (λ l. l ++ map (packet_at p.find) (keys_of s.slots.items)) none
    ∙ sym (packets-named (packet_at p.find) (record { seed = s.seed; number = s.number; config = s.config; slots = s.slots.items; spare = 0 })))

pub returns-clause-keys : goal.returns-clause-keys
returns-clause-keys g c =
    let s = c.self.inside in
    let p : Pocket = g.S.Shelf.pocket c.args.shelf.now c.args.owner in
    let q : Pocket = g.S.Shelf.pocket c.take_all.new.shelf c.args.owner in
    let start : List Packet = c.reserve.new.self.items in
    let now : List Packet = c.take_all.new.gone.items in
    let taking : Taking p q (keys_of s.slots.items) [] start now =
    subst (λ (v : Vec Slot Global). Taking p q (keys_of v.items) [] start now) c.replace-slots.ensures.value c.take_all.ensures.taken in
    rw (← c.self.view_is) (keeps_none p q (keys_of s.slots.items) (keys_of c.replace-slots.new.dest.items)
    (all_taken p q (keys_of s.slots.items) start now taking)
    (ap keys_of (ap (λ (v : Vec Slot Global). v.items) c.replace-slots.ensures.after ∙ c.new-vacant.ensures.items) ∙ keys_of-nil))
