use Rattle.std.proofs.Common.{◌≡◌, ◌∙◌, List, ◌++◌, map, length, take, drop, sym, ap, subst, arith}
use Rattle.packet_store.specs.Pocket.{Pocket}
use Rattle.pipe_core.specs.declared.slot.Slot.{Slot}
use Rattle.pipe_core.specs.Moves.{packet_at}
use Rattle.pipe_core.specs.Keyed.{seen_slot, keys_of, IsPipe}
use Rattle.pipe_core.specs.Rehousing.{blank_slot}
use Rattle.pipe_core.proofs.PipeFacts.{written}
use Rattle.pipe_core.proofs.SlotMoves.{blank-long, slots-shown, IsPipe-blank}
use Rattle.pipe_core.specs.Leaves.{AreLeaves}
use Rattle.pipe_core.proofs.DueLeaves.{leaves_blank}
use Rattle.pipe_core.proofs.pipe.Pipe.rehouse.Goals as goal

pub invariant_of-self : goal.invariant_of-self
invariant_of-self g c =
    let s = c.self.inside in
    let items : List Slot = s.slots.items in
    let new : List Slot = c.rehouse_all.new.slots in
    let blanks : map blank_slot new ≡ map blank_slot items = c.rehouse_all.ensures.blank ∙ ap (map blank_slot) c.deref_mut.ensures.value in
    let whole : take s.slots.len (new ++ drop (length new) items) ≡ new =
    written s.slots.len new items (omega (arith, s.slots.ok.0)) (blank-long items new blanks) in (
      subst (IsPipe s.config s.seed s.number s.ids.ids) (sym whole)
          (IsPipe-blank s.config s.seed s.number s.ids.ids items new blanks c.self.invariant.0),
      subst (λ ss. AreLeaves ss s.dues) (sym whole) (leaves_blank items new s.dues blanks c.self.invariant.1),
      c.self.invariant.2,
    )

pub returns-clause-shown : goal.returns-clause-shown
returns-clause-shown g c =
    let s = c.self.inside in
    let items : List Slot = s.slots.items in
    let new : List Slot = c.rehouse_all.new.slots in
    let blanks : map blank_slot new ≡ map blank_slot items = c.rehouse_all.ensures.blank ∙ ap (map blank_slot) c.deref_mut.ensures.value in
    let whole : take s.slots.len (new ++ drop (length new) items) ≡ new =
    written s.slots.len new items (omega (arith, s.slots.ok.0)) (blank-long items new blanks) in
    let p : Pocket = g.S.Shelf.pocket c.args.from.now c.args.owner in
    let u : Pocket = g.T.Shelf.pocket c.rehouse_all.new.to c.args.other in
    let same : map (packet_at u.find) (keys_of new) ≡ map (packet_at p.find) (keys_of items) =
    c.rehouse_all.ensures.moved.same ∙ ap (λ ss. map (packet_at p.find) (keys_of ss)) c.deref_mut.ensures.value in
    rw (← c.self.view_is) (λ t. record {
      number = s.number;
      config = s.config;
      instances = (ap (map (seen_slot (packet_at u.find))) whole ∙ slots-shown (packet_at p.find) (packet_at u.find) items new blanks same) t;
    })
