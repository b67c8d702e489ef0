use Rattle.std.proofs.Common.{◌≡◌, List, Option, Some, None, sym, ap, ◌∙◌, subst, arith}
use Rattle.std.specs.Prelude.{slice_get, is_some, count_by}
use Rattle.std.proofs.lemmas.Option.{slice_get_within}
use Rattle.emu_model.specs.declared.packets.Packet.{Packet}
use Rattle.packet_store.specs.Own.{Own, AreFree}
use Rattle.packet_store.proofs.Free.{last-vacant, free-put, free-push, count-push, count-set}
use Rattle.packet_store.proofs.OwnPockets.{refused, owner-zero, not-full, vacant-at, put-is, push-is}
use Rattle.packet_store.proofs.own.OwnShelfShelf.put.Goals as goal
use Rattle.packet_store.proofs.own.OwnShelfShelf.put.Goals.{else-len-capacity-via-then-len-capacity+else-is_err, else-len-capacity-via-else-len-capacity}

pub index_mut-requires : goal.index_mut-requires
index_mut-requires c =
    let s = c.self.inside in
    omega (
      arith,
      s.places.ok.0,
      slice_get_within s.places.items c.in-Some.place None (last-vacant s.places.items s.free.items c.pop.new.self.items c.in-Some.place c.self.invariant.0 c.in-Some.ensures.items),
    )

pub invariant_of-self : goal.invariant_of-self
invariant_of-self c =
    let s = c.self.inside in
    let was = last-vacant s.places.items s.free.items c.pop.new.self.items c.in-Some.place c.self.invariant.0 c.in-Some.ensures.items in
    let full = refused c.is_full.result c.is_full.ensures c.if-is_full.false in
    let least = not-full c.args.self.now c.args.owner full in (
      free-put s.places.items s.free.items c.pop.new.self.items c.in-Some.place c.args.packet c.self.invariant.0 c.in-Some.ensures.items,
      omega (
        arith,
        least,
        ap (λ (o : Own). count_by is_some o.slots) c.self.view_is,
        ap (λ (o : Own). o.budget) c.self.view_is,
        count-set s.places.items c.in-Some.place (Some c.args.packet) None was,
      ),
      omega (arith, c.self.invariant.2, c.in-Some.ensures.capacity),
    )

pub returns-in-Some-clause-vacant : goal.returns-in-Some-clause-vacant
returns-in-Some-clause-vacant c =
    let s = c.self.inside in
    let was = last-vacant s.places.items s.free.items c.pop.new.self.items c.in-Some.place c.self.invariant.0 c.in-Some.ensures.items in
    let full = refused c.is_full.result c.is_full.ensures c.if-is_full.false in
    vacant-at c.args.self.now c.args.owner c.in-Some.place (owner-zero c.args.self.now c.args.owner full)
    (ap (λ (o : Own). slice_get o.slots c.in-Some.place) (sym c.self.view_is) ∙ was)

pub returns-in-Some-clause-ok : goal.returns-in-Some-clause-ok
returns-in-Some-clause-ok c =
    let s = c.self.inside in
    let was = last-vacant s.places.items s.free.items c.pop.new.self.items c.in-Some.place c.self.invariant.0 c.in-Some.ensures.items in
    let full = refused c.is_full.result c.is_full.ensures c.if-is_full.false in
    put-is s.places.items s.budget c.args.self.now c.args.owner c.args.packet
    (ap (λ (o : Own). o.slots) c.self.view_is) (ap (λ (o : Own). o.budget) c.self.view_is)
    (owner-zero c.args.self.now c.args.owner full) c.in-Some.place was

pub invariant_of-self-2 : goal.invariant_of-self-2
invariant_of-self-2 c =
    let s = c.self-2.inside in
    let full = refused c.is_full.result c.is_full.ensures c.if-is_full.false in
    let least = not-full c.args.self.now c.args.owner full in
    let slots : c.else-len-capacity.self.slots ≡ c.args.self.now.slots = elim c.else-len-capacity.branch [
      | else-len-capacity-via-then-len-capacity+else-is_err w ↦ ap (λ (o : Own). o.slots) w.self-is ∙ ap (λ (o : Own). o.slots) w.grow.ensures.same ∙ ap (λ (o : Own). o.slots) c.self.view_is
      | else-len-capacity-via-else-len-capacity w ↦ ap (λ (o : Own). o.slots) w.self-is ∙ ap (λ (o : Own). o.slots) c.self.view_is
    ] in
    let budget : c.else-len-capacity.self.budget ≡ c.args.self.now.budget = elim c.else-len-capacity.branch [
      | else-len-capacity-via-then-len-capacity+else-is_err w ↦ ap (λ (o : Own). o.budget) w.self-is ∙ ap (λ (o : Own). o.budget) w.grow.ensures.same ∙ ap (λ (o : Own). o.budget) c.self.view_is
      | else-len-capacity-via-else-len-capacity w ↦ ap (λ (o : Own). o.budget) w.self-is ∙ ap (λ (o : Own). o.budget) c.self.view_is
    ] in (
      subst (λ xs. AreFree xs s.free.items) (sym c.push_reserved.ensures.items) (free-push s.places.items s.free.items c.args.packet c.self-2.invariant.0),
      omega (
        arith,
        least,
        ap (λ (xs : List (Option Packet)). count_by is_some xs) c.push_reserved.ensures.items,
        count-push s.places.items c.args.packet,
        ap (λ (o : Own). count_by is_some o.slots) c.self-2.view_is,
        ap (λ (xs : List (Option Packet)). count_by is_some xs) slots,
        ap (λ (o : Own). o.budget) c.self-2.view_is,
        budget,
      ),
      omega (arith, c.self-2.invariant.2, c.push_reserved.ensures.capacity),
    )

pub returns-clause-ok : goal.returns-clause-ok
returns-clause-ok c =
    let s = c.self-2.inside in
    let full = refused c.is_full.result c.is_full.ensures c.if-is_full.false in
    let slots : c.else-len-capacity.self.slots ≡ c.args.self.now.slots = elim c.else-len-capacity.branch [
      | else-len-capacity-via-then-len-capacity+else-is_err w ↦ ap (λ (o : Own). o.slots) w.self-is ∙ ap (λ (o : Own). o.slots) w.grow.ensures.same ∙ ap (λ (o : Own). o.slots) c.self.view_is
      | else-len-capacity-via-else-len-capacity w ↦ ap (λ (o : Own). o.slots) w.self-is ∙ ap (λ (o : Own). o.slots) c.self.view_is
    ] in
    let budget : c.else-len-capacity.self.budget ≡ c.args.self.now.budget = elim c.else-len-capacity.branch [
      | else-len-capacity-via-then-len-capacity+else-is_err w ↦ ap (λ (o : Own). o.budget) w.self-is ∙ ap (λ (o : Own). o.budget) w.grow.ensures.same ∙ ap (λ (o : Own). o.budget) c.self.view_is
      | else-len-capacity-via-else-len-capacity w ↦ ap (λ (o : Own). o.budget) w.self-is ∙ ap (λ (o : Own). o.budget) c.self.view_is
    ] in
    push-is s.places.items s.budget c.args.self.now c.args.owner c.args.packet
    (ap (λ (o : Own). o.slots) c.self-2.view_is ∙ slots) (ap (λ (o : Own). o.budget) c.self-2.view_is ∙ budget)
    (owner-zero c.args.self.now c.args.owner full) c.push_reserved.new.self.items c.len-place.result
    c.push_reserved.ensures.items (omega (arith, c.len-place.ensures, s.places.ok.0))
