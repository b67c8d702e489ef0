use Rattle.std.proofs.Common.{◌≡◌, Some, None, sym, ap, ◌∙◌, subst, arith}
use Rattle.std.specs.Prelude.{slice_get}
use Rattle.packet_store.specs.Own.{Own, AreFree}
use Rattle.packet_store.proofs.Free.{free-take, count-set}
use Rattle.packet_store.proofs.OwnPockets.{found-there, take-is}
use Rattle.packet_store.proofs.own.OwnShelfShelf.take.Goals as goal

pub invariant_of-self : goal.invariant_of-self
invariant_of-self c =
    let s = c.self.inside in
    let there = found-there c.args.self.now c.args.owner c.args.key c.in_ok-packet.packet c.in_ok-packet.ensures in
    let was : slice_get s.places.items c.key.inside.place ≡ Some (Some c.in_ok-packet.packet) =
    (λ t. slice_get (c.self.view_is t).slots (c.key.view_is t)) ∙ there.1 in (
      subst (AreFree _) (sym c.push_reserved.ensures.items)
          (free-take s.places.items s.free.items c.key.inside.place c.in_ok-packet.packet c.self.invariant.0 was),
      omega (arith, c.self.invariant.1, count-set s.places.items c.key.inside.place None (Some c.in_ok-packet.packet) was),
      omega (arith, c.self.invariant.2, c.push_reserved.ensures.capacity),
    )

pub returns-clause-some : goal.returns-clause-some
returns-clause-some c =
    let s = c.self.inside in
    let there = found-there c.args.self.now c.args.owner c.args.key c.in_ok-packet.packet c.in_ok-packet.ensures in
    let was : slice_get s.places.items c.key.inside.place ≡ Some (Some c.in_ok-packet.packet) =
    (λ t. slice_get (c.self.view_is t).slots (c.key.view_is t)) ∙ there.1 in
    take-is s.places.items s.budget c.args.self.now c.args.owner c.in_ok-packet.packet
    (ap (λ (o : Own). o.slots) c.self.view_is) (ap (λ (o : Own). o.budget) c.self.view_is) there.0
    c.key.inside.place c.args.key c.key.view_is was
