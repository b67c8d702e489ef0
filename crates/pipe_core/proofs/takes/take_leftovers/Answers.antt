use Rattle.std.proofs.Common.{ℕ, List, length, refl, sym, ap, ◌∙◌, subst, arith}
use Rattle.packet_store.specs.Pocket.{Pocket}
use Rattle.pipe_core.specs.Moves.{Taking}
use Rattle.pipe_core.proofs.TakeFacts.{taking_none, next_found, taking_one}
use Rattle.pipe_core.proofs.takes.take_leftovers.Goals as goal

pub loop-key-init : goal.loop-key-init
loop-key-init g c = (
  taking_none (g.S.Shelf.pocket c.args.shelf.now c.args.owner) c.args.leftovers c.args.gone.now.items,
  refl,
  refl,
  λ o differs. refl,
)

pub unreachable_unchecked-unreachable-requires : goal.unreachable_unchecked-unreachable-requires
unreachable_unchecked-unreachable-requires g c =
    let p : Pocket = g.S.Shelf.pocket c.args.shelf.now c.args.owner in
    let q : Pocket = g.S.Shelf.pocket c.loop-key.shelf c.args.owner in
    let all : List ℕ = c.args.leftovers in
    let left : List ℕ = c.next.new.self in
    next_found p q all left c.in-Some.key c.args.gone.now.items c.loop-key.gone.items c.requires.named
    (subst (λ ks. Taking p q all ks c.args.gone.now.items c.loop-key.gone.items) c.in-Some.ensures c.loop-key.invariant.0)
    (sym c.in_default-take.ensures.value)

pub loop-key-preserved : goal.loop-key-preserved
loop-key-preserved g c =
    let p : Pocket = g.S.Shelf.pocket c.args.shelf.now c.args.owner in
    let q : Pocket = g.S.Shelf.pocket c.loop-key.shelf c.args.owner in
    let r : Pocket = g.S.Shelf.pocket c.take.new.self c.args.owner in
    let all : List ℕ = c.args.leftovers in
    let left : List ℕ = c.next.new.self in (
      subst (λ l. Taking p r all left c.args.gone.now.items l) (sym c.push_reserved.ensures.items)
          (taking_one p q r all left c.in-Some.key c.args.gone.now.items c.loop-key.gone.items c.in-Some-take.packet c.requires.named
          (subst (λ ks. Taking p q all ks c.args.gone.now.items c.loop-key.gone.items) c.in-Some.ensures c.loop-key.invariant.0)
          c.in-Some-take.ensures.value c.in-Some-take.ensures.some),
      omega (arith, c.push_reserved.ensures.len, c.loop-key.invariant.1, ap length c.in-Some.ensures),
      c.push_reserved.ensures.capacity ∙ c.loop-key.invariant.2,
      λ o differs. c.take.ensures.others o differs ∙ c.loop-key.invariant.3 o differs,
    )
