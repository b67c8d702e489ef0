use Rattle.std.proofs.Common.{◌≡◌, ℕ, ◌+◌, ◌<◌, List, map, length, drop, refl, sym, ap, ◌∙◌, subst, arith}
use Rattle.emu_model.specs.DropTail.{Queued}
use Rattle.packet_store.specs.Pocket.{Pocket, without}
use Rattle.pipe_core.specs.Moves.{Taking}
use Rattle.pipe_core.proofs.TakeFacts.{taking_none, next_found, taking_one, dropped_next}
use Rattle.pipe_core.proofs.takes.take_each.Goals as goal

pub loop-waiting-init : goal.loop-waiting-init
loop-waiting-init g c = (
  taking_none (g.S.Shelf.pocket c.args.shelf.now c.args.owner) (map (λ w. w.item) c.args.dropped.now) c.args.drops.now.items,
  omega arith,
  refl,
  λ o differs. refl,
)

pub unreachable_unchecked-unreachable-requires : goal.unreachable_unchecked-unreachable-requires
unreachable_unchecked-unreachable-requires g c =
    let p : Pocket = g.S.Shelf.pocket c.args.shelf.now c.args.owner in
    let q : Pocket = g.S.Shelf.pocket c.loop-waiting.shelf c.args.owner in
    let ws : List (Queued ℕ) = c.args.dropped.now in
    let i : ℕ = c.loop-waiting.waiting-index in
    let w : Queued ℕ = c.waiting-item.result in
    let within : i < length ws = omega arith in
    let key : c.waiting.inside.item ≡ w.item = ap (λ (v : Queued ℕ). v.item) c.waiting.view_is in
    next_found p q (map (λ v. v.item) ws) (map (λ v. v.item) (drop (i + 1) ws)) w.item c.args.drops.now.items c.loop-waiting.drops.items
    c.requires.named (dropped_next p q ws i w c.args.drops.now.items c.loop-waiting.drops.items c.waiting-item.is within c.loop-waiting.invariant.0)
    (ap q.find (sym key) ∙ sym c.in_default.ensures.value)

pub loop-waiting-preserved : goal.loop-waiting-preserved
loop-waiting-preserved g c =
    let p : Pocket = g.S.Shelf.pocket c.args.shelf.now c.args.owner in
    let q : Pocket = g.S.Shelf.pocket c.loop-waiting.shelf c.args.owner in
    let r : Pocket = g.S.Shelf.pocket c.take.new.self c.args.owner in
    let ws : List (Queued ℕ) = c.args.dropped.now in
    let i : ℕ = c.loop-waiting.waiting-index in
    let w : Queued ℕ = c.waiting-item.result in
    let within : i < length ws = omega arith in
    let key : c.waiting.inside.item ≡ w.item = ap (λ (v : Queued ℕ). v.item) c.waiting.view_is in
    let all : List ℕ = map (λ (v : Queued ℕ). v.item) ws in
    let left : List ℕ = map (λ (v : Queued ℕ). v.item) (drop (i + 1) ws) in (
      subst (λ l. Taking p r all left c.args.drops.now.items l) (sym c.push_reserved.ensures.items)
          (taking_one p q r all left w.item c.args.drops.now.items c.loop-waiting.drops.items c.in-Some.packet c.requires.named
          (dropped_next p q ws i w c.args.drops.now.items c.loop-waiting.drops.items c.waiting-item.is within c.loop-waiting.invariant.0)
          (c.in-Some.ensures.value ∙ ap q.find key) (c.in-Some.ensures.some ∙ ap (without q) key)),
      omega (arith, c.push_reserved.ensures.len, c.loop-waiting.invariant.1),
      c.push_reserved.ensures.capacity ∙ c.loop-waiting.invariant.2,
      λ o differs. c.take.ensures.others o differs ∙ c.loop-waiting.invariant.3 o differs,
    )
