use Rattle.std.proofs.Common.{◌+◌, [], ◌∷◌, ◌++◌, length, sym, ap, ◌∙◌}
use Rattle.std.proofs.lemmas.List.{length_push}
use Rattle.world.specs.Places.{deque_at, stand_at}
use Rattle.world.proofs.NewFacts.{vacant_more, vacant_none, empty_more, IsWorld-new}
use Rattle.world.proofs.world.World.new.Goals as goal

pub invariant_of-result : goal.invariant_of-result
invariant_of-result g c =
    let i = c.loop.invariant in
    IsWorld-new c.new-2.result.items c.loop.all.items c.loop.deques.items c.new-2.ensures.items i.vacant i.empty (i.deques_long ∙ sym i.shards_long)

pub loop-init : goal.loop-init
loop-init g c = record {
  vacant = λ i k. ap (λ l. stand_at l i k) c.new-all.ensures.items ∙ vacant_none i k;
  empty = λ i. ap (λ l. deque_at l i) c.new-deques.ensures.items;
  shards_long = ap length c.new-all.ensures.items;
  deques_long = ap length c.new-deques.ensures.items;
}

pub loop-preserved : goal.loop-preserved
loop-preserved g c =
    let i = c.loop.invariant in
    let a = c.in_ok-push.ensures.items in
    let b = c.in_ok-push-2.ensures.items ∙ ap (λ x. c.loop.deques.items ++ x ∷ []) c.new-in-loop.ensures in
    record {
      vacant = λ j k. ap (λ l. stand_at l j k) a ∙ vacant_more c.loop.all.items c.in_ok-new.field-0 i.vacant c.in_ok-new.ensures.vacant j k;
      empty = λ j. ap (λ l. deque_at l j) b ∙ empty_more c.loop.deques.items i.empty j;
      shards_long = ap length a ∙ length_push c.loop.all.items c.in_ok-new.field-0 ∙ ap (λ n. n + 1) i.shards_long;
      deques_long = ap length b ∙ length_push c.loop.deques.items [] ∙ ap (λ n. n + 1) i.deques_long;
    }
