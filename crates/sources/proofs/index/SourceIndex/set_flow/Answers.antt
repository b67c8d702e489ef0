use Rattle.std.proofs.Common.{set, get_or, refl, cond, ◌<◌, ◌==◌, length, ◌∙◌, ap, arith}
use Rattle.std.specs.Prelude.{None}
use Rattle.due_index.specs.Least.{lesser}
use Rattle.sources.specs.Numbers.{is_in}
use Rattle.sources.proofs.Timers.{told_length}
use Rattle.sources.proofs.Flows.{indexed_changed}
use Rattle.sources.proofs.index.SourceIndex.set_flow.Goals as goal

pub returns : goal.returns
returns c = λ fs ts f h different at e.
    let g = c.args.flow.now in
    let x = c.args.self.now in
    let i = c.args.place in
    let number = c.get.ensures.value ∙ c.number.ensures in
    let within : i < length fs = omega (arith, c.requires.0, told_length x.timers.leaves fs h.timers) in
    indexed_changed fs ts x _ i f g h different within at e
    (c.tell.ensures ∙ ap (λ o. set x.timers.leaves i (lesser (get_or x.timers.leaves i None) o)) c.timer.ensures)
    (λ k. c.set.ensures.sets k ∙ (λ t. cond (k == number t) (c.may_send.ensures t) (is_in x.ready k)))
    (c.set.ensures.whole h.whole) c.set.ensures.entries refl
