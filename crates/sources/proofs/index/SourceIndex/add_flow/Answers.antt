use Rattle.std.proofs.Common.{[], ◌∷◌, ◌++◌, refl, ◌||◌, ◌&&◌, ◌==◌, ◌∙◌, ap}
use Rattle.due_index.specs.Places.{Places}
use Rattle.sources.specs.Numbers.{is_in}
use Rattle.sources.proofs.Flows.{indexed_more}
use Rattle.sources.proofs.index.SourceIndex.add_flow.Goals as goal

pub returns : goal.returns
returns c = λ fs ts h.
    let g = c.args.flow.now in
    let x = c.args.self.now in
    let number = c.get.ensures.value ∙ c.number.ensures in
    indexed_more fs ts x _ g h c.requires.1
    (ap (λ (p : Places). p.leaves) c.push.ensures ∙ ap (λ o. x.timers.leaves ++ o ∷ []) c.timer.ensures)
    (λ k. c.add.ensures.adds k ∙ (λ t. (number t == k && c.may_send.ensures t) || is_in x.ready k))
    (c.add.ensures.whole h.whole) c.add.ensures.entries refl
