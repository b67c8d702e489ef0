use Rattle.std.proofs.Common.{◌≡◌, cond, set, get_or, sym, ◌∙◌, ap}
use Rattle.std.specs.Prelude.{None}
use Rattle.std.proofs.lemmas.Option.{get_or_from_slice_get}
use Rattle.std.proofs.lemmas.List.{set-get_or}
use Rattle.due_index.specs.Least.{lesser}
use Rattle.sources.proofs.index.tell.Goals as goal

pub returns-else-is_before : goal.returns-else-is_before
returns-else-is_before c =
    let os = c.args.timers.now.leaves in
    let i = c.args.place in
    let leaf = c.at.result in
    let timer = c.args.timer in
    let read : get_or os i None ≡ leaf = get_or_from_slice_get os i leaf None c.at.ensures in
    let keeps : leaf ≡ lesser leaf timer =
    sym (ap (λ b. cond b timer leaf) c.if-is_before.false) ∙ c.is_before.ensures in
    sym (set-get_or os i None) ∙ ap (set os i) (read ∙ keeps ∙ ap (λ o. lesser o timer) (sym read))
