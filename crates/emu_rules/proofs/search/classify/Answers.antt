use Rattle.std.proofs.Common.{◌∙◌, sym, ap}
use Rattle.std.specs.Prelude.{option_and_then, slice_get}
use Rattle.emu_model.specs.Rules.{verdict_of_match}
use Rattle.emu_rules.proofs.Alone.{no_decision}
use Rattle.emu_rules.proofs.Recounted.{at-recounted}
use Rattle.emu_rules.proofs.search.classify.Goals as goal

pub returns-clause-verdict : goal.returns-clause-verdict
returns-clause-verdict c =
    let cs = c.args.rules.now in
    let new = c.far_search-found.new.rules in
    let last = c.far_search-found.result.last in
    c.match_of-2.ensures.verdict
    ∙ at-recounted cs new last c.far_search-found.ensures.rules
    ∙ ap (λ at. verdict_of_match (option_and_then (slice_get cs) at)) c.far_search-found.ensures.found.last

pub returns-clause-none : goal.returns-clause-none
returns-clause-none c = λ none k own first there.
    let g = c.far_search-found.ensures.found.more (sym c.match_of-2.ensures.rule ∙ none) k first in
    no_decision c.args.rules.now k own g.0 there g.1
