use Rattle.std.proofs.Common.{sym, ◌∙◌}
use Rattle.std.specs.Prelude.{Some, None}
use Rattle.due_index.specs.Least.{lesser}
use Rattle.sources.specs.Numbers.{is_in}
use Rattle.due_index.proofs.CallerLemmas.{lesser-none}
use Rattle.sources.proofs.Indexes.{sending_is, tells_none, tells_some}
use Rattle.sources.proofs.index.SourceIndex.earliest_send.Goals as goal

pub returns-in-Some : goal.returns-in-Some
returns-in-Some c = λ fs ts h.
    let x = c.args.self.now in
    c.or_earlier.ensures ∙ (λ t. lesser (c.or_earlier-best.ensures t) (c.at.ensures t))
    ∙ sending_is c.args.clock fs ts x c.args.best c.least.result (Some c.in-Some.number) h c.least.ensures
    (tells_some (is_in x.ready) c.in-Some.number c.in-Some.ensures.there c.in-Some.ensures.least)

pub returns-in-None : goal.returns-in-None
returns-in-None c = λ fs ts h.
    let x = c.args.self.now in
    c.or_earlier-best.ensures
    ∙ sym (lesser-none (lesser c.args.best c.least.result))
    ∙ sending_is c.args.clock fs ts x c.args.best c.least.result None h c.least.ensures
    (tells_none (is_in x.ready) c.in-None.ensures.none)
