use Rattle.std.proofs.Common.{sym, ◌∙◌}
use Rattle.sources.proofs.Telling.{right_none, flow_there, place_there, placed, right_same, early_at}
use Rattle.sources.proofs.index.SourceIndex.told_early.Goals as goal

pub returns-then-is_none-clause-right : goal.returns-then-is_none-clause-right
returns-then-is_none-clause-right c =
    let x = c.args.self.now in
    let os = x.timers.leaves in
    let fs = c.args.flows.now in
    let places = c.args.places.now in
    let told = c.least-told.result in
    right_none os fs places told c.requires.told c.requires.flows c.least-told.ensures (sym c.is_none.ensures ∙ c.if-is_none.true)

pub returns-in_default-clause-right : goal.returns-in_default-clause-right
returns-in_default-clause-right c =
    let x = c.args.self.now in
    let os = x.timers.leaves in
    let fs = c.args.flows.now in
    let places = c.args.places.now in
    let told = c.least-told.result in
    absurd (flow_there os fs places told c.requires.told c.requires.flows c.least-told.ensures (sym c.is_none.ensures ∙ c.if-is_none.false) c.in_default.ensures)

pub returns-in_default-get-clause-right : goal.returns-in_default-get-clause-right
returns-in_default-get-clause-right c =
    let x = c.args.self.now in
    let os = x.timers.leaves in
    let fs = c.args.flows.now in
    let places = c.args.places.now in
    let told = c.least-told.result in
    absurd (place_there os fs places told c.requires.told c.requires.flows c.least-told.ensures c.in-Some.flow c.get.result (sym c.is_none.ensures ∙ c.if-is_none.false) c.in-Some.ensures
    c.get.ensures.value c.in_default-get.ensures)

pub returns-then-is_same-clause-right : goal.returns-then-is_same-clause-right
returns-then-is_same-clause-right c =
    let x = c.args.self.now in
    let os = x.timers.leaves in
    let fs = c.args.flows.now in
    let places = c.args.places.now in
    let told = c.least-told.result in
    let at = placed os fs places told c.requires.told c.requires.flows c.least-told.ensures c.in-Some.flow c.get.result c.in-Some-get.place (sym c.is_none.ensures ∙ c.if-is_none.false) c.in-Some.ensures
    c.get.ensures.value c.in-Some-get.ensures in
    right_same os fs places told c.requires.told c.requires.flows c.least-told.ensures c.in-Some-get.place c.index-flows-place.result c.timer.result at
    c.index-flows-place.is c.timer.ensures (c.is_same.ensures.0 c.if-is_same.true)

pub returns-clause-early : goal.returns-clause-early
returns-clause-early c =
    let x = c.args.self.now in
    let os = x.timers.leaves in
    let fs = c.args.flows.now in
    let places = c.args.places.now in
    let told = c.least-told.result in
    let at = placed os fs places told c.requires.told c.requires.flows c.least-told.ensures c.in-Some.flow c.get.result c.in-Some-get.place (sym c.is_none.ensures ∙ c.if-is_none.false) c.in-Some.ensures
    c.get.ensures.value c.in-Some-get.ensures in
    early_at os fs places told c.requires.told c.requires.flows c.least-told.ensures c.in-Some-get.place c.index-flows-place.result c.timer.result at
    c.index-flows-place.is c.timer.ensures
    (λ e. let bad = sym (c.is_same.ensures.1 e) ∙ c.if-is_same.false in absurd (cc))

pub bounds-flows-place : goal.bounds-flows-place
bounds-flows-place c =
    let x = c.args.self.now in
    let os = x.timers.leaves in
    let fs = c.args.flows.now in
    let places = c.args.places.now in
    let told = c.least-told.result in
    (placed os fs places told c.requires.told c.requires.flows c.least-told.ensures c.in-Some.flow c.get.result c.in-Some-get.place (sym c.is_none.ensures ∙ c.if-is_none.false) c.in-Some.ensures
    c.get.ensures.value c.in-Some-get.ensures).within
