use Rattle.std.proofs.Common.{sym, ◌∙◌}
use Rattle.sources.proofs.Standing.{nowhere, flow_sends, train_sends, sends_nothing, flow_few, train_few}
use Rattle.sources.proofs.sources.Traffic.find.Goals as goal

pub returns-in-None-clause-none : goal.returns-in-None-clause-none
returns-in-None-clause-none c =
    nowhere c.args.number c.args.self.now (sym c.in_default.is ∙ c.flow_place.ensures) (sym c.in-None.is ∙ c.train_place.ensures)

pub returns-in-None-clause-still : goal.returns-in-None-clause-still
returns-in-None-clause-still c =
    sends_nothing c.args.number c.args.self.now (sym c.in_default.is ∙ c.flow_place.ensures)
    (sym c.in-None.is ∙ c.train_place.ensures)

pub returns-in-Some-clause-header : goal.returns-in-Some-clause-header
returns-in-Some-clause-header c =
    flow_sends c.args.number c.in-Some.place c.args.self.now c.self.inside.flows.items c.self.inside.trains.items
    c.self.view_is c.self.invariant.0 (sym c.in-Some.is ∙ c.flow_place.ensures)

pub returns-in-Some-train_place-clause-header : goal.returns-in-Some-train_place-clause-header
returns-in-Some-train_place-clause-header c =
    train_sends c.args.number c.in-Some-train_place.place c.args.self.now c.self.inside.flows.items c.self.inside.trains.items
    c.self.view_is (sym c.in-Some-train_place.is ∙ c.train_place.ensures)

pub returns-in-Some-clause-few : goal.returns-in-Some-clause-few
returns-in-Some-clause-few c =
    flow_few c.args.number c.in-Some.place c.args.self.now c.self.inside.flows.items c.self.inside.trains.items
    c.self.view_is c.self.invariant.0 (sym c.in-Some.is ∙ c.flow_place.ensures)

pub returns-in-Some-train_place-clause-few : goal.returns-in-Some-train_place-clause-few
returns-in-Some-train_place-clause-few c =
    train_few c.args.number c.in-Some-train_place.place c.args.self.now c.self.inside.flows.items c.self.inside.trains.items
    c.self.view_is c.self.invariant.0 (sym c.in-Some-train_place.is ∙ c.train_place.ensures)
