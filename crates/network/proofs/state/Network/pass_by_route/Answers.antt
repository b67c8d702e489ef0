use Rattle.std.proofs.Common.{◌≡◌, refl, sym, ap, ◌∙◌, subst}
use Rattle.emu_model.specs.Net.{pass_rules_from, enter_pipe as enters_pipe}
use Rattle.pipe_table.specs.Table.{Table}
use Rattle.pipe_table.specs.Places.{StandsAt}
use Rattle.emu_model.specs.Step.{setting}
use Rattle.network.specs.contracts.state.Network.{the_view}
use Rattle.network.specs.Kept.{KeptNet, net_of, IsHoused, Stands}
use Rattle.network.specs.Ready.{CanGo}
use Rattle.network.proofs.Frame.{pipes-named}
use Rattle.network.proofs.Steps.{at_view, from_view}
use Rattle.network.proofs.Arriving.{passes-by-route, housed-logged, taken-in, turned-away}
use Rattle.network.proofs.state.Network.pass_by_route.Goals as goal

pub arrive_at-answer-requires-clause-named : goal.arrive_at-answer-requires-clause-named
arrive_at-answer-requires-clause-named g c =
    let p = g.S.Shelf.pocket c.args.shelf.now c.args.owner in
    let n = the_view c.self.inside in
    let y = the_view c.self-2.inside in
    let stands : Stands (setting c.args.spec.now c.args.now) p n = at_view (Stands (setting c.args.spec.now c.args.now) p) n _ c.self.view_is c.requires.stands in
    pipes-named p y (at_view (IsHoused p) y _ c.self-2.view_is
    (housed-logged p n c.note_arrival_by_route.new.self c.count_at.new.self stands.housed c.note_arrival_by_route.ensures.rest))

pub returns-in-Some-clause-becomes : goal.returns-in-Some-clause-becomes
returns-in-Some-clause-becomes g c = λ start go.
    let p = g.S.Shelf.pocket c.args.shelf.now c.args.owner in
    let n = the_view c.self.inside in
    let y = the_view c.self-2.inside in
    let x = c.args.packet.now in
    let w = c.args.route.now in
    let sent = record x { place = w.place } in
    let stands : Stands (setting c.args.spec.now c.args.now) p n = at_view (Stands (setting c.args.spec.now c.args.now) p) n _ c.self.view_is c.requires.stands in
    let can : CanGo start x w n = at_view (CanGo start x w) n _ c.self.view_is go in
    let same : y.table ≡ n.table = ap (λ (m : KeptNet). m.table) (c.self-2.view_is ∙ c.note_arrival_by_route.ensures.rest) in
    let housed : IsHoused p y = at_view (IsHoused p) y _ c.self-2.view_is
    (housed-logged p n c.note_arrival_by_route.new.self c.count_at.new.self stands.housed c.note_arrival_by_route.ensures.rest) in
    let there : StandsAt w.number w.pipe y.table.pipes = subst (λ (t : Table). StandsAt w.number w.pipe t.pipes) (sym same) can.route.routed.stands in
    from_view 0 (λ m. pass_rules_from (setting c.args.spec.now c.args.now) start x (net_of p m)) p _ n _ _ c.self.view_is
    (passes-by-route (setting c.args.spec.now c.args.now) p _ n c.note_arrival_by_route.new.self c.drop_packet.new.self start x sent w c.count_at.new.self
    stands.housed can.route c.count_at.ensures refl c.note_arrival_by_route.ensures.rest (c.note_arrival_by_route.ensures.records p)
    (from_view 0 (λ m. enters_pipe (setting c.args.spec.now c.args.now) w.number sent (net_of p m)) p _ y _ _ c.self-2.view_is
    (turned-away (setting c.args.spec.now c.args.now) p _ y c.arrive_at-answer.new.self w.number c.args.now sent
    housed c.arrive_at-answer.ensures.keys c.arrive_at-answer.ensures.seed c.in-Some.cause _
    (c.in-Some.ensures.arrived w.number there (setting c.args.spec.now c.args.now) (net_of p y) (stands.seed ∙ ap (λ (t : Table). t.seed) (sym same)) refl) c.drop_packet.ensures)))

pub returns-in_default-clause-becomes : goal.returns-in_default-clause-becomes
returns-in_default-clause-becomes g c = λ start go.
    let p = g.S.Shelf.pocket c.args.shelf.now c.args.owner in
    let n = the_view c.self.inside in
    let y = the_view c.self-2.inside in
    let x = c.args.packet.now in
    let w = c.args.route.now in
    let sent = record x { place = w.place } in
    let stands : Stands (setting c.args.spec.now c.args.now) p n = at_view (Stands (setting c.args.spec.now c.args.now) p) n _ c.self.view_is c.requires.stands in
    let can : CanGo start x w n = at_view (CanGo start x w) n _ c.self.view_is go in
    let same : y.table ≡ n.table = ap (λ (m : KeptNet). m.table) (c.self-2.view_is ∙ c.note_arrival_by_route.ensures.rest) in
    let housed : IsHoused p y = at_view (IsHoused p) y _ c.self-2.view_is
    (housed-logged p n c.note_arrival_by_route.new.self c.count_at.new.self stands.housed c.note_arrival_by_route.ensures.rest) in
    let there : StandsAt w.number w.pipe y.table.pipes = subst (λ (t : Table). StandsAt w.number w.pipe t.pipes) (sym same) can.route.routed.stands in
    from_view 0 (λ m. pass_rules_from (setting c.args.spec.now c.args.now) start x (net_of p m)) p _ n _ _ c.self.view_is
    (passes-by-route (setting c.args.spec.now c.args.now) p _ n c.note_arrival_by_route.new.self _ start x sent w c.count_at.new.self
    stands.housed can.route c.count_at.ensures refl c.note_arrival_by_route.ensures.rest (c.note_arrival_by_route.ensures.records p)
    (from_view 0 (λ m. enters_pipe (setting c.args.spec.now c.args.now) w.number sent (net_of p m)) p _ y _ _ c.self-2.view_is
    (taken-in (setting c.args.spec.now c.args.now) p _ y c.arrive_at-answer.new.self w.number c.args.now sent
    housed c.arrive_at-answer.ensures.keys c.arrive_at-answer.ensures.seed
    (c.in_default.ensures.arrived w.number there (setting c.args.spec.now c.args.now) (net_of p y) (stands.seed ∙ ap (λ (t : Table). t.seed) (sym same)) refl))))
