use Rattle.std.proofs.Common.{Bool, [], ◌++◌, sym, ap, subst, ◌∙◌}
use Rattle.std.specs.Prelude.{if◌then◌else◌}
use Rattle.std.specs.Option.{option_map_or}
use Rattle.emu_model.specs.Net.{arrivals, find_pipe}
use Rattle.pipe_table.specs.Places.{StandsAt}
use Rattle.network.specs.Kept.{KeptNet, net_of}
use Rattle.network.specs.contracts.state.Network.{the_view}
use Rattle.network.proofs.state.Network.note_arrival_by_route.Goals as goal

pub returns-clause-records : goal.returns-clause-records
returns-clause-records c = λ p.
    let n = the_view c.self.inside in
    let w = c.args.route.now in
    let stands : StandsAt w.number w.pipe n.table.pipes =
    subst (λ (m : KeptNet). StandsAt w.number w.pipe m.table.pipes) (sym c.self.view_is) c.requires.route.stands in
    rw (← c.self.view_is)
    (c.note_arrival_at.ensures.records w.number stands p (net_of p n)
    ∙ ap (λ (b : Bool). n.log.records ++ (if b then option_map_or (arrivals c.args.now c.args.packet.now) (find_pipe w.number (net_of p n)) [] else [])) (sym c.if-not-self.false))
