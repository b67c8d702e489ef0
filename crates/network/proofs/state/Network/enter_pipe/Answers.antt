use Rattle.emu_model.specs.Net.{find_pipe, enter_pipe as enters_pipe}
use Rattle.emu_model.specs.Step.{setting}
use Rattle.network.specs.Kept.{KeptNet, net_of, IsHoused, Stands}
use Rattle.std.proofs.Common.{◌≡◌, refl, sym, ap, ◌∙◌, None}
use Rattle.pipe_core.specs.Moves.{packet_at}
use Rattle.pipe_table.specs.Table.{has_number, HasRoomIn}
use Rattle.pipe_table.proofs.CallerLemmas.{position-none}
use Rattle.network.specs.contracts.state.Network.{the_view}
use Rattle.network.proofs.Steps.{at_view, from_view}
use Rattle.network.proofs.Frame.{pipes-named}
use Rattle.network.proofs.InFlight.{none-seen}
use Rattle.network.proofs.Arriving.{finds-none, taken-in, turned-away}
use Rattle.network.proofs.state.Network.enter_pipe.Goals as goal

pub returns-in_default-clause-becomes : goal.returns-in_default-clause-becomes
returns-in_default-clause-becomes g c =
    let p = g.S.Shelf.pocket c.args.shelf.now c.args.owner in
    let n = the_view c.self.inside in
    let none : find_pipe c.args.number (net_of p n) ≡ None =
    none-seen (packet_at p.find) c.args.number n.table.pipes (position-none (has_number c.args.number) n.table.pipes c.in_default.ensures) in
    finds-none (setting c.args.spec.now c.args.now) p c.args.self.now c.drop_packet.new.self c.args.number c.args.packet.now c.requires.stands.housed
    (ap (λ (m : KeptNet). find_pipe c.args.number (net_of p m)) (sym c.self.view_is) ∙ none) c.drop_packet.ensures

pub arrive-answer-requires-clause-there : goal.arrive-answer-requires-clause-there
arrive-answer-requires-clause-there g c = (
  c.args.number,
  c.in-Some.ensures,
  at_view (λ m. HasRoomIn c.args.number c.args.packet.now m.table.pipes) (the_view c.self.inside) _ c.self.view_is c.requires.ready,
)

pub arrive-answer-requires-clause-named : goal.arrive-answer-requires-clause-named
arrive-answer-requires-clause-named g c =
    let p = g.S.Shelf.pocket c.args.shelf.now c.args.owner in
    pipes-named p (the_view c.self.inside) (at_view (IsHoused p) _ _ c.self.view_is c.requires.stands.housed)

pub returns-in-Some-answer-clause-becomes : goal.returns-in-Some-answer-clause-becomes
returns-in-Some-answer-clause-becomes g c =
    let p = g.S.Shelf.pocket c.args.shelf.now c.args.owner in
    let n = the_view c.self.inside in
    let stands : Stands (setting c.args.spec.now c.args.now) p n = at_view (Stands (setting c.args.spec.now c.args.now) p) _ _ c.self.view_is c.requires.stands in
    from_view 0 (λ m. enters_pipe (setting c.args.spec.now c.args.now) c.args.number c.args.packet.now (net_of p m)) p _ _ _ _ c.self.view_is
    (turned-away (setting c.args.spec.now c.args.now) p _ n c.arrive-answer.new.self c.args.number c.args.now c.args.packet.now
    stands.housed c.arrive-answer.ensures.keys c.arrive-answer.ensures.seed c.in-Some-answer.cause _
    (c.in-Some-answer.ensures.arrived c.args.number c.in-Some.ensures (setting c.args.spec.now c.args.now) (net_of p n) stands.seed refl) c.drop_packet-in-Some-answer.ensures)

pub returns-in_default-answer-clause-becomes : goal.returns-in_default-answer-clause-becomes
returns-in_default-answer-clause-becomes g c =
    let p = g.S.Shelf.pocket c.args.shelf.now c.args.owner in
    let n = the_view c.self.inside in
    let stands : Stands (setting c.args.spec.now c.args.now) p n = at_view (Stands (setting c.args.spec.now c.args.now) p) _ _ c.self.view_is c.requires.stands in
    from_view 0 (λ m. enters_pipe (setting c.args.spec.now c.args.now) c.args.number c.args.packet.now (net_of p m)) p _ _ _ _ c.self.view_is
    (taken-in (setting c.args.spec.now c.args.now) p _ n c.arrive-answer.new.self c.args.number c.args.now c.args.packet.now
    stands.housed c.arrive-answer.ensures.keys c.arrive-answer.ensures.seed
    (c.in_default-answer.ensures.arrived c.args.number c.in-Some.ensures (setting c.args.spec.now c.args.now) (net_of p n) stands.seed refl))
