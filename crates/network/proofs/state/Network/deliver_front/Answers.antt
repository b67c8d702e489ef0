use Rattle.std.proofs.Common.{◌≡◌, ◌<◌, ℕ, refl, sym, ap, ◌∙◌, subst, Some, Option}
use Rattle.std.specs.Prelude.{option_and_then, OnSome, Result, Ok, Err, IsOk}
use Rattle.emu_model.specs.declared.packets.Packet.{Packet}
use Rattle.emu_model.specs.Net.{Net, find_pipe}
use Rattle.emu_model.specs.Events.{flying_in}
use Rattle.pipe_table.specs.Table.{IsLeaving}
use Rattle.pipe_table.specs.Places.{StandsAt, IsInside}
use Rattle.pipe_table.proofs.CallerLemmas.{leaving-flies, leaving-inside}
use Rattle.emu_model.specs.Step.{setting}
use Rattle.network.specs.contracts.state.Network.{the_view}
use Rattle.network.specs.Kept.{KeptNet, net_of, IsHoused}
use Rattle.network.specs.Changes.{Becomes}
use Rattle.network.specs.Ready.{CanDeliver}
use Rattle.network.proofs.Steps.{at_view}
use Rattle.network.proofs.Frame.{pipes-named}
use Rattle.network.proofs.AsReady.{as-deliver}
use Rattle.network.proofs.InFlight.{exits, exit-stands, exit-roomy, exit-some, delivered-leaves}
use Rattle.network.proofs.Readied.{readied}
use Rattle.network.proofs.state.Network.deliver_front.Goals as goal

pub front-requires-clause-named : goal.front-requires-clause-named
front-requires-clause-named g c =
    let p = g.S.Shelf.pocket c.args.shelf.now c.args.owner in
    pipes-named p (the_view c.self.inside) (at_view (IsHoused p) _ _ c.self.view_is c.requires.stands.housed)

pub front-requires-clause-inside : goal.front-requires-clause-inside
front-requires-clause-inside g c =
    let n = the_view c.self.inside in
    let k = c.args.pipe in
    subst (λ (j : ℕ). IsInside c.args.place j n.table.pipes) (sym c.from-index.ensures)
    (leaving-inside k c.args.place c.args.instance c.args.now n.table.pipes
    (at_view (λ (m : KeptNet). StandsAt k c.args.place m.table.pipes) n c.args.self.now c.self.view_is c.requires.place)
    (at_view (λ (m : KeptNet). IsLeaving k c.args.instance c.args.now m.table.pipes) n c.args.self.now c.self.view_is c.requires.due))

pub unreachable_unchecked-unreachable-requires : goal.unreachable_unchecked-unreachable-requires
unreachable_unchecked-unreachable-requires g c =
    let p = g.S.Shelf.pocket c.args.shelf.now c.args.owner in
    let n = the_view c.self.inside in
    let k = c.args.pipe in
    let at_first : StandsAt k c.args.place n.table.pipes =
    at_view (λ (m : KeptNet). StandsAt k c.args.place m.table.pipes) n c.args.self.now c.self.view_is c.requires.place in
    leaving-flies k c.from-index.result c.args.now n.table.pipes
    (subst (λ (j : ℕ). IsLeaving k j c.args.now n.table.pipes) (sym c.from-index.ensures)
    (at_view (λ (m : KeptNet). IsLeaving k c.args.instance c.args.now m.table.pipes) n c.args.self.now c.self.view_is c.requires.due))
    p (net_of p n) (sym (c.front.ensures k at_first (net_of p n)) ∙ c.in_default.is)

pub exit-gone-requires-clause-inside : goal.exit-gone-requires-clause-inside
exit-gone-requires-clause-inside g c =
    let ps = c.args.self.now.table.pipes in
    at_view (λ (m : KeptNet). IsInside c.args.place c.from-index.result m.table.pipes) (the_view c.self-2.inside) c.deliver_ready.new.self c.self-2.view_is
    (c.in_ok-lookup.ensures.places.inside c.args.place c.from-index.result
    (subst (λ (j : ℕ). IsInside c.args.place j ps) (sym c.from-index.ensures)
    (leaving-inside c.args.pipe c.args.place c.args.instance c.args.now ps c.requires.place c.requires.due)))

pub exit-gone-requires-clause-named : goal.exit-gone-requires-clause-named
exit-gone-requires-clause-named g c =
    let r = readied c.requires.stands.housed c.deliver_ready.ensures.still (c.deliver_ready.ensures.pockets c.args.owner) c.self-2.view_is in
    pipes-named _ _ r.housed

pub deliver-requires-clause-stands : goal.deliver-requires-clause-stands
deliver-requires-clause-stands g c =
    let o = g.S.Shelf.pocket c.args.shelf.now c.args.owner in
    let p = g.S.Shelf.pocket c.deliver_ready.new.shelf c.args.owner in
    let q = g.S.Shelf.pocket c.exit-gone.new.shelf c.args.owner in
    let old = c.args.self.now in
    let n = the_view c.self-2.inside in
    let k = c.args.pipe in
    let j = c.from-index.result in
    let x = c.in-Some.packet in
    let table = c.exit-gone.new.self in
    let m : KeptNet = record n { table = table } in
    let r = readied c.requires.stands.housed c.deliver_ready.ensures.still (c.deliver_ready.ensures.pockets c.args.owner) c.self-2.view_is in
    let at_first : StandsAt k c.args.place (the_view c.self.inside).table.pipes =
    at_view (λ (m : KeptNet). StandsAt k c.args.place m.table.pipes) (the_view c.self.inside) old c.self.view_is c.requires.place in
    let stands : StandsAt k c.args.place n.table.pipes =
    at_view (λ (m : KeptNet). StandsAt k c.args.place m.table.pipes) n c.deliver_ready.new.self c.self-2.view_is
    (c.requires.place ∙ sym (c.in_ok-lookup.ensures.places.places k)) in
    let gone : c.exit-gone.result ≡ Some x =
    c.exit-gone.ensures.packet k stands (net_of p n)
    ∙ ap (λ (z : Net). option_and_then (flying_in j) (find_pipe k z)) (r.shown ∙ ap (net_of o) (sym c.self.view_is))
    ∙ sym (c.front.ensures k at_first (net_of o (the_view c.self.inside))) ∙ c.in-Some.is in
    exit-stands (setting c.args.spec.now c.args.now) o p q old n table k j r c.exit-gone.ensures.keys c.exit-gone.ensures.seed c.requires.stands

pub deliver-requires-clause-room : goal.deliver-requires-clause-room
deliver-requires-clause-room g c =
    let o = g.S.Shelf.pocket c.args.shelf.now c.args.owner in
    let p = g.S.Shelf.pocket c.deliver_ready.new.shelf c.args.owner in
    let q = g.S.Shelf.pocket c.exit-gone.new.shelf c.args.owner in
    let old = c.args.self.now in
    let n = the_view c.self-2.inside in
    let k = c.args.pipe in
    let j = c.from-index.result in
    let x = c.in-Some.packet in
    let table = c.exit-gone.new.self in
    let m : KeptNet = record n { table = table } in
    let r = readied c.requires.stands.housed c.deliver_ready.ensures.still (c.deliver_ready.ensures.pockets c.args.owner) c.self-2.view_is in
    let at_first : StandsAt k c.args.place (the_view c.self.inside).table.pipes =
    at_view (λ (m : KeptNet). StandsAt k c.args.place m.table.pipes) (the_view c.self.inside) old c.self.view_is c.requires.place in
    let stands : StandsAt k c.args.place n.table.pipes =
    at_view (λ (m : KeptNet). StandsAt k c.args.place m.table.pipes) n c.deliver_ready.new.self c.self-2.view_is
    (c.requires.place ∙ sym (c.in_ok-lookup.ensures.places.places k)) in
    let gone : c.exit-gone.result ≡ Some x =
    c.exit-gone.ensures.packet k stands (net_of p n)
    ∙ ap (λ (z : Net). option_and_then (flying_in j) (find_pipe k z)) (r.shown ∙ ap (net_of o) (sym c.self.view_is))
    ∙ sym (c.front.ensures k at_first (net_of o (the_view c.self.inside))) ∙ c.in-Some.is in
    subst (λ (y : Option Packet). OnSome y (0 < g.S.Shelf.room c.exit-gone.new.shelf c.args.owner)) gone c.exit-gone.ensures.freed

pub deliver-requires-clause-ready : goal.deliver-requires-clause-ready
deliver-requires-clause-ready g c =
    let o = g.S.Shelf.pocket c.args.shelf.now c.args.owner in
    let p = g.S.Shelf.pocket c.deliver_ready.new.shelf c.args.owner in
    let q = g.S.Shelf.pocket c.exit-gone.new.shelf c.args.owner in
    let old = c.args.self.now in
    let n = the_view c.self-2.inside in
    let k = c.args.pipe in
    let j = c.from-index.result in
    let x = c.in-Some.packet in
    let table = c.exit-gone.new.self in
    let m : KeptNet = record n { table = table } in
    let r = readied c.requires.stands.housed c.deliver_ready.ensures.still (c.deliver_ready.ensures.pockets c.args.owner) c.self-2.view_is in
    let at_first : StandsAt k c.args.place (the_view c.self.inside).table.pipes =
    at_view (λ (m : KeptNet). StandsAt k c.args.place m.table.pipes) (the_view c.self.inside) old c.self.view_is c.requires.place in
    let stands : StandsAt k c.args.place n.table.pipes =
    at_view (λ (m : KeptNet). StandsAt k c.args.place m.table.pipes) n c.deliver_ready.new.self c.self-2.view_is
    (c.requires.place ∙ sym (c.in_ok-lookup.ensures.places.places k)) in
    let gone : c.exit-gone.result ≡ Some x =
    c.exit-gone.ensures.packet k stands (net_of p n)
    ∙ ap (λ (z : Net). option_and_then (flying_in j) (find_pipe k z)) (r.shown ∙ ap (net_of o) (sym c.self.view_is))
    ∙ sym (c.front.ensures k at_first (net_of o (the_view c.self.inside))) ∙ c.in-Some.is in
    as-deliver n m (record {
      roomy = exit-roomy (setting c.args.spec.now c.args.now) o p q old n table k j r c.exit-gone.ensures.keys c.exit-gone.ensures.seed
          c.exit-gone.ensures.ready c.exit-gone.ensures.ready_at c.exit-gone.ensures.places;
      traffic = refl;
    }) x.load c.in_ok-lookup.lookup
    (subst (λ (z : KeptNet). CanDeliver x.load c.in_ok-lookup.lookup z) (sym c.self-2.view_is) c.in_ok-lookup.ensures.ready)

pub returns-clause-ok : goal.returns-clause-ok
returns-clause-ok g c =
    let o = g.S.Shelf.pocket c.args.shelf.now c.args.owner in
    let p = g.S.Shelf.pocket c.deliver_ready.new.shelf c.args.owner in
    let q = g.S.Shelf.pocket c.exit-gone.new.shelf c.args.owner in
    let old = c.args.self.now in
    let n = the_view c.self-2.inside in
    let k = c.args.pipe in
    let j = c.from-index.result in
    let x = c.in-Some.packet in
    let table = c.exit-gone.new.self in
    let m : KeptNet = record n { table = table } in
    let r = readied c.requires.stands.housed c.deliver_ready.ensures.still (c.deliver_ready.ensures.pockets c.args.owner) c.self-2.view_is in
    let at_first : StandsAt k c.args.place (the_view c.self.inside).table.pipes =
    at_view (λ (m : KeptNet). StandsAt k c.args.place m.table.pipes) (the_view c.self.inside) old c.self.view_is c.requires.place in
    let stands : StandsAt k c.args.place n.table.pipes =
    at_view (λ (m : KeptNet). StandsAt k c.args.place m.table.pipes) n c.deliver_ready.new.self c.self-2.view_is
    (c.requires.place ∙ sym (c.in_ok-lookup.ensures.places.places k)) in
    let gone : c.exit-gone.result ≡ Some x =
    c.exit-gone.ensures.packet k stands (net_of p n)
    ∙ ap (λ (z : Net). option_and_then (flying_in j) (find_pipe k z)) (r.shown ∙ ap (net_of o) (sym c.self.view_is))
    ∙ sym (c.front.ensures k at_first (net_of o (the_view c.self.inside))) ∙ c.in-Some.is in
    let one = ap (λ (z : KeptNet). z.one_pass) (c.self-2.view_is ∙ c.deliver_ready.ensures.rest) ∙ c.requires.one_pass in
    subst (λ (i : ℕ). Becomes 1 (exits (setting c.args.spec.now c.args.now) k i (net_of o old)) o (g.S.Shelf.pocket c.deliver.new.shelf c.args.owner) old c.deliver.new.self) c.from-index.ensures
    (exit-some (setting c.args.spec.now c.args.now) o p q old n table k j r c.exit-gone.ensures.keys c.exit-gone.ensures.seed c.exit-gone.result
    (c.exit-gone.ensures.gone k stands (setting c.args.spec.now c.args.now) (net_of p n)) x (sym gone) _ _
    (delivered-leaves (setting c.args.spec.now c.args.now) k j x q _ m c.deliver.new.self one c.deliver.ensures.becomes))

err-not : {T E A : Type 0} (r : Result T E) (e : E) → r ≡ Err e → IsOk r → A
err-not (Ok t) e is ok = absurd (cc)
err-not (Err f) e is ok = absurd (cc)

pub returns-in_err-lookup-clause-plain : goal.returns-in_err-lookup-clause-plain
returns-in_err-lookup-clause-plain g c = λ plain.
    let o = g.S.Shelf.pocket c.args.shelf.now c.args.owner in
    let n = the_view c.self.inside in
    let k = c.args.pipe in
    let x = c.in-Some.packet in
    let at_first : StandsAt k c.args.place n.table.pipes =
    at_view (λ (m : KeptNet). StandsAt k c.args.place m.table.pipes) n c.args.self.now c.self.view_is c.requires.place in
    let flying = subst (λ (j : ℕ). option_and_then (flying_in j) (find_pipe k (net_of o c.args.self.now)) ≡ Some x) c.from-index.ensures
    (ap (λ (m : KeptNet). option_and_then (flying_in c.from-index.result) (find_pipe k (net_of o m))) (sym c.self.view_is)
    ∙ sym (c.front.ensures k at_first (net_of o n)) ∙ c.in-Some.is) in
    err-not c.deliver_ready.result _ c.in_err-lookup.was (c.deliver_ready.ensures.plain (plain x flying))
