use Rattle.std.proofs.Common.{◌≡◌, ◌∙◌, Some, None, map, slice_get, refl, ap, sym}
use Rattle.std.specs.Prelude.{option_map}
use Rattle.std.proofs.lemmas.Option.{slice_get_past, slice_get_read}
use Rattle.link_core.proofs.LinePlaces.{items-get}
use Rattle.link_core.proofs.delay.DelayLine.at.Goals as goal

pub returns-in-Some : goal.returns-in-Some
returns-in-Some g c =
    let items = c.self.inside.in_flight.items in
    let at = c.args.place in
    let read = c.in-Some.ensures.item in
    let found : slice_get items at ≡ Some c.in-Some.underway.now = slice_get_read items _ at c.in-Some.underway.now refl read.3.0 read.1 in
    sym (ap (λ l. slice_get (map (λ x. x.item) l.line.in_flight) at) (sym c.self.view_is) ∙ items-get items at ∙ ap (option_map (λ u. u.item)) found)

pub returns-in-None : goal.returns-in-None
returns-in-None g c =
    let items = c.self.inside.in_flight.items in
    let at = c.args.place in
    let found : slice_get items at ≡ None = slice_get_past items at c.in-None.ensures.item.3 in
    sym (ap (λ l. slice_get (map (λ x. x.item) l.line.in_flight) at) (sym c.self.view_is) ∙ items-get items at ∙ ap (option_map (λ u. u.item)) found)
