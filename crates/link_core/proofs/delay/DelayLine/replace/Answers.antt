use Rattle.std.proofs.Common.{◌<◌, ◌∙◌, length, ap, arith}
use Rattle.std.proofs.lemmas.List.{length-map}
use Rattle.link_core.specs.Flight.{leaving_of, with_item}
use Rattle.link_core.proofs.LinePlaces.{in_flight-set}
use Rattle.link_core.proofs.delay.DelayLine.replace.Goals as goal

pub returns : goal.returns
returns g c =
    let items = c.self.inside.in_flight.items in
    let at = c.args.place in
    let within : at < length items =
    omega (arith, c.requires, ap (λ l. length l.line.in_flight) c.self.view_is, length-map items leaving_of) in
    let replaced = in_flight-set items at _ c.args.item within c.index_mut.ensures.value in
    λ i. record {
      line = record {
        in_flight = (replaced ∙ ap (λ l. with_item l.line.in_flight at c.args.item) c.self.view_is) i;
        last = (c.self.view_is i).line.last;
      };
      spare = (c.self.view_is i).spare;
    }
