use Rattle.std.proofs.Common.{◌≡◌, refl, sym, ◌∙◌, ap}
use Rattle.std.specs.Prelude.{Option, Some, None, is_some, option_map, find}
use Rattle.sources.specs.Kept.{KeptFlow}
use Rattle.sources.proofs.Changes.{has_number}
use Rattle.std.proofs.Common.{◌==◌}
use Rattle.sources.proofs.FirstPlaces.{any_position, list_any_is, find-map}
use Rattle.sources.proofs.sources.Traffic.has_flow.Goals as goal

is_some-map : (o : Option KeptFlow) → is_some (option_map (λ (f : KeptFlow). f.state) o) ≡ is_some o
is_some-map None = refl
is_some-map (Some f) = refl

pub returns : goal.returns
returns c = λ n.
    let k = c.args.number in
    let fs = c.args.self.now.flows in
    c.is_some.ensures ∙ ap is_some c.flow_place-place.ensures
    ∙ sym (any_position (has_number k) fs)
    ∙ list_any_is (has_number k) fs
    ∙ sym (is_some-map (find (has_number k) fs))
    ∙ sym (ap is_some (find-map (λ (f : KeptFlow). f.state) (λ s. s.number == k) fs))
