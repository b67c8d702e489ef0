use Rattle.std.proofs.Common.{◌≡◌, true, false, sym, ◌∙◌, ap}
use Rattle.std.specs.Prelude.{is_some}
use Rattle.sources.proofs.Changes.{has_number}
use Rattle.std.proofs.Common.{◌||◌}
use Rattle.std.specs.Prelude.{position}
use Rattle.sources.proofs.Changes.{train_has_number}
use Rattle.sources.proofs.Beginnings.{in_use}
use Rattle.sources.proofs.sources.Traffic.is_in_use.Goals as goal

pub returns-then-is_some : goal.returns-then-is_some
returns-then-is_some c = λ n.
    let k = c.args.number in
    let t = c.args.self.now in
    let there : is_some (position (has_number k) t.flows) ≡ true =
    sym (ap is_some c.flow_place.ensures) ∙ sym c.is_some.ensures ∙ c.if-is_some.true in
    c.if-is_some.true ∙ sym (in_use k t n ∙ ap (λ b. b || is_some (position (train_has_number k) t.trains)) there)

pub returns-else-is_some : goal.returns-else-is_some
returns-else-is_some c = λ n.
    let k = c.args.number in
    let t = c.args.self.now in
    let there : is_some (position (has_number k) t.flows) ≡ false =
    sym (ap is_some c.flow_place.ensures) ∙ sym c.is_some.ensures ∙ c.if-is_some.false in
    c.is_some-else-is_some.ensures ∙ ap is_some c.train_place.ensures
    ∙ sym (in_use k t n ∙ ap (λ b. b || is_some (position (train_has_number k) t.trains)) there)
