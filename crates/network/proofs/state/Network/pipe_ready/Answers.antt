use Rattle.std.proofs.Common.{◌≡◌, sym, ◌∙◌, subst, Some, None}
use Rattle.pipe_table.specs.Table.{has_number, pipe_of}
use Rattle.pipe_table.proofs.CallerLemmas.{position-none}
use Rattle.network.specs.Kept.{KeptNet}
use Rattle.network.proofs.state.Network.pipe_ready.Goals as goal

pub returns-in_default-clause-ready : goal.returns-in_default-clause-ready
returns-in_default-clause-ready g c = λ p found.
    let none = subst (λ (m : KeptNet). pipe_of c.args.number m.table.pipes ≡ None) c.self.view_is
    (position-none (has_number c.args.number) c.self.inside.table.pipes c.in_default.ensures) in
    let other : Some p ≡ None = sym found ∙ none in
    absurd (cc)
