use Rattle.std.proofs.Common.{◌∷◌, drop, get_or, sym, ◌∙◌, arith}
use Rattle.report.specs.Orders.{in_order}
use Rattle.report.proofs.NextWords.{next_word}
use Rattle.report.proofs.stretches.Stretches.peek.Goals as goal

pub returns-clause-some : goal.returns-clause-some
returns-clause-some c =
    let s = c.self.inside in
    let next = sym c.self.view_is
    ∙ next_word s.stored.now (in_order s.runs.now s.tail s.stored.now) s.at s.end (record { high = 0; low = 0 }) (omega (arith, c.self.invariant.0, c.if-self.false)) c.self.invariant.1 in
    next ∙ (λ i. get_or s.stored.now s.at (record { high = 0; low = 0 }) ∷ drop 1 (sym next i))
