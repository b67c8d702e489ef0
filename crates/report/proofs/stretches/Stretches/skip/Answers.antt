use Rattle.std.proofs.Common.{◌<◌, drop, length, sym, ap, subst, ◌∙◌}
use Rattle.report.specs.Orders.{in_order}
use Rattle.report.proofs.NextWords.{next_word, not_ended}
use Rattle.report.proofs.stretches.Stretches.skip.Goals as goal

pub returns-else-self : goal.returns-else-self
returns-else-self c =
    let s = c.self.inside in
    let rest = in_order s.runs.now s.tail s.stored.now in
    let inside = not_ended s.stored.now rest s.at s.end c.self.invariant.0 c.self.invariant.4 (subst (λ l. 0 < length l) (sym c.self.view_is) c.requires) in
    ap (drop 1) (sym (next_word s.stored.now rest s.at s.end (record { high = 0; low = 0 }) inside c.self.invariant.1))
    ∙ ap (drop 1) c.self.view_is
