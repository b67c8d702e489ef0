use Rattle.std.proofs.Common.{sym, ap, ◌∙◌}
use Rattle.std.specs.Prelude.{is_some}
use Rattle.pipe_core.specs.KeyedInstance.{KeyedInstance}
use Rattle.pipe_core.proofs.Shows.{accept-waits, accept-served}
use Rattle.pipe_core.proofs.instance.Instance.accept.Goals as goal

pub returns-then-is_busy-clause-came : goal.returns-then-is_busy-clause-came
returns-then-is_busy-clause-came c =
    let s = c.self.inside in
    let old : KeyedInstance = record { queue = s.queue; service = s.service; delay_line = s.line; draws = s.stream } in
    rw (← c.self.view_is) (accept-waits c.args.now c.args.key c.args.size old _ c.self.invariant
    (sym c.is_busy.ensures ∙ c.if-is_busy.true)
    (λ i. record { queue = c.enqueue_reserved.ensures i; service = s.service; delay_line = s.line; draws = s.stream }))

pub returns-clause-came : goal.returns-clause-came
returns-clause-came c =
    let s = c.self.inside in
    let old : KeyedInstance = record { queue = s.queue; service = s.service; delay_line = s.line; draws = s.stream } in
    rw (← c.self.view_is) (accept-served c.args.now c.args.key c.args.size old _ c.self.invariant
    (sym c.is_busy.ensures ∙ c.if-is_busy.false)
    (λ i. record { queue = c.pass.ensures i; service = c.start.ensures i; delay_line = s.line; draws = s.stream }))
