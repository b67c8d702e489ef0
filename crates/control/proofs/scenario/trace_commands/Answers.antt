use Rattle.std.proofs.Common.{◌≡◌, ℕ, ◌<◌, List, length, get_or, set, sym, ap, ◌∙◌, add-one, arith}
use Rattle.emu_model.specs.declared.commands.Timed.{Timed}
use Rattle.control.specs.Traced.{traced_command}
use Rattle.control.proofs.Tracing.{done, done-get, done-more}
use Rattle.control.proofs.scenario.trace_commands.Goals as goal

pub loop-command-preserved : goal.loop-command-preserved
loop-command-preserved c =
    let all : List Timed = c.args.commands.now in
    let i : ℕ = c.loop-command.command-index in
    let x : Timed = c.command-item.result in
    let within : i < length all = omega arith in
    let was : get_or c.loop-command.commands i x ≡ get_or all i x = ap (λ cs. get_or cs i x) c.loop-command.invariant ∙ done-get traced_command all i x in
    let is : c.trace_command.new.command ≡ traced_command (get_or all i x) = c.trace_command.ensures ∙ ap traced_command was in
    (λ t. set (c.loop-command.invariant t) i (is t)) ∙ done-more traced_command all i x within ∙ ap (done traced_command all) (sym (add-one i))
