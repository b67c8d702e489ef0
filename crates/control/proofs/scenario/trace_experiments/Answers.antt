use Rattle.std.proofs.Common.{◌≡◌, ℕ, ◌<◌, true, List, length, get_or, set, sym, ap, ◌∙◌, add-one, arith}
use Rattle.control.specs.declared.scenario.Experiment.{Experiment}
use Rattle.control.specs.Traced.{traced}
use Rattle.control.proofs.Tracing.{done, done-get, done-more}
use Rattle.control.proofs.scenario.trace_experiments.Goals as goal

pub loop-experiment-preserved : goal.loop-experiment-preserved
loop-experiment-preserved c =
    let all : List Experiment = c.args.experiments.now in
    let i : ℕ = c.loop-experiment.experiment-index in
    let x : Experiment = c.experiment-item.result in
    let within : i < length all = omega arith in
    let old : Experiment = get_or c.loop-experiment.experiments i x in
    let was : old ≡ get_or all i x = ap (λ es. get_or es i x) c.loop-experiment.invariant ∙ done-get traced all i x in
    let here : Experiment = record old { spec = record old.spec { traced = true }; commands = c.trace.new.self } in
    let is : here ≡ traced (get_or all i x) =
    (λ t. record old { spec = record old.spec { traced = true }; commands = c.trace.ensures t }) ∙ ap traced was in
    (λ t. set (c.loop-experiment.invariant t) i (is t)) ∙ done-more traced all i x within ∙ ap (done traced all) (sym (add-one i))
