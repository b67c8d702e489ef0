use Rattle.packet_store.specs.Own.{own_pocket}
use Rattle.pipe_core.specs.Keyed.{KeyedPipe}
use Rattle.std.proofs.Common.{ap, sym, ◌∙◌}
use Rattle.packet_store.specs.Pocket.{empty_pocket}
use Rattle.engine_examples.proofs.BenchFacts.{bench_new}
use Rattle.engine_examples.proofs.tests.pipes.bench.Bench.new.Goals as goal

pub invariant_of-result : goal.invariant_of-result
invariant_of-result c =
    bench_new (own_pocket c.new-shelf.result) c.new-pipe.result.slots c.get-budget.result (c.new-shelf.ensures.own ∙ ap empty_pocket (sym c.get-budget.ensures.value))
    (ap (λ (p : KeyedPipe). p.slots) c.new-pipe.ensures)
