use Rattle.packet_store.specs.Own.{own_pocket}
use Rattle.pipe_core.specs.Keyed.{keys_of}
use Rattle.engine_examples.proofs.BenchFacts.{bench_moves}
use Rattle.engine_examples.proofs.tests.pipes.bench.Bench.finish.Goals as goal

pub invariant_of-self : goal.invariant_of-self
invariant_of-self c =
    let s = c.self.inside in
    bench_moves (own_pocket s.shelf) (own_pocket c.finish.new.shelf) (keys_of s.pipe.slots) (keys_of c.finish.new.self.slots) s.budget
    c.self.invariant c.finish.ensures.keys
