use Rattle.std.proofs.Common.{ap, arith}
use Rattle.packet_store.specs.Own.{own_pocket}
use Rattle.packet_store.specs.Pocket.{Pocket}
use Rattle.pipe_core.specs.Keyed.{keys_of}
use Rattle.engine_examples.proofs.BenchFacts.{bench_moves, bench_stays}
use Rattle.engine_examples.proofs.tests.pipes.bench.Bench.arrive.Goals as goal

pub invariant_of-self : goal.invariant_of-self
invariant_of-self c =
    let s = c.self.inside in
    bench_stays (own_pocket s.shelf) (own_pocket c.arrive_ready-ready.new.shelf) (keys_of s.pipe.slots) (keys_of c.arrive_ready-ready.new.self.slots) s.budget
    c.self.invariant (c.arrive_ready-ready.ensures.pockets 0) c.arrive_ready-ready.ensures.grown.keys

pub arrive-requires-clause-named : goal.arrive-requires-clause-named
arrive-requires-clause-named c =
    let s = c.self.inside in
    let here =
    bench_stays (own_pocket s.shelf) (own_pocket c.arrive_ready-ready.new.shelf) (keys_of s.pipe.slots) (keys_of c.arrive_ready-ready.new.self.slots) s.budget
    c.self.invariant (c.arrive_ready-ready.ensures.pockets 0) c.arrive_ready-ready.ensures.grown.keys in
    here.0

pub arrive-requires-clause-budget : goal.arrive-requires-clause-budget
arrive-requires-clause-budget c =
    let same = c.arrive_ready-ready.ensures.pockets 0 in
    omega (arith, ap (λ (p : Pocket). p.count) same, ap (λ (p : Pocket). p.budget) same, c.self.invariant.1, c.count.ensures, c.if-count-self)

pub invariant_of-self-2 : goal.invariant_of-self-2
invariant_of-self-2 c =
    let s = c.self.inside in
    let here =
    bench_stays (own_pocket s.shelf) (own_pocket c.arrive_ready-ready.new.shelf) (keys_of s.pipe.slots) (keys_of c.arrive_ready-ready.new.self.slots) s.budget
    c.self.invariant (c.arrive_ready-ready.ensures.pockets 0) c.arrive_ready-ready.ensures.grown.keys in
    bench_moves (own_pocket c.arrive_ready-ready.new.shelf) (own_pocket c.arrive.new.shelf) (keys_of c.arrive_ready-ready.new.self.slots) (keys_of c.arrive.new.self.slots)
    s.budget here c.arrive.ensures.keys
