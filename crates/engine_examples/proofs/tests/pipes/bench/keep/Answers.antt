use Rattle.engine_examples.proofs.BenchFacts.{bench_put}
use Rattle.engine_examples.proofs.tests.pipes.bench.keep.Goals as goal

pub returns-in-Ok : goal.returns-in-Ok
returns-in-Ok g c =
    bench_put (g.S.Shelf.pocket c.args.shelf.now c.args.owner) (g.S.Shelf.pocket c.put.new.self c.args.owner)
    c.in-Ok.key c.in-Some.packet c.in-Ok.ensures.vacant c.in-Ok.ensures.ok
