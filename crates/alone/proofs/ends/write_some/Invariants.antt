use Rattle.std.specs.Io.KnownBytes.{Keeps}
use Rattle.alone.proofs.ends.write_some.Given as goal

abbrev pub invariant-loop-count : goal.invariant-loop-count
invariant-loop-count g l = Keeps (g.W.Outlet.contents l.initial.writer) (g.W.Outlet.contents l.writer)

abbrev pub decreases-loop-count : goal.decreases-loop-count
decreases-loop-count g l = g.W.Outlet.patience l.writer
