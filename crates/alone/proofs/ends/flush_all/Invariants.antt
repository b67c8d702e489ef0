use Rattle.std.specs.Io.KnownBytes.{Keeps}
use Rattle.alone.proofs.ends.flush_all.Given as goal

abbrev pub invariant-loop : goal.invariant-loop
invariant-loop g l = Keeps (g.W.Outlet.contents l.initial.writer) (g.W.Outlet.contents l.writer)

abbrev pub decreases-loop : goal.decreases-loop
decreases-loop g l = g.W.Outlet.patience l.writer
