use Rattle.std.proofs.Common.{◌≡◌, false, length}
use Rattle.alone.specs.Bytes.{IsWriting}
use Rattle.alone.proofs.ends.write_all.Given as goal

abbrev pub invariant-loop-rest : goal.invariant-loop-rest
invariant-loop-rest g l = record {
  writing : IsWriting (g.W.Outlet.contents l.initial.writer) (g.W.Outlet.contents l.writer) l.rest l.bytes;
  sound : g.W.Outlet.failed l.initial.writer ≡ false → g.W.Outlet.failed l.writer ≡ false;
}

abbrev pub decreases-loop-rest : goal.decreases-loop-rest
decreases-loop-rest g l = length l.rest
