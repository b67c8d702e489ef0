use Rattle.std.proofs.Common.{◌≡◌, false, length}
use Rattle.alone.proofs.Hearing.{IsTaken}
use Rattle.alone.proofs.talk.Talk.take.Given as goal

abbrev pub invariant-loop-line : goal.invariant-loop-line
invariant-loop-line g l = record {
  taken : IsTaken (g.H.Hints.may_say l.hints) (g.W.Outlet.contents l.initial.writer) (g.W.Outlet.contents l.writer) l.initial.self l.self l.bytes l.rest;
  sound : g.W.Outlet.failed l.initial.writer ≡ false → g.W.Outlet.failed l.writer ≡ false;
}

abbrev pub decreases-loop-line : goal.decreases-loop-line
decreases-loop-line g l = length l.rest
