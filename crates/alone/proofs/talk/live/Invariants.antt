use Rattle.std.proofs.Common.{◌≡◌, false, length}
use Rattle.alone.proofs.Hearing.{HasRead}
use Rattle.alone.proofs.talk.live.Given as goal

abbrev pub invariant-loop-reads : goal.invariant-loop-reads
invariant-loop-reads g l = record {
  room : length l.chunk ≡ 65536;
  sound : g.W.Outlet.failed l.initial.writer ≡ false → g.W.Outlet.failed l.writer ≡ false;
  read : HasRead g.R.Inlet.gives (g.H.Hints.may_say l.hints) l.fn.steps l.initial.reader l.reader (g.R.Inlet.remaining l.initial.reader) (g.R.Inlet.remaining l.reader)
      (g.W.Outlet.contents l.initial.writer) (g.W.Outlet.contents l.writer) l.talk l.reads;
}
