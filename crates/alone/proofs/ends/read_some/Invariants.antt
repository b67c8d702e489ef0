use Rattle.std.specs.Prelude.{[]}
use Rattle.std.specs.Io.KnownBytes.{Keeps}
use Rattle.alone.proofs.ends.read_some.Given as goal

abbrev pub invariant-loop-count : goal.invariant-loop-count
invariant-loop-count g l = record {
  keeps : Keeps (g.R.Inlet.remaining l.initial.reader) (g.R.Inlet.remaining l.reader);
  gives : g.R.Inlet.gives l.initial.reader [] l.reader;
}

abbrev pub decreases-loop-count : goal.decreases-loop-count
decreases-loop-count g l = g.R.Inlet.patience l.reader
