use Rattle.std.proofs.Common.{◌≡◌, ◌-◌, ◌<◌, ◌≤◌, false}
use Rattle.std.specs.Prelude.{vec_len}
use Rattle.std.specs.Io.KnownBytes.{Consumes}
use Rattle.alone.proofs.input.read_text.Given as goal

abbrev pub invariant-loop-chunk : goal.invariant-loop-chunk
invariant-loop-chunk g l = record {
  first : Consumes (g.R.Inlet.remaining l.initial.reader) (g.R.Inlet.remaining l.reader) l.text.items;
  gives : g.R.Inlet.gives l.initial.reader l.text.items l.reader;
  few : vec_len l.text ≤ 16777217;
  fine : 0 < vec_len l.text → g.R.Inlet.failed l.reader ≡ false;
}

abbrev pub decreases-loop-chunk : goal.decreases-loop-chunk
decreases-loop-chunk g l = 16777217 - vec_len l.text
