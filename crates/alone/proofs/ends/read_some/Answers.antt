use Rattle.std.proofs.Common.{[], take}
use Rattle.std.proofs.KnownBytes.{Keeps-refl, Keeps-trans}
use Rattle.alone.proofs.ends.read_some.Goals as goal

pub loop-count-init : goal.loop-count-init
loop-count-init g c = record { keeps = Keeps-refl (g.R.Inlet.remaining c.args.reader.now); gives = g.met.R.Inlet.gives_none c.args.reader.now }

pub returns-in-Ok-clause-gives : goal.returns-in-Ok-clause-gives
returns-in-Ok-clause-gives g c =
    g.met.R.Inlet.gives_both c.args.reader.now c.loop-count.reader c.read.new.self [] (take c.in-Ok.count c.read.new.room) c.loop-count.invariant.gives c.in-Ok.ensures.gives

pub returns-in-Err-Failed-clause-gives : goal.returns-in-Err-Failed-clause-gives
returns-in-Err-Failed-clause-gives g c =
    g.met.R.Inlet.gives_both c.args.reader.now c.loop-count.reader c.read.new.self [] [] c.loop-count.invariant.gives c.in-Err-Failed.ensures.gives

pub loop-count-preserved : goal.loop-count-preserved
loop-count-preserved g c = record {
  keeps = Keeps-trans (g.R.Inlet.remaining c.args.reader.now) (g.R.Inlet.remaining c.loop-count.reader) (g.R.Inlet.remaining c.read.new.self) c.loop-count.invariant.keeps c.in-Err-Interrupted.ensures.bytes;
  gives = g.met.R.Inlet.gives_both c.args.reader.now c.loop-count.reader c.read.new.self [] [] c.loop-count.invariant.gives c.in-Err-Interrupted.ensures.gives;
}
