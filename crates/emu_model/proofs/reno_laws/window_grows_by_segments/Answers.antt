use Rattle.emu_model.proofs.RenoFacts as law
use Rattle.emu_model.proofs.reno_laws.window_grows_by_segments.Goals as goal

pub returns : goal.returns
returns c = law.window_grows_by_segments
