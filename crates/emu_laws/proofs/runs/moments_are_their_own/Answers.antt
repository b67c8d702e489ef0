use Rattle.emu_laws.proofs.ExitsDue as law
use Rattle.emu_laws.proofs.runs.moments_are_their_own.Goals as goal

pub returns : goal.returns
returns c = law.moments_are_their_own c.dues_differ.ensures
