use Rattle.emu_laws.proofs.MissingFacts as law
use Rattle.emu_laws.proofs.single_states.missing_is_least.Goals as goal

pub returns : goal.returns
returns c = law.missing_is_least
