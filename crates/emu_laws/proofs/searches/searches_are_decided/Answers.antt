use Rattle.emu_laws.proofs.SearchesDecided as law
use Rattle.emu_laws.proofs.searches.searches_are_decided.Goals as goal

pub returns : goal.returns
returns c = law.searches_are_decided
