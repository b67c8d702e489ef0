use Rattle.emu_laws.proofs.RecordsBounded as law
use Rattle.emu_laws.proofs.work.records_are_bounded.Goals as goal

pub returns : goal.returns
returns c = law.records_are_bounded
