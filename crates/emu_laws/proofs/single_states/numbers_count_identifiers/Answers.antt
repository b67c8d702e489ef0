use Rattle.emu_laws.proofs.InstanceNumbering as law
use Rattle.emu_laws.proofs.single_states.numbers_count_identifiers.Goals as goal

pub returns : goal.returns
returns c = law.numbers_count_identifiers
