use Rattle.emu_laws.proofs.AcksCounted as law
use Rattle.emu_laws.proofs.making.acks_match_segments.Goals as goal

pub returns : goal.returns
returns c = law.acks_match_segments
