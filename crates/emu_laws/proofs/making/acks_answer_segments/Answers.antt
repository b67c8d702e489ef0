use Rattle.emu_laws.proofs.AcksAnswer as law
use Rattle.emu_laws.proofs.making.acks_answer_segments.Goals as goal

pub returns : goal.returns
returns c = law.acks_answer_segments
