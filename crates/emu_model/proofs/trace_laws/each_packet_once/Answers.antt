use Rattle.emu_model.proofs.OneByOne as law
use Rattle.emu_model.proofs.trace_laws.each_packet_once.Goals as goal

pub returns : goal.returns
returns c = law.each_packet_once
