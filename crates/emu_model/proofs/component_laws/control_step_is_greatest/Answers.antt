use Rattle.emu_model.proofs.ControlRoot as law
use Rattle.emu_model.proofs.component_laws.control_step_is_greatest.Goals as goal

pub returns : goal.returns
returns c = law.control_step_is
