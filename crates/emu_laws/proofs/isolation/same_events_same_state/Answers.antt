use Rattle.emu_laws.proofs.AloneOf as law
use Rattle.emu_laws.proofs.isolation.same_events_same_state.Goals as goal

pub returns : goal.returns
returns c = law.same_events_same_state
