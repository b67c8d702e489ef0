use Rattle.emu_laws.proofs.Untraced as law
use Rattle.emu_laws.proofs.tracing.tracing_only_adds.Goals as goal

pub returns : goal.returns
returns c = law.tracing_only_adds
