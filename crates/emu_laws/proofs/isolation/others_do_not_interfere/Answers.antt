use Rattle.emu_laws.proofs.StandingAfter as law
use Rattle.emu_laws.proofs.isolation.others_do_not_interfere.Goals as goal

pub returns : goal.returns
returns c = law.others_do_not_interfere
