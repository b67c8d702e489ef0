use Rattle.std.proofs.Common.{refl}
use Rattle.emu_model.specs.Codel.{control_step}
use Rattle.emu_laws.proofs.single_states.dropping_ends_in_time.Goals as goal

pub returns : goal.returns
unfolding control_step
returns c = record { of_30 = refl; of_40 = refl; next_drop = refl; end_of_40 = refl }
