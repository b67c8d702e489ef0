use Rattle.std.proofs.Common.{refl, lit<}
use Rattle.emu_laws.proofs.single_states.bounds_are_met.Goals as goal

pub returns : goal.returns
returns c = record {
  held_is_budget = refl;
  step_tells_most = refl;
  step_makes_most = refl;
  flight_is_window = refl;
  window_is_filled = refl;
  rate_is_full = refl;
  wait_is_longest = refl;
  delay_is_least = refl;
  drop_is_soonest = refl;
  window_is_too_small = (lit< tt, tt);
}
