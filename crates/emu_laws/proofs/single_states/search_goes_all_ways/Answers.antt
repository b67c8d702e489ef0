use Rattle.std.proofs.Common.{refl}
use Rattle.emu_laws.specs.SearchEnds.{ends, passes, counts, skips}
use Rattle.emu_laws.proofs.single_states.search_goes_all_ways.Goals as goal

pub returns : goal.returns
returns c = counts refl refl refl (skips refl refl refl (passes refl refl (ends refl refl refl)))
