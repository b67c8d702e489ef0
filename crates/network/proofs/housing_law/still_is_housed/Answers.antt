use Rattle.network.proofs.Steps.{still-housed}
use Rattle.network.proofs.housing_law.still_is_housed.Goals as goal

pub returns : goal.returns
returns c = still-housed
