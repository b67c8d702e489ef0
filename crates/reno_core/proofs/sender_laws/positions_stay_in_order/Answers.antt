use Rattle.reno_core.proofs.Histories as law
use Rattle.reno_core.proofs.sender_laws.positions_stay_in_order.Goals as goal

pub returns : goal.returns
returns c = law.positions_stay_in_order
