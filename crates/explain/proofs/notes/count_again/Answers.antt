use Rattle.std.proofs.Common.{arith}
use Rattle.std.proofs.lemmas.Option.{slice_get-get_or}
use Rattle.explain.proofs.notes.count_again.Goals as goal

pub returns : goal.returns
returns c = grind (arith, slice_get-get_or)
