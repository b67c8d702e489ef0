use Rattle.std.proofs.Common.{◌∙◌}
use Rattle.experiment.proofs.CallerLemmas.{drops-both, summed}
use Rattle.experiment.proofs.counts.sum_of.Goals as goal

pub returns : goal.returns
returns c = λ rs qs a b. (λ i. summed (a i) (b i)) ∙ drops-both rs qs
