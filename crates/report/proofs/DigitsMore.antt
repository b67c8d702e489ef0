-- One more digit.
use Rattle.std.proofs.Common.{◌≡◌, ℕ, ◌/◌, ◌%◌, suc, ◌∷◌, [], ◌++◌, refl}
use Rattle.std.specs.Prelude.{codes, slice_index}
use Rattle.report.specs.Words.{places}

pub places-suc :
    (base count k n : ℕ)
    → count ≡ suc k
    → places base count n
    ≡ places base k (n / base) ++ slice_index (codes "0123456789abcdef") (n % base) ∷ []
unfolding places
places-suc base count k n e = rw e refl
