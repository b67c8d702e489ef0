-- The first byte that a receiver misses (RFC 5681, section 4.2), whichever segments arrive.
use Rattle.std.specs.Prelude.{◌≡◌, ℕ, ◌*◌, ◌<◌, ◌==◌, true, false, List, [], ◌∷◌}
use Rattle.std.specs.List.{list_any}
use Rattle.emu_model.specs.Reno.{with_segment, missing}

-- the receiver's set after these segments have arrived, the latest of which is first in the list
abbrev pub received : List ℕ → List ℕ
received [] = []
received (first ∷ before) = with_segment first (received before)

abbrev pub MissingIsLeast : Type 0
MissingIsLeast = (smss : ℕ) (firsts : List ℕ) → 0 < smss →
    let came = received firsts in
    (list_any (λ x. x == missing smss came) came ≡ false)
    × ((k : ℕ) → k * smss < missing smss came → list_any (λ x. x == k * smss) came ≡ true)
