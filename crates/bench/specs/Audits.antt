-- Where each name is, over all closings.
use Rattle.std.specs.Prelude.{◌≡◌, ◌+◌, ◌≤◌, ◌<◌, ℕ, List}
use Rattle.std.specs.List.{sum_by}
use Rattle.bench.specs.Custody.{times}
use Rattle.bench.specs.declared.closing.Closing.{Closing}

-- the number of times that a name is in one kind of list, over all closings
abbrev pub stands : (Closing → List ℕ) → ℕ → List Closing → ℕ
stands list x closings = sum_by (λ (c : Closing). times x (list c)) closings

-- admitted as often as handed out, ended, resident or in a deque; the last three add up to at most 1
abbrev pub Accounted : List Closing → ℕ → Type 0
Accounted closings x =
    let a = stands (λ c. c.admitted.items) x closings in
    let h = stands (λ c. c.handed_out.items) x closings in
    let e = stands (λ c. c.ended.items) x closings in
    let r = stands (λ c. c.resident.items) x closings in
    let d = stands (λ c. c.deque.items) x closings in
    (a ≡ h + e + r + d) × (e + r + d ≤ 1)

-- the smallest name that is not accounted for
abbrev pub IsLeast : List Closing → ℕ → Type 0
IsLeast closings x = (¬ Accounted closings x) × ((y : ℕ) → y < x → Accounted closings y)

-- the name is in no list
abbrev pub NowhereAt : ℕ → List Closing → Type 0
NowhereAt x closings =
    (stands (λ c. c.admitted.items) x closings ≡ 0) × (stands (λ c. c.handed_out.items) x closings ≡ 0)
    × (stands (λ c. c.ended.items) x closings ≡ 0) × (stands (λ c. c.resident.items) x closings ≡ 0)
    × (stands (λ c. c.deque.items) x closings ≡ 0)

abbrev pub NowhereIn : ℕ → Closing → Type 0
NowhereIn x c =
    (times x c.admitted.items ≡ 0) × (times x c.handed_out.items ≡ 0) × (times x c.ended.items ≡ 0)
    × (times x c.resident.items ≡ 0) × (times x c.deque.items ≡ 0)
