-- A deque holds what was pushed and not taken, and each parcel that came to a bench is there or has left it.
use Rattle.std.specs.Prelude.{◌≡◌, ◌+◌, ◌==◌, ◌<◌, ◌≤◌, ℕ, List, [], map, cond, Option, Some, None, slice_index_or}
use Rattle.std.specs.List.{sum_by}
use Rattle.shard.specs.Stand.{Stand, Seat}
use Rattle.bench.specs.declared.mail.RingMail.{RingMail}
use Rattle.bench.specs.declared.hand.Stamp.{Stamp}
use Rattle.bench.specs.declared.hand.Hand.{Hand}

-- the part of an experiment that does not change while it moves
abbrev pub stamp : Stand RingMail → Stamp
stamp p = record { name = p.name; spec = p.spec; consumed = p.consumed; events = p.state.steps }

abbrev pub stamps : List (Stand RingMail) → List Stamp
stamps parcels = map stamp parcels

abbrev pub hand : List Stamp → List Stamp → Hand
hand pushed taken = record { pushed = pushed; taken = taken }

-- whatever the weight of each stamp, the pushed ones weigh as much as those taken and those held; only the owner, at
-- place 0, has pushed
abbrev pub Balanced : List (Stand RingMail) → List Hand → Type 0
Balanced items views =
    ((h : Stamp → ℕ) → sum_by (λ (v : Hand). sum_by h v.pushed) views ≡ sum_by (λ (v : Hand). sum_by h v.taken) views + sum_by h (stamps items))
    × ((k : ℕ) → 0 < k → (slice_index_or views k (hand [] [])).pushed ≡ [])

-- whatever the weight of each stamp, those taken weigh no more than those pushed
abbrev pub TookLess : Hand → Type 0
TookLess v = (h : Stamp → ℕ) → sum_by h v.taken ≤ sum_by h v.pushed

-- the number of times that x is in the list
abbrev pub times : ℕ → List ℕ → ℕ
times x xs = sum_by (λ y. cond (y == x) 1 0) xs

-- the number of stamps with the name x
abbrev pub named : ℕ → List Stamp → ℕ
named x ss = sum_by (λ (s : Stamp). cond (s.name == x) 1 0) ss

abbrev pub seat_named : ℕ → Option (Seat RingMail) → ℕ
seat_named x None = 0
seat_named x (Some s) = cond (s.stand.name == x) 1 0

-- the number of residents with the name x
abbrev pub seated : ℕ → List (Option (Seat RingMail)) → ℕ
seated x seats = sum_by (seat_named x) seats

-- the list has the name of each resident, as often as residents have it
abbrev pub AreResidents : List ℕ → List (Option (Seat RingMail)) → Type 0
AreResidents names seats = (x : ℕ) → times x names ≡ seated x seats

-- each name that came in, or that the owner's pass took, has ended, is resident, was handed out or was pushed, as
-- often as it came
abbrev pub Kept : List ℕ → List ℕ → List ℕ → List ℕ → List ℕ → Hand → Type 0
Kept admitted adopted ended resident handed_out v =
    (x : ℕ) → (times x admitted + times x adopted) + named x v.taken ≡ ((times x ended + times x resident) + times x handed_out) + named x v.pushed
