-- The plan of a dequeue by CoDel: the number of drops, and the state after it. The given state has already examined the
-- head, so the given list begins with the item after it.
use Rattle.std.specs.Prelude.{ℕ, ◌+◌, List, [], ◌∷◌, length, nat_lt, if◌then◌else◌}
use Rattle.emu_model.specs.DropTail.{Queued}
use Rattle.emu_model.specs.Codel.{Times, CodelState, Dequeued, count_up, enter_drop_state}
use Rattle.emu_model.proofs.CodelParts.{ok_to_drop, look, look_empty, stop_dropping, set_next}
use Rattle.queue_disc.specs.declared.plan.DropPlan.{DropPlan}

abbrev pub plan : ℕ → CodelState → DropPlan
plan n c = record { drops = n; control = c }

abbrev pub plan_of : {A : Type 0} → Dequeued A → DropPlan
plan_of d = plan (length d.dropped) d.control

-- the plan when dropping begins
abbrev pub drops_first : {A : Type 0} → Times → ℕ → CodelState → List (Queued A) → DropPlan
drops_first times now c [] = plan 1 (enter_drop_state times now (look_empty c))
drops_first times now c (v ∷ rest) = plan 1 (enter_drop_state times now (look times now c v rest))

-- a plan after n earlier drops
abbrev pub after : ℕ → DropPlan → DropPlan
after n v = plan (n + v.drops) v.control

-- the plan while dropping
abbrev pub drops_on : {A : Type 0} → Times → ℕ → CodelState → List (Queued A) → DropPlan
drops_on times now c [] =
    if nat_lt now c.drop_next then plan 0 c
    else plan 1 (stop_dropping (look_empty (count_up c)))
drops_on times now c (v ∷ rest) =
    let counted = look times now (count_up c) v rest in
    let later = drops_on times now (set_next times counted.drop_next counted) rest in
    if nat_lt now c.drop_next then plan 0 c
    else (if ok_to_drop times now c v rest then after 1 later
    else plan 1 (stop_dropping counted))
