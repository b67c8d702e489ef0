-- A dequeue by parts: its head apart from what is behind it, as code and proofs go along the list. `by_parts` says
-- that they are the definition's.
use Rattle.std.proofs.Common.{◌≡◌, ℕ, zero, suc, ◌+◌, ◌-◌, ◌<◌, refl, ap, ◌∙◌, Bool, true, false, Some, None, List, [], ◌∷◌, length, arith}
use Rattle.std.specs.Prelude.{◌||◌, not, ◌==◌, nat_lt, nat_le, if◌then◌else◌}
use Rattle.emu_model.specs.DropTail.{Queued, bytes_of}
use Rattle.emu_model.specs.Codel.{Times, CodelState, DodequeueResult, Dequeued, maxpacket, with_above, answer, dodequeue, give, after_drop, count_up, leave_drop_state, schedule_next, while_dropping, enter_drop_state, drop_first, codel_dequeue, control_law}

-- the head's stay is short, or what is left behind it is no more than one greatest packet
abbrev pub is_short : {A : Type 0} → Times → ℕ → Queued A → List (Queued A) → Bool
is_short times now w rest = nat_lt (now - w.stamp) times.target || nat_le (bytes_of rest) maxpacket

-- whether the head may be dropped, and the moment at which the stay has been long for an interval
pub record Found : Type 0 where
  pub ok_to_drop : Bool
  pub first_above_time : ℕ

-- of a head whose stay is short, or isn't
abbrev pub found_by : Times → ℕ → ℕ → Bool → Found
found_by times now above true = record { ok_to_drop = false; first_above_time = 0 }
found_by times now above false =
    if above == 0 then record { ok_to_drop = false; first_above_time = now + times.interval }
    else record { ok_to_drop = nat_le above now; first_above_time = above }

abbrev pub found_of : {A : Type 0} → Times → ℕ → CodelState → Queued A → List (Queued A) → Found
found_of times now c w rest = found_by times now c.first_above_time (is_short times now w rest)

abbrev pub ok_to_drop : {A : Type 0} → Times → ℕ → CodelState → Queued A → List (Queued A) → Bool
ok_to_drop times now c w rest = (found_of times now c w rest).ok_to_drop

-- the state once the head was looked at, and once the queue was found empty
abbrev pub look : {A : Type 0} → Times → ℕ → CodelState → Queued A → List (Queued A) → CodelState
look times now c w rest = record c { first_above_time = (found_of times now c w rest).first_above_time }

abbrev pub look_empty : CodelState → CodelState
look_empty c = record c { first_above_time = 0 }

abbrev pub stop_dropping : CodelState → CodelState
stop_dropping c = record c { dropping = false }

abbrev pub give_head : {A : Type 0} → CodelState → Queued A → List (Queued A) → Dequeued A
give_head c w rest = record { dropped = []; given = Some w; rest = rest; control = c }

abbrev pub give_none : {A : Type 0} → CodelState → Dequeued A
give_none c = record { dropped = []; given = None; rest = []; control = c }

abbrev pub drop_head : {A : Type 0} → Queued A → Dequeued A → Dequeued A
drop_head w d = record d { dropped = w ∷ d.dropped }

abbrev pub set_next : Times → ℕ → CodelState → CodelState
set_next times from c = record c { drop_next = control_law times.interval from c.count }

-- a head that may be dropped, while dropping: it goes once `drop_next` has come, and so on
abbrev pub drop_on : {A : Type 0} → Times → ℕ → CodelState → Queued A → List (Queued A) → Dequeued A
drop_on times now c w [] =
    if nat_lt now c.drop_next then give_head c w []
    else drop_head w (give_none (stop_dropping (look_empty (count_up c))))
drop_on times now c w (v ∷ rest) =
    let counted = look times now (count_up c) v rest in
    let later = drop_on times now (set_next times counted.drop_next counted) v rest in
    if nat_lt now c.drop_next then give_head c w (v ∷ rest)
    else (if ok_to_drop times now c v rest then drop_head w later
    else drop_head w (give_head (stop_dropping counted) v rest))

-- a head that may be dropped, as dropping begins: it goes, and the next is given
abbrev pub first_dropped : {A : Type 0} → Times → ℕ → CodelState → Queued A → List (Queued A) → Dequeued A
first_dropped times now c w [] = drop_head w (give_none (enter_drop_state times now (look_empty c)))
first_dropped times now c w (v ∷ rest) =
    drop_head w (give_head (enter_drop_state times now (look times now c v rest)) v rest)

abbrev pub dequeue_by_parts : {A : Type 0} → Times → ℕ → CodelState → List (Queued A) → Dequeued A
dequeue_by_parts times now c [] = give_none (stop_dropping (look_empty c))
dequeue_by_parts times now c (w ∷ rest) =
    let seen = look times now c w rest in
    if not (ok_to_drop times now c w rest) then give_head (stop_dropping seen) w rest
    else (if c.dropping then drop_on times now seen w rest else first_dropped times now seen w rest)

-- the head in hand
abbrev in_hand : {A : Type 0} → Bool → CodelState → Queued A → List (Queued A) → DodequeueResult A
in_hand ok c w rest = record { p = Some w; ok_to_drop = ok; rest = rest; control = c }

dodequeue-parts : {A : Type 0} (times : Times) (now : ℕ) (c : CodelState) (w : Queued A) (rest : List (Queued A)) →
    dodequeue times now c (w ∷ rest) ≡ in_hand (ok_to_drop times now c w rest) (look times now c w rest) w rest
dodequeue-parts {A = A} times now c w rest = go (is_short times now w rest)
  where
    deeper : (d : Bool) →
        (if d then answer w rest false (with_above (now + times.interval) c)
        else answer w rest (nat_le c.first_above_time now) c)
        ≡ (let found : Found = (if d then record { ok_to_drop = false; first_above_time = now + times.interval }
        else record { ok_to_drop = nat_le c.first_above_time now; first_above_time = c.first_above_time }) in
        in_hand found.ok_to_drop (record c { first_above_time = found.first_above_time }) w rest)
    deeper true = refl
    deeper false = refl

    go : (b : Bool) →
        (if b then answer w rest false (with_above 0 c)
        else (if c.first_above_time == 0 then answer w rest false (with_above (now + times.interval) c)
        else answer w rest (nat_le c.first_above_time now) c))
        ≡ in_hand (found_by times now c.first_above_time b).ok_to_drop
        (record c { first_above_time = (found_by times now c.first_above_time b).first_above_time }) w rest
    go true = refl
    go false = deeper (c.first_above_time == 0)

-- one that has left the dropping state is given at once
left-gives : {A : Type 0} (n : ℕ) (times : Times) (now : ℕ) (r : DodequeueResult A) →
    while_dropping n times now (leave_drop_state r) ≡ give (leave_drop_state r)
left-gives zero times now r = refl
left-gives (suc n) times now r = refl

-- while dropping, where the rounds are enough
while-parts : {A : Type 0} (n : ℕ) (times : Times) (now : ℕ) (rest : List (Queued A)) (ok : Bool) (c : CodelState) (w : Queued A) →
    c.dropping ≡ true → length rest < n →
    while_dropping n times now (in_hand ok c w rest) ≡ drop_on times now c w rest
while-parts zero times now rest ok c w on few = absurd (omega (arith, few))
while-parts {A = A} (suc n) times now [] ok c w on few =
    ap (λ b. if not b || nat_lt now c.drop_next then give (in_hand ok c w [])
    else drop_head w (while_dropping n times now (leave_drop_state next))) on
    ∙ ap (λ d. if nat_lt now c.drop_next then give_head c w [] else drop_head w d) (left-gives n times now next)
  where
    next : DodequeueResult A
    next = dodequeue times now (count_up c) []
while-parts {A = A} (suc n) times now (v ∷ rest) ok c w on few =
    ap (λ b. if not b || nat_lt now c.drop_next then give (in_hand ok c w (v ∷ rest))
    else drop_head w (on_with (dodequeue times now (count_up c) (v ∷ rest)))) on
    ∙ ap (λ r. if nat_lt now c.drop_next then give_head c w (v ∷ rest) else drop_head w (on_with r))
    (dodequeue-parts times now (count_up c) v rest)
    ∙ by (ok_to_drop times now c v rest)
    (while-parts n times now rest true (set_next times (look times now (count_up c) v rest).drop_next (look times now (count_up c) v rest)) v on (omega (arith, few)))
  where
    counted : CodelState
    counted = look times now (count_up c) v rest

    on_with : DodequeueResult A → Dequeued A
    on_with r = while_dropping n times now (if r.ok_to_drop then schedule_next times r else leave_drop_state r)

    by : (b : Bool) →
        while_dropping n times now (in_hand true (set_next times counted.drop_next counted) v rest)
        ≡ drop_on times now (set_next times counted.drop_next counted) v rest →
        (if nat_lt now c.drop_next then give_head c w (v ∷ rest) else drop_head w (on_with (in_hand b counted v rest)))
        ≡ (if nat_lt now c.drop_next then give_head c w (v ∷ rest)
        else (if b then drop_head w (drop_on times now (set_next times counted.drop_next counted) v rest)
        else drop_head w (give_head (stop_dropping counted) v rest)))
    by true later = ap (λ d. if nat_lt now c.drop_next then give_head c w (v ∷ rest) else drop_head w d) later
    by false later =
        ap (λ d. if nat_lt now c.drop_next then give_head c w (v ∷ rest) else drop_head w d)
        (left-gives n times now (in_hand false counted v rest))

first-parts : {A : Type 0} (times : Times) (now : ℕ) (ok : Bool) (c : CodelState) (w : Queued A) (rest : List (Queued A)) →
    drop_first times now (in_hand ok c w rest) ≡ first_dropped times now c w rest
first-parts times now ok c w [] = refl
first-parts times now ok c w (v ∷ rest) =
    ap (λ r. after_drop (Some w) (give (record r { control = enter_drop_state times now r.control })))
    (dodequeue-parts times now c v rest)

pub by_parts : {A : Type 0} (times : Times) (now : ℕ) (c : CodelState) (ws : List (Queued A)) →
    codel_dequeue times now c ws ≡ dequeue_by_parts times now c ws
by_parts times now c [] = refl
by_parts {A = A} times now c (w ∷ rest) =
    ap (λ r. ends r) (dodequeue-parts times now c w rest) ∙ by (ok_to_drop times now c w rest) c.dropping refl
  where
    seen : CodelState
    seen = look times now c w rest

    ends : DodequeueResult A → Dequeued A
    ends r = if not r.ok_to_drop then give (leave_drop_state r)
        else (if c.dropping then while_dropping (suc (length rest)) times now r else drop_first times now r)

    by : (b d : Bool) → c.dropping ≡ d →
        (if not b then give (leave_drop_state (in_hand b seen w rest))
        else (if d then while_dropping (suc (length rest)) times now (in_hand b seen w rest) else drop_first times now (in_hand b seen w rest)))
        ≡ (if not b then give_head (stop_dropping seen) w rest
        else (if d then drop_on times now seen w rest else first_dropped times now seen w rest))
    by false d e = refl
    by true true e = while-parts (suc (length rest)) times now rest true seen w e (omega arith)
    by true false e = first-parts times now true seen w rest
