-- A head that CoDel doesn't drop yet is given as it is.
use Rattle.std.proofs.Common.{◌≡◌, ℕ, ◌+◌, ◌∙◌, ap, sym, refl, Bool, true, false, List, [], ◌∷◌, arith}
use Rattle.std.specs.Prelude.{nat_lt, nat_le, not, ◌==◌, if◌then◌else◌}
use Rattle.std.proofs.lemmas.Bool.Decides.{nat_tests}
use Rattle.emu_model.specs.DropTail.{Queued}
use Rattle.emu_model.specs.Codel.{Times, CodelState, Dequeued, codel_dequeue}
use Rattle.emu_model.proofs.CodelParts.{Found, found_by, found_of, is_short, stop_dropping, give_head, drop_on, first_dropped, by_parts}
use Rattle.queue_disc.specs.Queues.{drops_later, given}

-- while dropping, before the moment of the next drop
drop_on-waits : {A : Type 0} (times : Times) (now : ℕ) (c : CodelState) (w : Queued A) (rest : List (Queued A)) →
    nat_lt now c.drop_next ≡ true → drop_on times now c w rest ≡ give_head c w rest
drop_on-waits times now c w [] e = rw e
drop_on-waits times now c w (v ∷ rest) e = rw e

-- what is found of a head whose stay was long before
found_of-long : {A : Type 0} (times : Times) (now : ℕ) (c : CodelState) (w : Queued A) (rest : List (Queued A)) →
    is_short times now w rest ≡ false → c.first_above_time == 0 ≡ false →
    found_of times now c w rest
    ≡ record { ok_to_drop = nat_le c.first_above_time now; first_above_time = c.first_above_time }
found_of-long times now c w rest long before =
    ap (λ b. found_by times now c.first_above_time b) long
    ∙ ap (λ b. if b then record { ok_to_drop = false; first_above_time = now + times.interval }
    else record { ok_to_drop = nat_le c.first_above_time now; first_above_time = c.first_above_time }) before

-- the head is given, and the state is as after it
pub later_gives : {A : Type 0} (times : Times) (now : ℕ) (c : CodelState) (w : Queued A) (rest : List (Queued A)) →
    is_short times now w rest ≡ false → drops_later c now ≡ true →
    codel_dequeue times now c (w ∷ rest) ≡ give_head (given false now c) w rest
later_gives {A = A} times now c w rest long later =
    by_parts times now c (w ∷ rest) ∙ ap ends (found_of-long times now c w rest long before)
    ∙ by (nat_lt now c.first_above_time) refl
  where
    before : c.first_above_time == 0 ≡ false
    before = grind (arith, nat_tests, later)

    ends : Found → Dequeued A
    ends f =
        let seen = record c { first_above_time = f.first_above_time } in
        if not f.ok_to_drop then give_head (stop_dropping seen) w rest
        else (if c.dropping then drop_on times now seen w rest else first_dropped times now seen w rest)

    by : (l : Bool) → nat_lt now c.first_above_time ≡ l →
        ends (record { ok_to_drop = nat_le c.first_above_time now; first_above_time = c.first_above_time })
        ≡ give_head (given false now c) w rest
    by true e =
        let early : nat_le c.first_above_time now ≡ false = grind (arith, nat_tests, e) in
        ap (λ b. ends (record { ok_to_drop = b; first_above_time = c.first_above_time })) early
        ∙ sym (ap (λ b. give_head (if b then stop_dropping c else c) w rest) e)
    by false e =
        let late : nat_le c.first_above_time now ≡ true = grind (arith, nat_tests, e) in
        let on : c.dropping ≡ true = grind (arith, nat_tests, e, later) in
        let waits : nat_lt now c.drop_next ≡ true = grind (arith, nat_tests, e, later) in
        ap (λ b. ends (record { ok_to_drop = b; first_above_time = c.first_above_time })) late
        ∙ ap (λ b. if b then drop_on times now c w rest else first_dropped times now c w rest) on
        ∙ drop_on-waits times now c w rest waits
        ∙ sym (ap (λ b. give_head (if b then stop_dropping c else c) w rest) e)
