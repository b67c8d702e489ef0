-- Laws of CoDel's dropping state (RFC 8289, section 5), over the definitions alone.
use Rattle.std.specs.Prelude.{◌≡◌, ℕ, zero, suc, ◌+◌, ◌-◌, ◌*◌, ◌^◌, ◌<◌, ◌≤◌, true, false, List, [], ◌∷◌, length, All}
use Rattle.emu_model.specs.Types.{Packet}
use Rattle.emu_model.specs.DropTail.{Queued}
use Rattle.emu_model.specs.Codel.{Times, CodelState, control_law, codel_dequeue}

-- the time of the nth drop after a drop at `moment`, before which the count was `count`
abbrev pub drop_moment : ℕ → ℕ → ℕ → ℕ → ℕ
drop_moment interval moment count zero = moment
drop_moment interval moment count (suc n) =
    drop_moment interval (control_law interval moment (count + 1)) (count + 1) n

-- the times of the first n drops, starting with the drop at `moment`
abbrev pub drop_moments : ℕ → ℕ → ℕ → ℕ → List ℕ
drop_moments interval moment count zero = []
drop_moments interval moment count (suc n) =
    moment ∷ drop_moments interval (control_law interval moment (count + 1)) (count + 1) n

-- in the dropping state a dequeue drops only what is due by the control law, and counts each drop; if dropping continues, the next drop
-- is the law's and is still to come (the count saturates at 2 ^ 32 - 1, our choice, which a premise excludes)
abbrev pub DropsAreOnTime : Type 0
DropsAreOnTime = (times : Times) (now : ℕ) (c : CodelState) (ws : List (Queued Packet)) →
    c.dropping ≡ true → c.count + length ws < 2 ^ 32 →
    let d = codel_dequeue times now c ws in
    let n = length d.dropped in
    All (λ moment. moment ≤ now) (drop_moments times.interval c.drop_next c.count n)
    × (d.control.count ≡ c.count + n)
    × (d.control.dropping ≡ true →
    (d.control.drop_next ≡ drop_moment times.interval c.drop_next c.count n)
    × (now < d.control.drop_next))

-- outside the dropping state at most one packet is dropped; if one is, dropping begins, and the next drop is set by the
-- control law from now, with the count with which dropping begins
abbrev pub DroppingBeginsWithOne : Type 0
DroppingBeginsWithOne = (times : Times) (now : ℕ) (c : CodelState) (ws : List (Queued Packet)) →
    c.dropping ≡ false →
    let d = codel_dequeue times now c ws in
    (length d.dropped ≤ 1)
    × (length d.dropped ≡ 1 → (d.control.dropping ≡ true) × (d.control.last_count ≡ d.control.count)
    × (d.control.drop_next ≡ control_law times.interval now d.control.count))

-- dropping that begins again less than 16 intervals after the last `drop_next` continues at the rate that was reached, if the
-- count had risen by at least 2; later than that it begins with count 1
abbrev pub ReentryGoesOn : Type 0
ReentryGoesOn = (times : Times) (now : ℕ) (c : CodelState) (ws : List (Queued Packet)) →
    c.dropping ≡ false →
    let d = codel_dequeue times now c ws in
    length d.dropped ≡ 1 →
    (now - c.drop_next < 16 * times.interval → 2 + c.last_count ≤ c.count →
    d.control.count ≡ c.count - c.last_count)
    × (16 * times.interval ≤ now - c.drop_next → d.control.count ≡ 1)
