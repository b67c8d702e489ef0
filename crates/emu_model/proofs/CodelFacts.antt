-- The laws of CoDel's dropping state.
use Rattle.std.proofs.Common.{◌≡◌, ℕ, ◌+◌, ◌-◌, ◌*◌, ◌^◌, ◌≤◌, ◌<◌, List, [], ◌∷◌, Bool, true, false, refl, length, sym, subst, arith}
use Rattle.std.specs.Prelude.{if◌then◌else◌, not, ◌&&◌, nat_lt, min, All}
use Rattle.std.proofs.lemmas.Bool.{lt-ltb, ltb-true, ltb-false}
use Rattle.std.proofs.lemmas.List.Elements.{All-nil, All-cons}
use Rattle.emu_model.specs.Types.{Packet}
use Rattle.emu_model.specs.DropTail.{Queued}
use Rattle.emu_model.specs.Codel.{Times, CodelState, Dequeued, count_up, initial_count, control_law}
use Rattle.emu_model.proofs.CodelParts.{ok_to_drop, look, look_empty, drop_on, first_dropped, set_next, drop_head, give_head, give_none, stop_dropping, dequeue_by_parts, by_parts}
use Rattle.emu_model.specs.CodelLaws.{drop_moment, drop_moments, DropsAreOnTime, DroppingBeginsWithOne, ReentryGoesOn}

-- a dequeue that drops what is due of the moments from one on
abbrev OnTime : Times → ℕ → ℕ → ℕ → Dequeued Packet → Type 0
OnTime times now moment count d =
    All (λ m. m ≤ now) (drop_moments times.interval moment count (length d.dropped))
    × (d.control.count ≡ count + length d.dropped)
    × (d.control.dropping ≡ true →
    (d.control.drop_next ≡ drop_moment times.interval moment count (length d.dropped))
    × (now < d.control.drop_next))

given-on-time : (times : Times) (now : ℕ) (c : CodelState) (w : Queued Packet) (rest : List (Queued Packet)) →
    now < c.drop_next → OnTime times now c.drop_next c.count (give_head c w rest)
given-on-time times now c w rest h = (All-nil (λ m. m ≤ now), omega arith, λ e. (refl, h))

-- one that stops drops nothing more
stopped-on-time : (times : Times) (now moment count : ℕ) (c : CodelState) (w : Queued Packet) (rest : List (Queued Packet)) →
    c.count ≡ count → OnTime times now moment count (give_head (stop_dropping c) w rest)
stopped-on-time times now moment count c w rest e =
    (All-nil (λ m. m ≤ now), omega (arith, e), λ g. absurd (cc g))

emptied-on-time : (times : Times) (now moment count : ℕ) (c : CodelState) →
    c.count ≡ count → OnTime times now moment count (give_none (stop_dropping c))
emptied-on-time times now moment count c e =
    (All-nil (λ m. m ≤ now), omega (arith, e), λ g. absurd (cc g))

dropped-on-time : (times : Times) (now moment count : ℕ) (w : Queued Packet) (d : Dequeued Packet) →
    moment ≤ now → OnTime times now (control_law times.interval moment (count + 1)) (count + 1) d →
    OnTime times now moment count (drop_head w d)
dropped-on-time times now moment count w d h t =
    (All-cons (λ m. m ≤ now) moment _ h t.0, omega (arith, t.1), t.2)

-- the state at the next head, once one more was dropped
abbrev next : Times → ℕ → CodelState → Queued Packet → List (Queued Packet) → CodelState
next times now c v rest =
    let counted = look times now (count_up c) v rest in set_next times counted.drop_next counted

on-time : (times : Times) (now : ℕ) (rest : List (Queued Packet)) (c : CodelState) (w : Queued Packet) →
    c.count + length (w ∷ rest) < 2 ^ 32 →
    OnTime times now c.drop_next c.count (drop_on times now c w rest)
on-time times now [] c w room = go (nat_lt now c.drop_next) refl
  where
    go : (b : Bool) → nat_lt now c.drop_next ≡ b →
        OnTime times now c.drop_next c.count
        (if b then give_head c w [] else drop_head w (give_none (stop_dropping (look_empty (count_up c)))))
    go true e = given-on-time times now c w [] (ltb-true _ _ e)
    go false e =
        dropped-on-time times now c.drop_next c.count w
        (give_none (stop_dropping (look_empty (count_up c)))) (ltb-false _ _ e)
        (emptied-on-time times now _ (c.count + 1) (look_empty (count_up c)) (omega (arith, room)))
on-time times now (v ∷ rest) c w room =
    let up : min (c.count + 1) (2 ^ 32 - 1) ≡ c.count + 1 = omega (arith, room) in
    go up (nat_lt now c.drop_next) (ok_to_drop times now c v rest) refl
    (subst (λ k. OnTime times now (control_law times.interval c.drop_next k) k
    (drop_on times now (next times now c v rest) v rest)) up
    (on-time times now rest (next times now c v rest) v (omega (arith, room))))
  where
    go : min (c.count + 1) (2 ^ 32 - 1) ≡ c.count + 1 → (b d : Bool) → nat_lt now c.drop_next ≡ b →
        OnTime times now (control_law times.interval c.drop_next (c.count + 1)) (c.count + 1)
        (drop_on times now (next times now c v rest) v rest) →
        OnTime times now c.drop_next c.count
        (if b then give_head c w (v ∷ rest)
        else (if d then drop_head w (drop_on times now (next times now c v rest) v rest)
        else drop_head w (give_head (stop_dropping (look times now (count_up c) v rest)) v rest)))
    go up true d e ih = given-on-time times now c w (v ∷ rest) (ltb-true _ _ e)
    go up false true e ih = dropped-on-time times now c.drop_next c.count w
        (drop_on times now (next times now c v rest) v rest) (ltb-false _ _ e) ih
    go up false false e ih =
        dropped-on-time times now c.drop_next c.count w
        (give_head (stop_dropping (look times now (count_up c) v rest)) v rest) (ltb-false _ _ e)
        (stopped-on-time times now _ (c.count + 1) (look times now (count_up c) v rest) v rest up)

parts-on-time : (times : Times) (now : ℕ) (c : CodelState) (ws : List (Queued Packet)) →
    c.dropping ≡ true → c.count + length ws < 2 ^ 32 →
    OnTime times now c.drop_next c.count (dequeue_by_parts times now c ws)
parts-on-time times now c [] b room = emptied-on-time times now _ _ (look_empty c) refl
parts-on-time times now c (w ∷ rest) b room = go (ok_to_drop times now c w rest) c.dropping b
  where
    go : (d e : Bool) → e ≡ true → OnTime times now c.drop_next c.count
        (if not d then give_head (stop_dropping (look times now c w rest)) w rest
        else (if e then drop_on times now (look times now c w rest) w rest
        else first_dropped times now (look times now c w rest) w rest))
    go false e h = stopped-on-time times now _ _ (look times now c w rest) w rest refl
    go true true h = on-time times now rest (look times now c w rest) w room
    go true false h = absurd (cc h)

pub drops_are_on_time : DropsAreOnTime
drops_are_on_time times now c ws b room =
    subst (λ d. OnTime times now c.drop_next c.count d) (sym (by_parts times now c ws)) (parts-on-time times now c ws b room)

-- a dequeue that drops nothing, or one packet as dropping begins
abbrev Begins : Times → ℕ → Dequeued Packet → Type 0
Begins times now d =
    (length d.dropped ≤ 1)
    × (length d.dropped ≡ 1 → (d.control.dropping ≡ true) × (d.control.last_count ≡ d.control.count)
    × (d.control.drop_next ≡ control_law times.interval now d.control.count))

first-begins : (times : Times) (now : ℕ) (c : CodelState) (w : Queued Packet) (rest : List (Queued Packet)) →
    Begins times now (first_dropped times now c w rest)
first-begins times now c w [] = (omega arith, λ h. (refl, refl, refl))
first-begins times now c w (v ∷ rest) = (omega arith, λ h. (refl, refl, refl))

parts-begin : (times : Times) (now : ℕ) (c : CodelState) (ws : List (Queued Packet)) → c.dropping ≡ false →
    Begins times now (dequeue_by_parts times now c ws)
parts-begin times now c [] b = (omega arith, λ h. absurd (omega (arith, h)))
parts-begin times now c (w ∷ rest) b = rw b (go (ok_to_drop times now c w rest))
  where
    go : (d : Bool) → Begins times now
        (if not d then give_head (stop_dropping (look times now c w rest)) w rest
        else first_dropped times now (look times now c w rest) w rest)
    go false = (omega arith, λ h. absurd (omega (arith, h)))
    go true = first-begins times now (look times now c w rest) w rest

pub dropping_begins_with_one : DroppingBeginsWithOne
dropping_begins_with_one times now c ws b =
    subst (λ d. Begins times now d) (sym (by_parts times now c ws)) (parts-begin times now c ws b)

-- the count with which dropping begins, soon after the last and later
abbrev Reenters : Times → ℕ → CodelState → ℕ → Type 0
Reenters times now c count =
    (now - c.drop_next < 16 * times.interval → 2 + c.last_count ≤ c.count →
    count ≡ c.count - c.last_count)
    × (16 * times.interval ≤ now - c.drop_next → count ≡ 1)

opened : (times : Times) (now : ℕ) (c : CodelState) → Reenters times now c (initial_count times now c)
opened times now c = (
  λ soon more. rw (lt-ltb 1 (c.count - c.last_count) (omega (arith, more)))
      (rw (lt-ltb (now - c.drop_next) (16 * times.interval) soon) refl),
  λ late. go late (nat_lt 1 (c.count - c.last_count)) (nat_lt (now - c.drop_next) (16 * times.interval)) refl,
)
  where
    go : 16 * times.interval ≤ now - c.drop_next → (a b : Bool) →
        nat_lt (now - c.drop_next) (16 * times.interval) ≡ b →
        (if a && b then c.count - c.last_count else 1) ≡ 1
    go late a true e = absurd (omega (arith, late, ltb-true _ _ e))
    go late true false e = refl
    go late false false e = refl

first-reenters : (times : Times) (now : ℕ) (c : CodelState) (w : Queued Packet) (rest : List (Queued Packet)) →
    Reenters times now c (first_dropped times now c w rest).control.count
first-reenters times now c w [] = opened times now (look_empty c)
first-reenters times now c w (v ∷ rest) = opened times now (look times now c v rest)

-- a dequeue that drops nothing, or re-enters
abbrev ReentersIn : Times → ℕ → CodelState → Dequeued Packet → Type 0
ReentersIn times now c d = length d.dropped ≡ 1 → Reenters times now c d.control.count

parts-reenter : (times : Times) (now : ℕ) (c : CodelState) (ws : List (Queued Packet)) → c.dropping ≡ false →
    ReentersIn times now c (dequeue_by_parts times now c ws)
parts-reenter times now c [] b = λ h. absurd (omega (arith, h))
parts-reenter times now c (w ∷ rest) b = rw b (go (ok_to_drop times now c w rest))
  where
    go : (d : Bool) → ReentersIn times now c
        (if not d then give_head (stop_dropping (look times now c w rest)) w rest
        else first_dropped times now (look times now c w rest) w rest)
    go false h = absurd (omega (arith, h))
    go true h = first-reenters times now (look times now c w rest) w rest

pub reentry_goes_on : ReentryGoesOn
reentry_goes_on times now c ws b =
    subst (λ d. ReentersIn times now c d) (sym (by_parts times now c ws)) (parts-reenter times now c ws b)
