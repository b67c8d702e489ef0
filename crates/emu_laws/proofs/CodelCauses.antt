-- Why CoDel drops.
use Rattle.std.proofs.Common.{◌≡◌, ℕ, ◌+◌, ◌-◌, ◌<◌, ◌≤◌, List, [], ◌∷◌, length, Bool, true, false, refl, sym, ◌∙◌, subst, Some, inl, inr, arith}
use Rattle.std.specs.Prelude.{if◌then◌else◌, not, ◌⊎◌, ◌==◌, nat_lt, nat_le}
use Rattle.std.proofs.lemmas.Bool.{ltb-false, leb-true, leb-false, eqb-false, or_parts}
use Rattle.emu_laws.proofs.Types.{Packet}
use Rattle.emu_model.specs.DropTail.{Queued, bytes_of}
use Rattle.emu_model.specs.Codel.{Times, CodelState, Dequeued, maxpacket, count_up, enter_drop_state, codel_dequeue}
use Rattle.emu_model.proofs.CodelParts.{Found, is_short, found_by, ok_to_drop, look, look_empty, stop_dropping, set_next, give_head, give_none, drop_head, drop_on, first_dropped, dequeue_by_parts, by_parts}
use Rattle.emu_laws.proofs.EachOf.{either, of_choice}
use Rattle.emu_laws.specs.CodelCauses.{MayBeDropped, EachMayBe, CodelDropsByControl, Taking, control_after, GivesLate, LateSince, IsLateForInterval, DropsAfterInterval}

-- a head that may be dropped
record IsLong (times : Times) (now above : ℕ) (w : Queued Packet) (rest : List (Queued Packet)) (seen : ℕ) : Type 0 where
  late : times.target ≤ now - w.stamp
  more_waits : maxpacket < bytes_of rest
  went_above : 0 < above
  stayed_above : above ≤ now
  same : seen ≡ above

clash : true ≡ false → ⊥
clash e = cc e

long : (times : Times) (now : ℕ) (c : CodelState) (w : Queued Packet) (rest : List (Queued Packet)) →
    ok_to_drop times now c w rest ≡ true →
    IsLong times now c.first_above_time w rest (look times now c w rest).first_above_time
long times now c w rest e = go (is_short times now w rest) refl e
  where
    above : ℕ
    above = c.first_above_time

    found : Bool → Found
    found d = if d then record { ok_to_drop = false; first_above_time = now + times.interval }
        else record { ok_to_drop = nat_le c.first_above_time now; first_above_time = c.first_above_time }

    deeper : is_short times now w rest ≡ false → (d : Bool) → (c.first_above_time == 0) ≡ d →
        (found d).ok_to_drop ≡ true → IsLong times now c.first_above_time w rest (found d).first_above_time
    deeper short true unset g = absurd (clash (sym g))
    deeper short false unset g =
        let parts = or_parts _ _ short in
        let some : c.first_above_time ≡ 0 → ⊥ = eqb-false c.first_above_time 0 unset in
        record {
          late = ltb-false (now - w.stamp) times.target parts.0;
          more_waits = leb-false (bytes_of rest) maxpacket parts.1;
          went_above = omega (arith, some);
          stayed_above = leb-true c.first_above_time now g;
          same = refl;
        }

    go : (b : Bool) → is_short times now w rest ≡ b → (found_by times now c.first_above_time b).ok_to_drop ≡ true →
        IsLong times now c.first_above_time w rest (found_by times now c.first_above_time b).first_above_time
    go true short g = absurd (clash (sym g))
    go false short g = deeper short (c.first_above_time == 0) refl g

module _ (times : Times) (now : ℕ) (c : CodelState) where
  -- each that is dropped may be
  abbrev May : List (Queued Packet) → Dequeued Packet → Type 0
  May ws d = EachMayBe times now c d.dropped ws

  may : (w : Queued Packet) (rest : List (Queued Packet)) (above seen : ℕ) → above ≡ c.first_above_time →
      IsLong times now above w rest seen → (c.dropping ≡ true → c.drop_next ≤ now) → MayBeDropped times now c w rest
  may w rest above seen e h due = record {
    late = h.late;
    more_waits = h.more_waits;
    went_above = omega (arith, e, h.went_above);
    stayed_above = omega (arith, e, h.stayed_above);
    due = due;
  }

  on-may : (rest : List (Queued Packet)) (d : CodelState) (w : Queued Packet) (seen : ℕ) →
      d.first_above_time ≡ c.first_above_time → IsLong times now d.first_above_time w rest seen →
      (d.drop_next ≤ now → c.dropping ≡ true → c.drop_next ≤ now) → May (w ∷ rest) (drop_on times now d w rest)
  on-may [] d w seen e h due = go (nat_lt now d.drop_next) refl
    where
      go : (b : Bool) → nat_lt now d.drop_next ≡ b → May (w ∷ [])
          (if b then give_head d w [] else drop_head w (give_none (stop_dropping (look_empty (count_up d)))))
      go true g = tt
      go false g = (refl, may w [] d.first_above_time seen e h (due (ltb-false now d.drop_next g)), tt)
  on-may (v ∷ rest) d w seen e h due =
      go (nat_lt now d.drop_next) (ok_to_drop times now d v rest) refl
      (λ past ok.
      let found : IsLong times now d.first_above_time v rest counted.first_above_time =
      long times now (count_up d) v rest ok in
      on-may rest (set_next times counted.drop_next counted) v counted.first_above_time (found.same ∙ e)
      (subst (λ a. IsLong times now a v rest counted.first_above_time) (sym found.same) found)
      (λ later. due past))
    where
      counted : CodelState
      counted = look times now (count_up d) v rest

      go : (b ok : Bool) → nat_lt now d.drop_next ≡ b →
          (d.drop_next ≤ now → ok ≡ true → May (v ∷ rest) (drop_on times now (set_next times counted.drop_next counted) v rest)) →
          May (w ∷ v ∷ rest)
          (if b then give_head d w (v ∷ rest)
          else (if ok then drop_head w (drop_on times now (set_next times counted.drop_next counted) v rest)
          else drop_head w (give_head (stop_dropping counted) v rest)))
      go true ok g later = tt
      go false ok g later =
          let past : d.drop_next ≤ now = ltb-false now d.drop_next g in
          both ok (refl, may w (v ∷ rest) d.first_above_time seen e h (due past), tt)
          (λ o. (refl, may w (v ∷ rest) d.first_above_time seen e h (due past), later past o))
        where
          both : (ok : Bool) → May (w ∷ v ∷ rest) (drop_head w (give_head (stop_dropping counted) v rest)) →
              (ok ≡ true → May (w ∷ v ∷ rest) (drop_head w (drop_on times now (set_next times counted.drop_next counted) v rest))) →
              May (w ∷ v ∷ rest)
              (if ok then drop_head w (drop_on times now (set_next times counted.drop_next counted) v rest)
              else drop_head w (give_head (stop_dropping counted) v rest))
          both true p q = q refl
          both false p q = p

  first-may : (w : Queued Packet) (rest : List (Queued Packet)) (d : CodelState) → MayBeDropped times now c w rest →
      May (w ∷ rest) (first_dropped times now d w rest)
  first-may w [] d h = (refl, h, tt)
  first-may w (v ∷ rest) d h = (refl, h, tt)

  parts-may : (ws : List (Queued Packet)) → May ws (dequeue_by_parts times now c ws)
  parts-may [] = tt
  parts-may (w ∷ rest) = go (ok_to_drop times now c w rest) c.dropping refl refl
    where
      seen : CodelState
      seen = look times now c w rest

      go : (ok d : Bool) → ok_to_drop times now c w rest ≡ ok → c.dropping ≡ d → May (w ∷ rest)
          (if not ok then give_head (stop_dropping seen) w rest
          else (if d then drop_on times now seen w rest else first_dropped times now seen w rest))
      go false d o g = tt
      go true true o g =
          let found : IsLong times now c.first_above_time w rest seen.first_above_time = long times now c w rest o in
          on-may rest seen w seen.first_above_time found.same
          (subst (λ a. IsLong times now a w rest seen.first_above_time) (sym found.same) found) (λ past h. past)
      go true false o g =
          first-may w rest seen
          (may w rest c.first_above_time seen.first_above_time refl (long times now c w rest o)
          (λ h. absurd (clash (sym h ∙ g))))

pub codel_drops_by_control : CodelDropsByControl
codel_drops_by_control times now c ws =
    subst (λ d. EachMayBe times now c d.dropped ws) (sym (by_parts times now c ws)) (parts-may times now c ws)

-- the moment that is set once the head was looked at: none, or it is late and the moment is new or stays
abbrev Looked : Times → ℕ → ℕ → Queued Packet → ℕ → Type 0
Looked times now above w seen =
    (seen ≡ 0) ⊎ ((times.target ≤ now - w.stamp) × ((seen ≡ now + times.interval) ⊎ (seen ≡ above)))

looked : (times : Times) (now : ℕ) (c : CodelState) (w : Queued Packet) (rest : List (Queued Packet)) →
    Looked times now c.first_above_time w (look times now c w rest).first_above_time
looked times now c w rest = go (is_short times now w rest) refl
  where
    found : Bool → Found
    found d = if d then record { ok_to_drop = false; first_above_time = now + times.interval }
        else record { ok_to_drop = nat_le c.first_above_time now; first_above_time = c.first_above_time }

    deeper : times.target ≤ now - w.stamp → (d : Bool) →
        Looked times now c.first_above_time w (found d).first_above_time
    deeper late true = inr (late, inl refl)
    deeper late false = inr (late, inr refl)

    go : (b : Bool) → is_short times now w rest ≡ b →
        Looked times now c.first_above_time w (found_by times now c.first_above_time b).first_above_time
    go true short = inl refl
    go false short =
        deeper (ltb-false (now - w.stamp) times.target (or_parts _ _ short).0) (c.first_above_time == 0)

-- a dequeue gives a late packet, the moment being new or as before
record GivesAbove (times : Times) (now above : ℕ) (d : Dequeued Packet) : Type 0 where
  packet : Queued Packet
  given : d.given ≡ Some packet
  late : times.target ≤ now - packet.stamp
  moment : (d.control.first_above_time ≡ now + times.interval) ⊎ (d.control.first_above_time ≡ above)

abbrev Gives : Times → ℕ → ℕ → Dequeued Packet → Type 0
Gives times now above d = (d.control.first_above_time ≡ 0) ⊎ GivesAbove times now above d

-- the head is given, once it was looked at
gives-head : (times : Times) (now above : ℕ) (c : CodelState) (w : Queued Packet) (rest : List (Queued Packet)) →
    Looked times now above w c.first_above_time → Gives times now above (give_head c w rest)
gives-head times now above c w rest (inl e) = inl e
gives-head times now above c w rest (inr h) = inr (record { packet = w; given = refl; late = h.0; moment = h.1 })

-- what was dropped before changes nothing of it
gives-on : (times : Times) (now above : ℕ) (w : Queued Packet) (d : Dequeued Packet) → Gives times now above d →
    Gives times now above (drop_head w d)
gives-on times now above w d (inl e) = inl e
gives-on times now above w d (inr h) =
    inr (record { packet = h.packet; given = h.given; late = h.late; moment = h.moment })

on-gives : (times : Times) (now above : ℕ) (rest : List (Queued Packet)) (d : CodelState) (w : Queued Packet) →
    d.first_above_time ≡ above → Looked times now above w d.first_above_time →
    Gives times now above (drop_on times now d w rest)
on-gives times now above [] d w e h =
    either (Gives times now above) (nat_lt now d.drop_next) (give_head d w [])
    (drop_head w (give_none (stop_dropping (look_empty (count_up d))))) (gives-head times now above d w [] h) (inl refl)
on-gives times now above (v ∷ rest) d w e h =
    either (Gives times now above) (nat_lt now d.drop_next) (give_head d w (v ∷ rest))
    (if ok_to_drop times now d v rest then drop_head w later else drop_head w (give_head (stop_dropping counted) v rest))
    (gives-head times now above d w (v ∷ rest) h)
    (of_choice (Gives times now above) (ok_to_drop times now d v rest) (drop_head w later)
    (drop_head w (give_head (stop_dropping counted) v rest))
    (λ ok.
    let same : counted.first_above_time ≡ d.first_above_time = (long times now (count_up d) v rest ok).same in
    gives-on times now above w later
    (on-gives times now above rest (set_next times counted.drop_next counted) v (same ∙ e) seen))
    (λ ok. gives-on times now above w (give_head (stop_dropping counted) v rest)
    (gives-head times now above (stop_dropping counted) v rest seen)))
  where
    counted : CodelState
    counted = look times now (count_up d) v rest

    later : Dequeued Packet
    later = drop_on times now (set_next times counted.drop_next counted) v rest

    seen : Looked times now above v counted.first_above_time
    seen = subst (λ a. Looked times now a v counted.first_above_time) e (looked times now (count_up d) v rest)

first-gives : (times : Times) (now : ℕ) (rest : List (Queued Packet)) (d : CodelState) (w : Queued Packet) →
    Gives times now d.first_above_time (first_dropped times now d w rest)
first-gives times now [] d w = inl refl
first-gives times now (v ∷ rest) d w =
    let seen : CodelState = look times now d v rest in
    gives-on times now d.first_above_time w (give_head (enter_drop_state times now seen) v rest)
    (gives-head times now d.first_above_time (enter_drop_state times now seen) v rest (looked times now d v rest))

parts-give : (times : Times) (now : ℕ) (c : CodelState) (ws : List (Queued Packet)) →
    Gives times now c.first_above_time (dequeue_by_parts times now c ws)
parts-give times now c [] = inl refl
parts-give times now c (w ∷ rest) =
    of_choice (Gives times now c.first_above_time) (not (ok_to_drop times now c w rest))
    (give_head (stop_dropping seen) w rest)
    (if c.dropping then drop_on times now seen w rest else first_dropped times now seen w rest)
    (λ e. gives-head times now c.first_above_time (stop_dropping seen) w rest (looked times now c w rest))
    (λ e.
    let same : seen.first_above_time ≡ c.first_above_time =
    (long times now c w rest (not-false (ok_to_drop times now c w rest) e)).same in
    either (Gives times now c.first_above_time) c.dropping (drop_on times now seen w rest)
    (first_dropped times now seen w rest)
    (on-gives times now c.first_above_time rest seen w same (looked times now c w rest))
    (subst (λ a. Gives times now a (first_dropped times now seen w rest)) same (first-gives times now rest seen w)))
  where
    seen : CodelState
    seen = look times now c w rest

    not-false : (b : Bool) → not b ≡ false → b ≡ true
    not-false true e = refl
    not-false false e = absurd (clash e)

gives : (times : Times) (now : ℕ) (c : CodelState) (ws : List (Queued Packet)) →
    Gives times now c.first_above_time (codel_dequeue times now c ws)
gives times now c ws =
    subst (Gives times now c.first_above_time) (sym (by_parts times now c ws)) (parts-give times now c ws)

-- the moment is an interval behind the dequeue since which each gave a late packet
record IsSetSince (times : Times) (above : ℕ) (xs : List Taking) : Type 0 where
  start : ℕ
  set : above ≡ start + times.interval
  since : LateSince times start xs

set-since : (times : Times) (xs : List Taking) → let above = (control_after times xs).first_above_time in
    (above ≡ 0) ⊎ IsSetSince times above xs
set-since times [] = inl refl
set-since times (x ∷ earlier) = go (gives times x.moment c x.waiting) (set-since times earlier)
  where
    c : CodelState
    c = control_after times earlier

    seen : ℕ
    seen = (codel_dequeue times x.moment c x.waiting).control.first_above_time

    late : GivesAbove times x.moment c.first_above_time (codel_dequeue times x.moment c x.waiting) → GivesLate times c x
    late h = record { packet = h.packet; given = h.given; late = h.late }

    on : (h : GivesAbove times x.moment c.first_above_time (codel_dequeue times x.moment c x.waiting)) →
        (seen ≡ x.moment + times.interval) ⊎ (seen ≡ c.first_above_time) →
        (c.first_above_time ≡ 0) ⊎ IsSetSince times c.first_above_time earlier →
        (seen ≡ 0) ⊎ IsSetSince times seen (x ∷ earlier)
    on h (inl e) before = inr (record { start = x.moment; set = e; since = (late h, inl refl) })
    on h (inr e) (inl none) = inl (e ∙ none)
    on h (inr e) (inr s) = inr (record { start = s.start; set = e ∙ s.set; since = (late h, inr s.since) })

    go : Gives times x.moment c.first_above_time (codel_dequeue times x.moment c x.waiting) →
        (c.first_above_time ≡ 0) ⊎ IsSetSince times c.first_above_time earlier →
        (seen ≡ 0) ⊎ IsSetSince times seen (x ∷ earlier)
    go (inl e) before = inl e
    go (inr h) before = on h h.moment before

-- where something is dropped, the moment is set, and has come
is-above : (times : Times) (now : ℕ) (c : CodelState) (ds ws : List (Queued Packet)) →
    EachMayBe times now c ds ws → 0 < length ds → (0 < c.first_above_time) × (c.first_above_time ≤ now)
is-above times now c [] ws h few = absurd (omega (arith, few))
is-above times now c (d ∷ ds) [] h few = absurd h
is-above times now c (d ∷ ds) (w ∷ ws) h few = (h.1.went_above, h.1.stayed_above)

pub drops_after_interval : DropsAfterInterval
drops_after_interval times now xs ws some =
    go (set-since times xs)
    (is-above times now (control_after times xs) (codel_dequeue times now (control_after times xs) ws).dropped ws
    (codel_drops_by_control times now (control_after times xs) ws) some)
  where
    above : ℕ
    above = (control_after times xs).first_above_time

    go : (above ≡ 0) ⊎ IsSetSince times above xs → (0 < above) × (above ≤ now) → IsLateForInterval times now xs
    go (inl e) h = absurd (omega (arith, e, h.0))
    go (inr s) h = record { start = s.start; interval = omega (arith, s.set, h.1); since = s.since }
