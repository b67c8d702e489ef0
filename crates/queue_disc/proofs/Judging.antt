-- The judge goes along what waits, and says what the definition's recursion drops.
use Rattle.std.proofs.Common.{◌≡◌, ℕ, ◌+◌, ◌-◌, ◌<◌, ◌∙◌, ap, sym, refl, Bool, true, false, List, [], ◌∷◌, length, drop, arith}
use Rattle.std.specs.Prelude.{nat_lt, nat_le, not, ◌||◌, if◌then◌else◌}
use Rattle.emu_model.specs.DropTail.{Queued, bytes_of}
use Rattle.emu_model.specs.Codel.{Times, CodelState, Dequeued, count_up, codel_dequeue}
use Rattle.emu_model.proofs.CodelParts.{Found, found_by, found_of, is_short, ok_to_drop, look, look_empty, stop_dropping, set_next, give_head, give_none, drop_head, drop_on, first_dropped, dequeue_by_parts, by_parts}
use Rattle.queue_disc.specs.declared.plan.DropPlan.{DropPlan}
use Rattle.queue_disc.specs.Judged.{plan, plan_of, after, drops_on}

-- so many were judged to go, and these bytes are behind the next
pub record IsJudged {A : Type 0} (times : Times) (now : ℕ) (seen : CodelState) (ws : List (Queued A)) (drops left : ℕ) (control : CodelState) : Type 0 where
  pub inside : drops < length ws
  pub behind : left ≡ bytes_of (drop (drops + 1) ws)
  pub so_far : drops_on times now seen (drop 1 ws)
      ≡ after drops (drops_on times now control (drop (drops + 1) ws))

after_drop-is : {A : Type 0} (w : Queued A) (d : Dequeued A) →
    plan_of (drop_head w d) ≡ after 1 (plan_of d)
after_drop-is w d =
    let more : length (w ∷ d.dropped) ≡ 1 + length d.dropped = omega arith in
    ap (λ n. plan n d.control) more

-- the judge's rule is the definition's, whatever the head
drops_on-is : {A : Type 0} (times : Times) (now : ℕ) (c : CodelState) (w : Queued A) (rest : List (Queued A)) →
    plan_of (drop_on times now c w rest) ≡ drops_on times now c rest
drops_on-is {A = A} times now c w [] = by (nat_lt now c.drop_next)
  where
    by : (b : Bool) →
        plan_of (if b then give_head c w [] else drop_head w (give_none (stop_dropping (look_empty (count_up c)))))
        ≡ (if b then plan 0 c else plan 1 (stop_dropping (look_empty (count_up c))))
    by true = refl
    by false = refl
drops_on-is {A = A} times now c w (v ∷ rest) =
    by (nat_lt now c.drop_next) (ok_to_drop times now c v rest) _ _
    (drops_on-is times now (set_next times counted.drop_next counted) v rest)
  where
    counted : CodelState
    counted = look times now (count_up c) v rest

    by : (b d : Bool) (later : Dequeued A) (judged : DropPlan) → plan_of later ≡ judged →
        plan_of (if b then give_head c w (v ∷ rest)
        else (if d then drop_head w later else drop_head w (give_head (stop_dropping counted) v rest)))
        ≡ (if b then plan 0 c else (if d then after 1 judged else plan 1 (stop_dropping counted)))
    by true d later judged e = refl
    by false true later judged e = after_drop-is w later ∙ ap (λ t. after 1 t) e
    by false false later judged e = refl

-- a head that may be dropped, while dropping
parts-dropping : {A : Type 0} (times : Times) (now : ℕ) (c : CodelState) (w : Queued A) (rest : List (Queued A)) →
    ok_to_drop times now c w rest ≡ true → c.dropping ≡ true →
    plan_of (dequeue_by_parts times now c (w ∷ rest)) ≡ drops_on times now (look times now c w rest) rest
parts-dropping {A = A} times now c w rest may on =
    by (ok_to_drop times now c w rest) c.dropping may on
  where
    seen : CodelState
    seen = look times now c w rest

    by : (b d : Bool) → b ≡ true → d ≡ true →
        plan_of (if not b then give_head (stop_dropping seen) w rest
        else (if d then drop_on times now seen w rest else first_dropped times now seen w rest))
        ≡ drops_on times now seen rest
    by true true e f = drops_on-is times now seen w rest
    by true false e f = absurd (cc)
    by false d e f = absurd (cc)

-- one step of the judge: the moment hasn't come
drops_on-not_due : {A : Type 0} (times : Times) (now : ℕ) (c : CodelState) (ws : List (Queued A)) →
    nat_lt now c.drop_next ≡ true → drops_on times now c ws ≡ plan 0 c
drops_on-not_due times now c [] e = rw e
drops_on-not_due times now c (v ∷ rest) e = rw e

-- the judge's end
pub drops_on-all : {A : Type 0} (times : Times) (now : ℕ) (seen c : CodelState) (ws : List (Queued A)) (drops left : ℕ) →
    IsJudged times now seen ws drops left c → nat_lt now c.drop_next ≡ true →
    plan drops c ≡ drops_on times now seen (drop 1 ws)
drops_on-all times now seen c ws drops left h e =
    let none : drops + 0 ≡ drops = omega arith in
    sym (h.so_far ∙ ap (λ v. after drops v) (drops_on-not_due times now c _ e) ∙ ap (λ n. plan n c) none)

-- the judge's beginning
pub judged_dropping : {A : Type 0} (times : Times) (now : ℕ) (c : CodelState) (head : Queued A) (ws rest : List (Queued A)) (left : ℕ) (short : Bool) (found : Found) (seen : CodelState) →
    ws ≡ head ∷ rest → left ≡ bytes_of rest →
    short ≡ (nat_lt (now - head.stamp) times.target || nat_le left 1500) →
    found ≡ found_by times now c.first_above_time short → seen ≡ record c { first_above_time = found.first_above_time } →
    found.ok_to_drop ≡ true → c.dropping ≡ true →
    drops_on times now seen rest ≡ plan_of (codel_dequeue times now c ws)
judged_dropping times now c head ws rest left short found seen e l s looked f may on =
    let stay : short ≡ is_short times now head rest =
    s ∙ ap (λ n. nat_lt (now - head.stamp) times.target || nat_le n 1500) l in
    let is : found ≡ found_of times now c head rest =
    looked ∙ ap (λ b. found_by times now c.first_above_time b) stay in
    rw (e, f, is)
    (sym (ap plan_of (by_parts times now c (head ∷ rest))
    ∙ parts-dropping times now c head rest (sym (ap (λ (x : Found). x.ok_to_drop) is) ∙ may) on))

-- a test that failed
pub not_true : (b : Bool) → false ≡ not b → b ≡ true
not_true true e = refl
not_true false e = absurd (cc)
