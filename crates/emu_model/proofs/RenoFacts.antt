-- The laws of a Reno sender.
use Rattle.std.proofs.Common.{◌≡◌, ℕ, zero, suc, ◌+◌, ◌-◌, ◌*◌, ◌/◌, ◌%◌, ◌≤◌, ◌<◌, [], ◌∷◌, Bool, true, false, refl, ◌∙◌, ap, Some, None, length, arith}
use Rattle.std.specs.Prelude.{if◌then◌else◌, ◌&&◌, ◌==◌, nat_lt, min, max}
use Rattle.std.proofs.Math.Nat.{add-mod_right, div-le_of_le-mul}
use Rattle.std.proofs.lemmas.Nat.{mul-le}
use Rattle.std.proofs.lemmas.Bool.{le-leb, lt-ltb, ltb-true}
use Rattle.emu_model.specs.Types.{FlowSpec}
use Rattle.emu_model.specs.Reno.{Sender, greatest_word, is_new, ack, ack_new, emit, started_timer, bounded}
use Rattle.emu_model.specs.RenoLaws.{NewDataClears, NewDataSetsTimer, ExpiryClears, ExpiryBacksOff, SecondExpiryHolds, EmissionKeepsTimer, WindowGrowsBySegments, acks_in_turn, IsUnderWay, SlowStartGrows, ThirdDuplicateResends}

-- what an acknowledgement of new data leaves
ack-new : (f : FlowSpec) (now a : ℕ) (s : Sender) → is_new f a s ≡ true →
    ack f now a s ≡ ack_new f now a s
ack-new f now a s h = rw h refl

pub new_data_clears : NewDataClears
new_data_clears f now a s h = rw h ((refl, refl, refl), refl, refl)

pub new_data_sets_timer : NewDataSetsTimer
new_data_sets_timer f now a s h = rw h (λ g. rw (lt-ltb _ _ g) refl, λ g. rw (timer-off a s.snd_max g) refl)
  where
    timer-off : (a b : ℕ) → a ≡ b → nat_lt a b ≡ false
    timer-off a b g = grind arith

pub expiry_clears : ExpiryClears
expiry_clears f now s = ((refl, refl, refl), refl, refl, refl, refl, refl)

pub second_expiry_holds : SecondExpiryHolds
second_expiry_holds f now later s = refl

pub expiry_backs_off : ExpiryBacksOff
expiry_backs_off f now s h = (refl, omega (arith, h), omega arith)

pub emission_keeps_timer : EmissionKeepsTimer
emission_keeps_timer f now s = (λ moment e. kept s.resend moment e, λ e. begun s.resend e)
  where
    kept : (b : Bool) (moment : ℕ) → s.timer ≡ Some moment →
        (if b then record s { resend = false; timer = started_timer now s }
        else record (emit f now (record s { resend = false })) { resend = b }).timer ≡ Some moment
    kept true moment e = rw e refl
    kept false moment e = rw e refl

    begun : (b : Bool) → s.timer ≡ None →
        (if b then record s { resend = false; timer = started_timer now s }
        else record (emit f now (record s { resend = false })) { resend = b }).timer ≡ Some (now + s.rto)
    begun true e = rw e refl
    begun false e = rw e refl

-- the window after n new bytes, outside recovery, with a segment of m
grown : (w n m : ℕ) (b : Bool) → 1 ≤ n → 1 ≤ m → m ≤ w →
    (min (w + 1) greatest_word ≤ (if b then bounded (w + min n m) else bounded (w + max 1 (m * m / w))))
    × ((if b then bounded (w + min n m) else bounded (w + max 1 (m * m / w))) ≤ w + m)
grown w n m true some one least = (omega (arith, some, one), omega arith)
grown w n m false some one least =
    let q : m * m / w ≤ m = div-le_of_le-mul w (mul-le m m w m least (omega arith)) in
    (omega arith, omega (arith, q, one))

new-above : (u a : ℕ) (x y : Bool) → (nat_lt u a && x && y) ≡ true → u < a
new-above u a x y h = go (nat_lt u a) refl h
  where
    go : (b : Bool) → nat_lt u a ≡ b → (b && x && y) ≡ true → u < a
    go true e g = ltb-true _ _ e
    go false e g = absurd (cc g)

pub window_grows_by_segments : WindowGrowsBySegments
window_grows_by_segments f now a s h calm some least =
    let n : s.snd_una < a = new-above s.snd_una a _ _ h in
    rw h (rw calm (grown s.cwnd (a - s.snd_una) f.smss (nat_lt s.cwnd s.ssthresh) (omega (arith, n)) some least))

-- one segment more is new data
one-more : (f : FlowSpec) (n : ℕ) (s : Sender) → 1 ≤ f.smss → IsUnderWay f (suc n) s →
    is_new f (s.snd_una + f.smss) s ≡ true
one-more f n s some u =
    let m : (s.snd_una + f.smss) % f.smss ≡ 0 = add-mod_right s.snd_una f.smss ∙ u.whole in
    rw (lt-ltb s.snd_una (s.snd_una + f.smss) (omega (arith, some)))
    (rw (le-leb (s.snd_una + f.smss) s.snd_max (omega (arith, u.sent))) (rw m refl))

-- in slow start it makes the window a segment larger
one-segment : (f : FlowSpec) (n now : ℕ) (s : Sender) → 1 ≤ f.smss → s.ssthresh ≤ greatest_word →
    IsUnderWay f (suc n) s →
    (ack_new f now (s.snd_una + f.smss) s).cwnd ≡ s.cwnd + f.smss
one-segment f n now s some top u =
    rw u.calm (rw (lt-ltb s.cwnd s.ssthresh (omega (arith, u.below, some))) (omega (arith, top, u.below)))

still-under-way : (f : FlowSpec) (n now : ℕ) (s : Sender) → 1 ≤ f.smss → s.ssthresh ≤ greatest_word →
    IsUnderWay f (suc n) s → IsUnderWay f n (ack_new f now (s.snd_una + f.smss) s)
still-under-way f n now s some top u = record {
  whole = add-mod_right s.snd_una f.smss ∙ u.whole;
  sent = omega (arith, u.sent);
  calm = refl;
  below = omega (arith, one-segment f n now s some top u, u.below);
}

pub slow_start_grows : SlowStartGrows
slow_start_grows f [] s some top u = omega arith
slow_start_grows f (now ∷ ms) s some top u =
    ap (λ t. (acks_in_turn f ms t).cwnd)
    (ack-new f now (s.snd_una + f.smss) s (one-more f (length ms) s some u))
    ∙ slow_start_grows f ms (ack_new f now (s.snd_una + f.smss) s) some top
    (still-under-way f (length ms) now s some top u)
    ∙ omega (arith, one-segment f (length ms) now s some top u)

not-third : (n : ℕ) → n < 2 → (bounded (n + 1) == 3) ≡ false
not-third zero h = refl
not-third (suc zero) h = refl
not-third (suc (suc n)) h = absurd (omega (arith, h))

pub third_duplicate_resends : ThirdDuplicateResends
third_duplicate_resends f now a s h d calm =
    rw h (rw d (rw calm (λ e. rw e (refl, refl, refl), λ g. rw (not-third s.duplicates g) (refl, refl, refl, refl))))
