-- Each event keeps a sender sound.
use Rattle.std.proofs.Common.{◌≡◌, ℕ, ◌+◌, ◌-◌, ◌*◌, ◌/◌, ◌%◌, ◌<◌, ◌≤◌, Bool, true, false, Option, Some, None, refl, sym, ◌∙◌, inl, inr, arith}
use Rattle.std.specs.Prelude.{if◌then◌else◌, ◌&&◌, ◌==◌, nat_lt, nat_le, is_none, max}
use Rattle.std.proofs.Math.Nat.{div-add-mod, mul-le-mul_left, mul_comm, add-mod_right, zero-mod}
use Rattle.std.proofs.lemmas.Bool.{cond_both, and_parts, or_cases, ltb-true, leb-true, eqb-true, true≢false, cases_lt}
use Rattle.emu_model.specs.Moments.{IsMoment}
use Rattle.emu_model.specs.declared.sources.FlowSpec.{FlowSpec}
use Rattle.emu_model.specs.declared.sources.Timing.{Timing}
use Rattle.emu_model.specs.declared.sources.Timing.TheVariants.{Fixed, Adaptive}
use Rattle.emu_model.specs.Reno.{Sender, Sample, Estimate, total_bytes, timeout_at, most_rto, greatest_word, has_room, may_emit, emitted, emit, started_sample, halved_ssthresh, window_after, bounded, round_trip, new_estimate, timeout_after, estimate_after, sample_after, ack_new, ack_duplicate, enter_recovery, is_new, is_duplicate, ack, expire, initial_sender}
use Rattle.reno_core.specs.Sound.{IsFlow, IsSound, IsEstimate, IsSent}

-- a whole segment that begins below the total ends there at the latest
pub segment_fits : (n smss segments : ℕ) → n % smss ≡ 0 → n < segments * smss →
    n + smss ≤ segments * smss
segment_fits n smss segments whole below =
    let q = n / smss in
    let is : smss * q ≡ n = omega (arith, div-add-mod n smss, whole) in
    elim (cases_lt q segments) [
      | inl h ↦ omega (arith, mul-le-mul_left smss h, mul_comm segments smss, is)
      | inr h ↦ absurd (omega (arith, mul-le-mul_left smss h, mul_comm segments smss, is, below))
    ]

-- a multiple above another is a segment above it
pub multiple_after : (a b smss : ℕ) → a % smss ≡ 0 → b % smss ≡ 0 → a < b → a + smss ≤ b
multiple_after a b smss p q below =
    let is : smss * (b / smss) ≡ b = omega (arith, div-add-mod b smss, q) in
    omega (arith, segment_fits a smss (b / smss) p (omega (arith, below, is, mul_comm (b / smss) smss)), is, mul_comm (b / smss) smss)

max_whole : (a b smss : ℕ) → a % smss ≡ 0 → b % smss ≡ 0 → max a b % smss ≡ 0
max_whole a b smss p q =
    elim (cases_lt a b) [
      | inl h ↦ let e : max a b ≡ b = omega arith in rw e q
      | inr h ↦ let e : max a b ≡ a = omega arith in rw e p
    ]

-- the segment that a sender may send is whole and within the flow
pub emitted_whole : (f : FlowSpec) (s : Sender) → IsSound f s → emitted s % f.smss ≡ 0
emitted_whole f s h =
    cond_both s.resend s.snd_una s.snd_nxt (λ n. n % f.smss ≡ 0) (λ e. h.una_whole) (λ e. h.nxt_whole)

room_below : (f : FlowSpec) (s : Sender) → has_room f s ≡ true → s.snd_nxt < total_bytes f
room_below f s e = ltb-true _ _ ((and_parts _ _ e).0)

may_room : (f : FlowSpec) (s : Sender) → may_emit f s ≡ true → s.resend ≡ false → has_room f s ≡ true
may_room f s e unset = elim (or_cases _ _ e) [ inl h ↦ absurd (true≢false (sym h ∙ unset)) | inr h ↦ h ]

pub emitted_within : (f : FlowSpec) (s : Sender) → IsSound f s → may_emit f s ≡ true →
    emitted s < total_bytes f
emitted_within f s h may =
    let within = h.within in
    cond_both s.resend s.snd_una s.snd_nxt (λ n. n < total_bytes f)
    (λ e. let below = h.resends e in omega arith) (λ e. room_below f s (may_room f s may e))

started_sent : (f : FlowSpec) (now : ℕ) (s : Sender) → IsSent s.snd_nxt s.sample →
    IsSent (s.snd_nxt + f.smss) (started_sample f now s)
started_sent f now s h =
    cond_both (is_none s.sample && (s.snd_nxt == s.snd_max)) _ s.sample (IsSent (s.snd_nxt + f.smss))
    (λ e. omega arith) (λ e. later s.sample h)
  where
    later : (m : Option Sample) → IsSent s.snd_nxt m → IsSent (s.snd_nxt + f.smss) m
    later None h = tt
    later (Some m) h = omega (arith, h)

pub emit_sound : (f : FlowSpec) (now : ℕ) (s : Sender) → IsSound f s → may_emit f s ≡ true →
    IsSound f (emit f now s)
emit_sound f now s h may = cond_both s.resend _ _ (IsSound f)
    (λ again. record {
      flow = h.flow;
      acknowledged = h.acknowledged;
      sent = h.sent;
      within = h.within;
      una_whole = h.una_whole;
      nxt_whole = h.nxt_whole;
      top_whole = h.top_whole;
      window = h.window;
      window_fits = h.window_fits;
      threshold = h.threshold;
      threshold_fits = h.threshold_fits;
      recovers = h.recovers;
      duplicates_fit = h.duplicates_fit;
      resends = λ e. absurd (true≢false (sym e));
      quick = h.quick;
      slow = h.slow;
      estimated = h.estimated;
      timed_sent = h.timed_sent;
      timed_once = λ e. absurd (true≢false (sym e));
    })
    (λ first. let room = segment_fits s.snd_nxt f.smss f.segments h.nxt_whole (room_below f s (may_room f s may first)) in
    let within = h.within in
    let acknowledged = h.acknowledged in
    let sent = h.sent in
    record {
      flow = h.flow;
      acknowledged = omega arith;
      sent = omega arith;
      within = omega (arith, room, within);
      una_whole = h.una_whole;
      nxt_whole = add-mod_right s.snd_nxt f.smss ∙ h.nxt_whole;
      top_whole = max_whole s.snd_max (s.snd_nxt + f.smss) f.smss h.top_whole (add-mod_right s.snd_nxt f.smss ∙ h.nxt_whole);
      window = h.window;
      window_fits = h.window_fits;
      threshold = h.threshold;
      threshold_fits = h.threshold_fits;
      recovers = h.recovers;
      duplicates_fit = h.duplicates_fit;
      resends = λ e. absurd (true≢false (sym e ∙ first));
      quick = h.quick;
      slow = h.slow;
      estimated = h.estimated;
      timed_sent = started_sent f now s h.timed_sent;
      timed_once = λ e. absurd (true≢false (sym e ∙ first));
    })

-- the window after an acknowledgement of new data holds a segment, and fits
grown_bounds : (f : FlowSpec) (n : ℕ) (s : Sender) → IsSound f s →
    (f.smss ≤ window_after f n s) × (window_after f n s ≤ greatest_word)
grown_bounds f n s h =
    let most = h.flow.most in
    let window = h.window in
    let fits = h.window_fits in
    cond_both s.recovery s.ssthresh _ (λ w. (f.smss ≤ w) × (w ≤ greatest_word))
    (λ e. let two = h.recovers e in let low = h.threshold_fits in (omega arith, omega arith))
    (λ e. cond_both (nat_lt s.cwnd s.ssthresh) _ _ (λ w. (f.smss ≤ w) × (w ≤ greatest_word))
    (λ e. (omega arith, omega arith)) (λ e. (omega arith, omega arith)))

trip_below : (now a : ℕ) (m : Option Sample) → IsMoment now → IsEstimate None → (r : ℕ) →
    round_trip now a m ≡ Some r → IsMoment r
trip_below now a None h _ r e = absurd (cc e)
trip_below now a (Some m) h _ r e = go (nat_le m.end a) e
  where
    go : (b : Bool) → (if b then Some (now - m.sent) else None) ≡ Some r → IsMoment r
    go true e = let is : now - m.sent ≡ r = cc e in omega arith
    go false e = absurd (cc e)

estimate_below : (r : ℕ) (e : Option Estimate) → IsMoment r → IsEstimate e →
    IsEstimate (Some (new_estimate r e))
estimate_below r None h p = (h, omega arith)
estimate_below r (Some e) h p = (omega (arith, p.0), omega (arith, p.0, p.1))

-- the time after an acknowledgement of new data is no shorter than the first, nor above 60 s
time_bounds : (t : Timing) (r : Option ℕ) (s : Sender) →
    timeout_at t ≤ most_rto → timeout_at t ≤ s.rto → s.rto ≤ most_rto →
    (timeout_at t ≤ timeout_after t r s) × (timeout_after t r s ≤ most_rto)
time_bounds (Fixed ms) r s slow h k = (omega arith, slow)
time_bounds Adaptive None s slow h k = (h, k)
time_bounds Adaptive (Some r) s slow h k = (omega arith, omega arith)

estimate_kept : (r : Option ℕ) (e : Option Estimate) → ((t : ℕ) → r ≡ Some t → IsMoment t) →
    IsEstimate e → IsEstimate (estimate_after r e)
estimate_kept None e h p = p
estimate_kept (Some t) e h p = estimate_below t e (h t refl) p

sample_kept : (r : Option ℕ) (m : Option Sample) (nxt a : ℕ) → IsSent nxt m →
    IsSent (max nxt a) (sample_after r m)
sample_kept None None nxt a h = tt
sample_kept None (Some m) nxt a h = omega (arith, h)
sample_kept (Some r) m nxt a h = tt

new_sound : (f : FlowSpec) (now a : ℕ) (s : Sender) → IsMoment now → IsSound f s →
    is_new f a s ≡ true → IsSound f (ack_new f now a s)
new_sound f now a s early h new =
    let ends : Bool = nat_lt s.snd_una a && nat_le a s.snd_max in
    let parts = and_parts ends (a % f.smss == 0) new in
    let most : a ≤ s.snd_max = leb-true a s.snd_max ((and_parts (nat_lt s.snd_una a) (nat_le a s.snd_max) parts.0).1) in
    let whole : a % f.smss ≡ 0 = eqb-true (a % f.smss) 0 parts.1 in
    let r = round_trip now a s.sample in
    let window = grown_bounds f (a - s.snd_una) s h in
    let time = time_bounds f.timing r s h.flow.slow h.quick h.slow in
    let sent = h.sent in
    record {
      flow = h.flow;
      acknowledged = omega arith;
      sent = omega arith;
      within = h.within;
      una_whole = whole;
      nxt_whole = max_whole s.snd_nxt a f.smss h.nxt_whole whole;
      top_whole = h.top_whole;
      window = window.0;
      window_fits = window.1;
      threshold = h.threshold;
      threshold_fits = h.threshold_fits;
      recovers = λ e. absurd (true≢false (sym e));
      duplicates_fit = omega arith;
      resends = λ e. absurd (true≢false (sym e));
      quick = time.0;
      slow = time.1;
      estimated = estimate_kept r s.estimate (λ t e. trip_below now a s.sample early tt t e) h.estimated;
      timed_sent = sample_kept r s.sample s.snd_nxt a h.timed_sent;
      timed_once = λ e. absurd (true≢false (sym e));
    }

-- half of what is under way is two segments at least
half_bounds : (f : FlowSpec) (s : Sender) → IsSound f s →
    (2 * f.smss ≤ halved_ssthresh f s) × (halved_ssthresh f s ≤ 1000000000)
half_bounds f s h =
    let few = h.flow.few in
    let most = h.flow.most in
    let within = h.within in
    let total : total_bytes f ≤ 1460000000 = omega (arith, mul-le-mul_left f.segments most, mul_comm f.segments 1460) in
    (omega arith, omega arith)

recovery_sound : (f : FlowSpec) (s : Sender) → IsSound f s → s.snd_una < s.snd_max →
    IsSound f (enter_recovery f s)
recovery_sound f s h under =
    let half = half_bounds f s h in
    let least = h.flow.least in
    let most = h.flow.most in
    record {
      flow = h.flow;
      acknowledged = h.acknowledged;
      sent = h.sent;
      within = h.within;
      una_whole = h.una_whole;
      nxt_whole = h.nxt_whole;
      top_whole = h.top_whole;
      window = omega (arith, half.0, half.1);
      window_fits = omega arith;
      threshold = omega (arith, half.0);
      threshold_fits = half.1;
      recovers = λ _. half.0;
      duplicates_fit = h.duplicates_fit;
      resends = λ _. under;
      quick = h.quick;
      slow = h.slow;
      estimated = h.estimated;
      timed_sent = tt;
      timed_once = λ _. refl;
    }

counted_sound : (f : FlowSpec) (s : Sender) → IsSound f s →
    IsSound f (record s { duplicates = bounded (s.duplicates + 1) })
counted_sound f s h = record {
  flow = h.flow;
  acknowledged = h.acknowledged;
  sent = h.sent;
  within = h.within;
  una_whole = h.una_whole;
  nxt_whole = h.nxt_whole;
  top_whole = h.top_whole;
  window = h.window;
  window_fits = h.window_fits;
  threshold = h.threshold;
  threshold_fits = h.threshold_fits;
  recovers = h.recovers;
  duplicates_fit = omega arith;
  resends = h.resends;
  quick = h.quick;
  slow = h.slow;
  estimated = h.estimated;
  timed_sent = h.timed_sent;
  timed_once = h.timed_once;
}

inflated_sound : (f : FlowSpec) (s : Sender) → IsSound f s →
    IsSound f (record s { cwnd = bounded (s.cwnd + f.smss) })
inflated_sound f s h =
    let window = h.window in
    let most = h.flow.most in
    record {
      flow = h.flow;
      acknowledged = h.acknowledged;
      sent = h.sent;
      within = h.within;
      una_whole = h.una_whole;
      nxt_whole = h.nxt_whole;
      top_whole = h.top_whole;
      window = omega arith;
      window_fits = omega arith;
      threshold = h.threshold;
      threshold_fits = h.threshold_fits;
      recovers = h.recovers;
      duplicates_fit = h.duplicates_fit;
      resends = h.resends;
      quick = h.quick;
      slow = h.slow;
      estimated = h.estimated;
      timed_sent = h.timed_sent;
      timed_once = h.timed_once;
    }

duplicate_sound : (f : FlowSpec) (s : Sender) → IsSound f s → s.snd_una < s.snd_max →
    IsSound f (ack_duplicate f s)
duplicate_sound f s h under =
    let t : Sender = record s { duplicates = bounded (s.duplicates + 1) } in
    let k = counted_sound f s h in
    cond_both s.recovery _ _ (IsSound f) (λ _. inflated_sound f t k)
    (λ _. cond_both (t.duplicates == 3) _ _ (IsSound f) (λ _. recovery_sound f t k under) (λ _. k))

pub ack_sound : (f : FlowSpec) (now a : ℕ) (s : Sender) → IsMoment now → IsSound f s →
    IsSound f (ack f now a s)
ack_sound f now a s early h = cond_both (is_new f a s) _ _ (IsSound f) (new_sound f now a s early h)
    (λ _. cond_both (is_duplicate a s) _ _ (IsSound f)
    (λ e. duplicate_sound f s h (ltb-true _ _ ((and_parts _ _ e).1))) (λ _. h))

pub expire_sound : (f : FlowSpec) (now : ℕ) (s : Sender) → IsSound f s → IsSound f (expire f now s)
expire_sound f now s h =
    let half = half_bounds f s h in
    let sent = h.sent in
    let acknowledged = h.acknowledged in
    let least = h.flow.least in
    let most = h.flow.most in
    let slow = h.slow in
    record {
      flow = h.flow;
      acknowledged = omega arith;
      sent = omega arith;
      within = h.within;
      una_whole = h.una_whole;
      nxt_whole = h.una_whole;
      top_whole = h.top_whole;
      window = omega arith;
      window_fits = omega arith;
      threshold = cond_both s.backed_off s.ssthresh (halved_ssthresh f s) (λ n. 1 ≤ n) (λ _. h.threshold) (λ _. omega (arith, half.0));
      threshold_fits = cond_both s.backed_off s.ssthresh (halved_ssthresh f s) (λ n. n ≤ 1000000000) (λ _. h.threshold_fits) (λ _. half.1);
      recovers = λ e. absurd (true≢false (sym e));
      duplicates_fit = omega arith;
      resends = λ e. absurd (true≢false (sym e));
      quick = omega (arith, h.quick, slow);
      slow = omega arith;
      estimated = h.estimated;
      timed_sent = tt;
      timed_once = λ _. refl;
    }

pub initial_sound : (f : FlowSpec) → IsFlow f → IsSound f (initial_sender f)
initial_sound f h =
    let least = h.least in
    let most = h.most in
    record {
      flow = h;
      acknowledged = omega arith;
      sent = omega arith;
      within = omega arith;
      una_whole = zero-mod f.smss;
      nxt_whole = zero-mod f.smss;
      top_whole = zero-mod f.smss;
      window = cond_both (nat_le f.smss 1095) _ _ (λ n. f.smss ≤ n) (λ _. omega arith) (λ _. omega arith);
      window_fits = cond_both (nat_le f.smss 1095) _ _ (λ n. n ≤ greatest_word) (λ _. omega arith) (λ _. omega arith);
      threshold = h.threshold;
      threshold_fits = h.bounded;
      recovers = λ e. absurd (true≢false (sym e));
      duplicates_fit = omega arith;
      resends = λ e. absurd (true≢false (sym e));
      quick = omega arith;
      slow = h.slow;
      estimated = tt;
      timed_sent = tt;
      timed_once = λ _. refl;
    }
