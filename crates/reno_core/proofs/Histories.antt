-- What holds of a sender after any history.
use Rattle.std.proofs.Common.{◌≡◌, ℕ, ◌+◌, ◌*◌, ◌%◌, ◌<◌, ◌≤◌, Bool, true, false, Option, Some, None, List, [], ◌∷◌, refl, sym, ◌∙◌, ap, subst, inl, inr, arith}
use Rattle.std.specs.Prelude.{if◌then◌else◌, ◌&&◌, ◌==◌, nat_lt, nat_le, is_none, max, count_by, ⊤}
use Rattle.std.proofs.lemmas.Bool.{cond_both, and_parts, ltb-true, eqb-true, eq-eqb, ne_eqb, true≢false, cases_Bool}
use Rattle.std.proofs.lemmas.List.Sums.{sum_by-cons}
use Rattle.emu_model.specs.Moments.{IsMoment}
use Rattle.emu_model.specs.declared.sources.FlowSpec.{FlowSpec}
use Rattle.emu_model.specs.declared.sources.Timing.{Timing}
use Rattle.emu_model.specs.Reno.{Sender, Sample, timeout_at, emit, emitted, may_emit, ack, ack_new, ack_duplicate, expire, is_new, is_duplicate, round_trip, sample_after, halved_ssthresh, bounded}
use Rattle.reno_core.specs.Sound.{IsFlow, IsSound, IsSent}
use Rattle.reno_core.specs.RenoLaws.{Event, acknowledged, expired, allowed, moment_of, IsHistory, sender_with, sender_after, sent_with, firsts_sent, PositionsStayInOrder, WindowHoldsASegment, LossLeavesTwoSegments, SecondExpiryHolds, TimedIsSentOnce, AdaptiveTimeIsBounded}
use Rattle.reno_core.proofs.SoundnessKept.{ack_sound, expire_sound, emit_sound, initial_sound, multiple_after}

with_sound : (f : FlowSpec) (e : Event) (s : Sender) → IsMoment (moment_of e) → IsSound f s →
    IsSound f (sender_with f e s)
with_sound f (acknowledged now a) s early h = ack_sound f now a s early h
with_sound f (expired now) s early h = expire_sound f now s h
with_sound f (allowed now) s early h =
    cond_both (may_emit f s) _ _ (IsSound f) (λ may. emit_sound f now s h may) (λ _. h)

sound_after : (f : FlowSpec) (es : List Event) → IsFlow f → IsHistory es → IsSound f (sender_after f es)
sound_after f [] h past = initial_sound f h
sound_after f (e ∷ es) h past = with_sound f e (sender_after f es) past.0 (sound_after f es h past.1)

pub positions_stay_in_order : PositionsStayInOrder
positions_stay_in_order f es h past =
    let s = sound_after f es h past in (s.acknowledged, s.sent, s.within)

pub window_holds_a_segment : WindowHoldsASegment
window_holds_a_segment f es h past = (sound_after f es h past).window

pub adaptive_time_is_bounded : AdaptiveTimeIsBounded
adaptive_time_is_bounded f es h past adaptive =
    let s = sound_after f es h past in
    let P : Timing → Type 0 = λ t. timeout_at t ≤ (sender_after f es).rto in
    (subst P adaptive s.quick, s.slow)

-- the third duplicate
third : (f : FlowSpec) (s : Sender) → s.recovery ≡ false → s.duplicates ≡ 2 →
    2 * f.smss ≤ (ack_duplicate f s).ssthresh
third f s out two = cond_both s.recovery _ _ (λ (t : Sender). 2 * f.smss ≤ t.ssthresh)
    (λ e. absurd (true≢false (sym e ∙ out)))
    (λ _. cond_both (bounded (s.duplicates + 1) == 3) _ _ (λ (t : Sender). 2 * f.smss ≤ t.ssthresh)
    (λ _. omega arith)
    (λ e. absurd (true≢false (sym (eq-eqb (bounded (s.duplicates + 1)) 3 (omega (arith, two))) ∙ e))))

pub loss_leaves_two_segments : LossLeavesTwoSegments
loss_leaves_two_segments f now a s = (
  λ first. cond_both s.backed_off s.ssthresh (halved_ssthresh f s) (λ n. 2 * f.smss ≤ n)
      (λ e. absurd (true≢false (sym e ∙ first))) (λ _. omega arith),
  λ same out two. cond_both (is_new f a s) _ _ (λ (t : Sender). 2 * f.smss ≤ t.ssthresh)
      (λ new. absurd (not_both new same))
      (λ _. cond_both (is_duplicate a s) _ _ (λ (t : Sender). 2 * f.smss ≤ t.ssthresh)
      (λ _. third f s out two) (λ e. absurd (true≢false (sym same ∙ e)))),
)
  where
    not_both : is_new f a s ≡ true → is_duplicate a s ≡ true → ⊥
    not_both new same =
        let newer = ltb-true s.snd_una a ((and_parts (nat_lt s.snd_una a) (nat_le a s.snd_max) ((and_parts (nat_lt s.snd_una a && nat_le a s.snd_max) (a % f.smss == 0) new).0)).0) in
        let equal = eqb-true a s.snd_una ((and_parts (a == s.snd_una) (nat_lt s.snd_una s.snd_max) same).0) in
        omega (arith, newer, equal)

duplicate_timed : (f : FlowSpec) (s : Sender) → (ack_duplicate f s).backed_off ≡ s.backed_off
duplicate_timed f s = cond_both s.recovery _ _ (λ (t : Sender). t.backed_off ≡ s.backed_off) (λ _. refl)
    (λ _. cond_both (bounded (s.duplicates + 1) == 3) _ _ (λ (t : Sender). t.backed_off ≡ s.backed_off) (λ _. refl) (λ _. refl))

pub second_expiry_holds : SecondExpiryHolds
second_expiry_holds f now a s = (
  refl,
  cond_both s.resend _ _ (λ (t : Sender). t.backed_off ≡ s.backed_off) (λ _. refl) (λ _. refl),
  λ old. cond_both (is_new f a s) _ _ (λ (t : Sender). t.backed_off ≡ s.backed_off) (λ new. absurd (true≢false (sym new ∙ old)))
      (λ _. cond_both (is_duplicate a s) _ _ (λ (t : Sender). t.backed_off ≡ s.backed_off) (λ _. duplicate_timed f s) (λ _. refl)),
  λ timed. cond_both s.backed_off s.ssthresh (halved_ssthresh f s) (λ n. n ≡ s.ssthresh) (λ _. refl)
      (λ e. absurd (true≢false (sym timed ∙ e))),
)

-- each segment that was sent ends at `snd_max` or below
abbrev AreBelow : ℕ → ℕ → List ℕ → Type 0
AreBelow top smss [] = ⊤
AreBelow top smss (x ∷ xs) = (x + smss ≤ top) × AreBelow top smss xs

still_below : (top later smss : ℕ) (xs : List ℕ) → top ≤ later → AreBelow top smss xs → AreBelow later smss xs
still_below top later smss [] h p = tt
still_below top later smss (x ∷ xs) h p = (omega (arith, p.0, h), still_below top later smss xs h p.1)

abbrev one_if : Bool → ℕ
one_if b = if b then 1 else 0

-- a count goes on by one where the first passes
count-cons : (q : ℕ → Bool) (x : ℕ) (xs : List ℕ) (b : Bool) → q x ≡ b →
    count_by q (x ∷ xs) ≡ one_if b + count_by q xs
count-cons q x xs b e = sum_by-cons (λ y. if q y then 1 else 0) x xs ∙ ap (λ c. (if c then 1 else 0) + count_by q xs) e

none_above : (top smss end : ℕ) (xs : List ℕ) → AreBelow top smss xs → top < end →
    count_by (λ x. x + smss == end) xs ≡ 0
none_above top smss end [] p h = refl
none_above top smss end (x ∷ xs) p h =
    let q : ℕ → Bool = λ y. y + smss == end in
    count-cons q x xs false (ne_eqb (x + smss) end (λ e. absurd (omega (arith, e, p.0, h))))
    ∙ omega (arith, none_above top smss end xs p.1 h)

abbrev end_of : Option Sample → ℕ
end_of None = 0
end_of (Some m) = m.end

abbrev times_sent : FlowSpec → List ℕ → Sample → ℕ
times_sent f firsts m = count_by (λ x. x + f.smss == m.end) firsts

-- how often what is timed was sent
record Timed (f : FlowSpec) (s : Sender) (firsts : List ℕ) : Type 0 where
  below : AreBelow s.snd_max f.smss firsts
  once : (m : Sample) → s.sample ≡ Some m → count_by (λ x. x + f.smss == m.end) firsts ≡ 1

-- t sent no more than s, and times nothing else
record Keeps (s t : Sender) : Type 0 where
  snd_max : t.snd_max ≡ s.snd_max
  sample : (m : Sample) → t.sample ≡ Some m → s.sample ≡ Some m

kept_timed : (f : FlowSpec) (s t : Sender) (firsts : List ℕ) → Keeps s t → Timed f s firsts → Timed f t firsts
kept_timed f s t firsts k h = record {
  below = still_below s.snd_max t.snd_max f.smss firsts (omega (arith, k.snd_max)) h.below;
  once = λ m is. h.once m (k.sample m is);
}

new_keeps : (f : FlowSpec) (now a : ℕ) (s : Sender) → Keeps s (ack_new f now a s)
new_keeps f now a s = record { snd_max = refl; sample = λ m is. go (round_trip now a s.sample) m is }
  where
    go : (r : Option ℕ) (m : Sample) → sample_after r s.sample ≡ Some m → s.sample ≡ Some m
    go None m is = is
    go (Some r) m is = absurd (cc is)

duplicate_keeps : (f : FlowSpec) (s : Sender) → Keeps s (ack_duplicate f s)
duplicate_keeps f s = cond_both s.recovery _ _ (Keeps s)
    (λ _. record { snd_max = refl; sample = λ m is. is })
    (λ _. cond_both (bounded (s.duplicates + 1) == 3) _ _ (Keeps s)
    (λ _. record { snd_max = refl; sample = λ m is. absurd (cc is) })
    (λ _. record { snd_max = refl; sample = λ m is. is }))

ack_keeps : (f : FlowSpec) (now a : ℕ) (s : Sender) → Keeps s (ack f now a s)
ack_keeps f now a s = cond_both (is_new f a s) _ _ (Keeps s) (λ _. new_keeps f now a s)
    (λ _. cond_both (is_duplicate a s) _ _ (Keeps s) (λ _. duplicate_keeps f s)
    (λ _. record { snd_max = refl; sample = λ m is. is }))

again_timed : (f : FlowSpec) (now : ℕ) (s : Sender) (firsts : List ℕ) → IsSound f s → s.resend ≡ true →
    Timed f s firsts → Timed f (emit f now s) (emitted s ∷ firsts)
again_timed f now s firsts h again k = rw again (record {
  below = (multiple_after s.snd_una s.snd_max f.smss h.una_whole h.top_whole (h.resends again), k.below);
  once = λ m is. absurd (cc (is, h.timed_once again));
})

first_timed : (f : FlowSpec) (now : ℕ) (s : Sender) (firsts : List ℕ) → IsSound f s → s.resend ≡ false →
    Timed f s firsts → Timed f (emit f now s) (emitted s ∷ firsts)
first_timed f now s firsts h first k = rw first (record {
  below = (omega arith, still_below s.snd_max (max s.snd_max (s.snd_nxt + f.smss)) f.smss firsts (omega arith) k.below);
  once = λ m. cond_both (is_none s.sample && (s.snd_nxt == s.snd_max)) _ s.sample (λ o. o ≡ Some m → times_sent f (s.snd_nxt ∷ firsts) m ≡ 1)
      (λ e is. starts m ((and_parts _ _ e).1) is) (λ _ is. goes_on m is);
})
  where
    starts : (m : Sample) → (s.snd_nxt == s.snd_max) ≡ true →
        Some (record { end = s.snd_nxt + f.smss; sent = now }) ≡ Some m → times_sent f (s.snd_nxt ∷ firsts) m ≡ 1
    starts m e is =
        let at : s.snd_nxt + f.smss ≡ m.end = ap (λ o. end_of o) is in
        let fresh : s.snd_nxt ≡ s.snd_max = eqb-true s.snd_nxt s.snd_max e in
        let least = h.flow.least in
        count-cons (λ x. x + f.smss == m.end) s.snd_nxt firsts true (eq-eqb (s.snd_nxt + f.smss) m.end at)
        ∙ omega (arith, none_above s.snd_max f.smss m.end firsts k.below (omega (arith, at, fresh, least)))

    goes_on : (m : Sample) → s.sample ≡ Some m → times_sent f (s.snd_nxt ∷ firsts) m ≡ 1
    goes_on m is =
        let P : Option Sample → Type 0 = IsSent s.snd_nxt in
        let ended : m.end ≤ s.snd_nxt = subst P is h.timed_sent in
        let least = h.flow.least in
        count-cons (λ x. x + f.smss == m.end) s.snd_nxt firsts false (ne_eqb (s.snd_nxt + f.smss) m.end (λ e. absurd (omega (arith, e, ended, least))))
        ∙ omega (arith, k.once m is)

timed_with : (f : FlowSpec) (e : Event) (s : Sender) (firsts : List ℕ) → IsSound f s → Timed f s firsts →
    Timed f (sender_with f e s) (sent_with f e s firsts)
timed_with f (acknowledged now a) s firsts h k = kept_timed f s (ack f now a s) firsts (ack_keeps f now a s) k
timed_with f (expired now) s firsts h k =
    kept_timed f s (expire f now s) firsts (record { snd_max = refl; sample = λ m is. absurd (cc is) }) k
timed_with f (allowed now) s firsts h k = go (may_emit f s)
  where
    go : (b : Bool) → Timed f (if b then emit f now s else s) (if b then emitted s ∷ firsts else firsts)
    go true = elim (cases_Bool s.resend) [
      | inl e ↦ again_timed f now s firsts h e k
      | inr e ↦ first_timed f now s firsts h e k
    ]
    go false = k

timed_after : (f : FlowSpec) (es : List Event) → IsFlow f → IsHistory es →
    Timed f (sender_after f es) (firsts_sent f es)
timed_after f [] h past = record { below = tt; once = λ m is. absurd (cc is) }
timed_after f (e ∷ es) h past =
    timed_with f e (sender_after f es) (firsts_sent f es) (sound_after f es h past.1) (timed_after f es h past.1)

pub timed_is_sent_once : TimedIsSentOnce
timed_is_sent_once f es m h past is = (timed_after f es h past).once m is
