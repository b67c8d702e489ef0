-- Laws of a Reno sender (RFC 5681, sections 3.1 and 3.2; RFC 6298, section 5), over the definitions alone.
use Rattle.std.specs.Prelude.{◌≡◌, ℕ, ◌+◌, ◌*◌, ◌%◌, ◌<◌, ◌≤◌, min, true, false, Some, None, List, [], ◌∷◌, length}
use Rattle.emu_model.specs.Types.{FlowSpec}
use Rattle.emu_model.specs.Reno.{Sender, most_rto, greatest_word, is_new, is_duplicate, ack, expire, emit}

-- no duplicates are counted, recovery is off, and no fast retransmit is pending
abbrev pub IsClear : Sender → Type 0
IsClear s = (s.duplicates ≡ 0) × (s.recovery ≡ false) × (s.resend ≡ false)

-- an acknowledgement of new data clears the traces of a loss, and the next expiry counts as the first (RFC 5681, section 3.2,
-- step 6, and section 3.1, equation 4)
abbrev pub NewDataClears : Type 0
NewDataClears = (f : FlowSpec) (now a : ℕ) (s : Sender) → is_new f a s ≡ true →
    IsClear (ack f now a s) × ((ack f now a s).backed_off ≡ false) × ((ack f now a s).snd_una ≡ a)

-- after an acknowledgement of new data the timer runs from now if data is outstanding, and is off otherwise (RFC 6298,
-- sections 5.2 and 5.3)
abbrev pub NewDataSetsTimer : Type 0
NewDataSetsTimer = (f : FlowSpec) (now a : ℕ) (s : Sender) → is_new f a s ≡ true →
    let t = ack f now a s in
    (a < s.snd_max → t.timer ≡ Some (now + t.rto)) × (a ≡ s.snd_max → t.timer ≡ None)

-- an expiry clears the same traces, falls back to one segment at the first unacknowledged byte, and discards the sample
-- (RFC 5681, section 3.1; RFC 6298, section 3)
abbrev pub ExpiryClears : Type 0
ExpiryClears = (f : FlowSpec) (now : ℕ) (s : Sender) →
    let t = expire f now s in
    IsClear t × (t.backed_off ≡ true) × (t.snd_una ≡ s.snd_una) × (t.snd_nxt ≡ s.snd_una) × (t.cwnd ≡ f.smss)
    × (t.sample ≡ None)

-- an expiry starts the timer with an RTO that is no shorter than before, and at most the maximum (RFC 6298, sections 5.5
-- and 5.6)
abbrev pub ExpiryBacksOff : Type 0
ExpiryBacksOff = (f : FlowSpec) (now : ℕ) (s : Sender) → s.rto ≤ most_rto →
    let t = expire f now s in
    (t.timer ≡ Some (now + t.rto)) × (s.rto ≤ t.rto) × (t.rto ≤ most_rto)

-- a second expiry in a row holds ssthresh (RFC 5681, section 3.1)
abbrev pub SecondExpiryHolds : Type 0
SecondExpiryHolds = (f : FlowSpec) (now later : ℕ) (s : Sender) →
    (expire f later (expire f now s)).ssthresh ≡ (expire f now s).ssthresh

-- a transmission or retransmission leaves a running timer as it is, and starts one that is off (RFC 6298, section 5.1)
abbrev pub EmissionKeepsTimer : Type 0
EmissionKeepsTimer = (f : FlowSpec) (now : ℕ) (s : Sender) →
    ((moment : ℕ) → s.timer ≡ Some moment → (emit f now s).timer ≡ Some moment)
    × (s.timer ≡ None → (emit f now s).timer ≡ Some (now + s.rto))

-- outside recovery an acknowledgement of new data grows cwnd by at least a byte, unless it saturates, and by at most a segment (RFC 5681,
-- section 3.1, equations 2 and 3)
abbrev pub WindowGrowsBySegments : Type 0
WindowGrowsBySegments = (f : FlowSpec) (now a : ℕ) (s : Sender) → is_new f a s ≡ true →
    s.recovery ≡ false → 1 ≤ f.smss → f.smss ≤ s.cwnd →
    (min (s.cwnd + 1) greatest_word ≤ (ack f now a s).cwnd)
    × ((ack f now a s).cwnd ≤ s.cwnd + f.smss)

-- the sender after acknowledgements of one segment each, at these times
abbrev pub acks_in_turn : FlowSpec → List ℕ → Sender → Sender
acks_in_turn f [] s = s
acks_in_turn f (now ∷ ms) s = acks_in_turn f ms (ack f now (s.snd_una + f.smss) s)

-- whole segments are acknowledged, n more were sent, and the sender is not in recovery; cwnd plus n segments is
-- at most ssthresh
pub record IsUnderWay (f : FlowSpec) (n : ℕ) (s : Sender) : Type 0 where
  pub whole : s.snd_una % f.smss ≡ 0
  pub sent : s.snd_una + n * f.smss ≤ s.snd_max
  pub calm : s.recovery ≡ false
  pub below : s.cwnd + n * f.smss ≤ s.ssthresh

-- in slow start cwnd grows by a segment for each segment that is acknowledged (RFC 5681, section 3.1, equation 2)
abbrev pub SlowStartGrows : Type 0
SlowStartGrows = (f : FlowSpec) (ms : List ℕ) (s : Sender) → 1 ≤ f.smss →
    s.ssthresh ≤ greatest_word → IsUnderWay f (length ms) s →
    (acks_in_turn f ms s).cwnd ≡ s.cwnd + length ms * f.smss

-- outside recovery the third duplicate requests a retransmission of the missing segment and begins recovery; an earlier
-- duplicate changes neither cwnd nor ssthresh (RFC 5681, section 3.2, steps 1 to 3)
abbrev pub ThirdDuplicateResends : Type 0
ThirdDuplicateResends = (f : FlowSpec) (now a : ℕ) (s : Sender) → is_new f a s ≡ false →
    is_duplicate a s ≡ true → s.recovery ≡ false →
    let t = ack f now a s in
    (s.duplicates ≡ 2 → (t.resend ≡ true) × (t.recovery ≡ true)
    × (t.cwnd ≡ min (t.ssthresh + 3 * f.smss) greatest_word))
    × (s.duplicates < 2 → (t.resend ≡ s.resend) × (t.recovery ≡ false) × (t.cwnd ≡ s.cwnd)
    × (t.ssthresh ≡ s.ssthresh))
