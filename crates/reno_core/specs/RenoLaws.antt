-- Laws of Reno in its own terms, over the definitions alone: they hold for a sender after any history, and for a
-- receiver with any segments.
use Rattle.std.specs.Prelude.{◌≡◌, ℕ, ◌+◌, ◌*◌, ◌^◌, ◌≤◌, ⊤, true, false, Some, List, [], ◌∷◌, ◌==◌, if◌then◌else◌, count_by}
use Rattle.emu_model.specs.Moments.{IsMoment}
use Rattle.emu_model.specs.declared.sources.FlowSpec.{FlowSpec}
use Rattle.emu_model.specs.declared.sources.Timing.TheVariants.{Adaptive}
use Rattle.emu_model.specs.Reno.{Sender, Sample, total_bytes, most_rto, initial_sender, ack, expire, emit, emitted, may_emit, is_new, is_duplicate, with_segment, missing}
use Rattle.reno_core.specs.Sound.{IsFlow}

-- an event of a sender, at a time: an acknowledgement of all bytes below a number, the expiry of its timer, or
-- permission to send a segment
pub data Event : Type 0 where
  acknowledged : ℕ → ℕ → Event
  expired : ℕ → Event
  allowed : ℕ → Event

abbrev pub moment_of : Event → ℕ
moment_of (acknowledged now a) = now
moment_of (expired now) = now
moment_of (allowed now) = now

-- a list of events at valid times, the latest first
abbrev pub IsHistory : List Event → Type 0
IsHistory [] = ⊤
IsHistory (e ∷ es) = IsMoment (moment_of e) × IsHistory es

-- the sender after an event; when `allowed`, it sends a segment if `may_emit` is true
abbrev pub sender_with : FlowSpec → Event → Sender → Sender
sender_with f (acknowledged now a) s = ack f now a s
sender_with f (expired now) s = expire f now s
sender_with f (allowed now) s = if may_emit f s then emit f now s else s

abbrev pub sender_after : FlowSpec → List Event → Sender
sender_after f [] = initial_sender f
sender_after f (e ∷ es) = sender_with f e (sender_after f es)

abbrev pub sent_with : FlowSpec → Event → Sender → List ℕ → List ℕ
sent_with f (acknowledged now a) s firsts = firsts
sent_with f (expired now) s firsts = firsts
sent_with f (allowed now) s firsts = if may_emit f s then emitted s ∷ firsts else firsts

-- the first byte of each segment that was sent
abbrev pub firsts_sent : FlowSpec → List Event → List ℕ
firsts_sent f [] = []
firsts_sent f (e ∷ es) = sent_with f e (sender_after f es) (firsts_sent f es)

-- the acknowledged bytes were sent, and the bytes that were sent belong to the flow (RFC 5681)
abbrev pub PositionsStayInOrder : Type 0
PositionsStayInOrder = (f : FlowSpec) (es : List Event) → IsFlow f → IsHistory es →
    let s = sender_after f es in (s.snd_una ≤ s.snd_nxt) × (s.snd_nxt ≤ s.snd_max) × (s.snd_max ≤ total_bytes f)

-- cwnd never falls below one segment (RFC 5681, section 3.1)
abbrev pub WindowHoldsASegment : Type 0
WindowHoldsASegment = (f : FlowSpec) (es : List Event) → IsFlow f → IsHistory es →
    f.smss ≤ (sender_after f es).cwnd

-- a third duplicate and a first expiry leave ssthresh at two segments or more (RFC 5681, equation 4)
abbrev pub LossLeavesTwoSegments : Type 0
LossLeavesTwoSegments = (f : FlowSpec) (now a : ℕ) (s : Sender) →
    (s.backed_off ≡ false → 2 * f.smss ≤ (expire f now s).ssthresh)
    × (is_duplicate a s ≡ true → s.recovery ≡ false → s.duplicates ≡ 2 → 2 * f.smss ≤ (ack f now a s).ssthresh)

-- an expiry after another one keeps ssthresh, unless new data was acknowledged between them (RFC 5681, section 3.1)
abbrev pub SecondExpiryHolds : Type 0
SecondExpiryHolds = (f : FlowSpec) (now a : ℕ) (s : Sender) →
    ((expire f now s).backed_off ≡ true)
    × ((emit f now s).backed_off ≡ s.backed_off)
    × (is_new f a s ≡ false → (ack f now a s).backed_off ≡ s.backed_off)
    × (s.backed_off ≡ true → (expire f now s).ssthresh ≡ s.ssthresh)

-- the segment that is timed was sent once (RFC 6298, section 3, Karn)
abbrev pub TimedIsSentOnce : Type 0
TimedIsSentOnce = (f : FlowSpec) (es : List Event) (m : Sample) → IsFlow f → IsHistory es →
    (sender_after f es).sample ≡ Some m →
    count_by (λ first. first + f.smss == m.end) (firsts_sent f es) ≡ 1

-- an adaptive RTO is from 1 s to 60 s (RFC 6298, section 2)
abbrev pub AdaptiveTimeIsBounded : Type 0
AdaptiveTimeIsBounded = (f : FlowSpec) (es : List Event) → IsFlow f → IsHistory es →
    f.timing ≡ Adaptive →
    (10 ^ 9 ≤ (sender_after f es).rto) × ((sender_after f es).rto ≤ most_rto)

-- whatever arrives, a receiver never retracts an acknowledgement (RFC 5681, section 2)
abbrev pub NumberNeverFalls : Type 0
NumberNeverFalls = (smss first : ℕ) (came : List ℕ) →
    missing smss came ≤ missing smss (with_segment first came)

-- the order in which segments arrive makes no difference, nor does a segment that arrives again (our choice)
abbrev pub SegmentsAreASet : Type 0
SegmentsAreASet = (a b : ℕ) (came : List ℕ) →
    (with_segment a (with_segment b came) ≡ with_segment b (with_segment a came))
    × (with_segment a (with_segment a came) ≡ with_segment a came)
