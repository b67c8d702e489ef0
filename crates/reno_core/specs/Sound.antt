-- The invariant of every sender.
use Rattle.std.specs.Prelude.{◌≡◌, ℕ, ◌*◌, ◌%◌, ◌<◌, ◌≤◌, ⊤, Option, Some, None, true}
use Rattle.emu_model.specs.Moments.{IsMoment}
use Rattle.emu_model.specs.declared.sources.FlowSpec.{FlowSpec}
use Rattle.emu_model.specs.Reno.{Sender, Sample, Estimate, total_bytes, initial_rto, most_rto, greatest_word}

-- the ranges of a flow's parameters
pub record IsFlow (f : FlowSpec) : Type 0 where
  pub least : 1 ≤ f.smss
  pub most : f.smss ≤ 1460
  pub few : f.segments ≤ 1000000
  pub threshold : 1 ≤ f.ssthresh
  pub bounded : f.ssthresh ≤ 1000000000
  pub quick : 1000000 ≤ initial_rto f
  pub slow : initial_rto f ≤ most_rto

-- SRTT and RTTVAR are below 2 * 10^15 ns, as all times are
abbrev pub IsEstimate : Option Estimate → Type 0
IsEstimate None = ⊤
IsEstimate (Some e) = IsMoment e.srtt × IsMoment e.rttvar

-- the segment that is timed, if any, was sent
abbrev pub IsSent : ℕ → Option Sample → Type 0
IsSent nxt None = ⊤
IsSent nxt (Some m) = m.end ≤ nxt

pub record IsSound (f : FlowSpec) (s : Sender) : Type 0 where
  pub flow : IsFlow f
  -- the acknowledged bytes were sent, and all positions are at segment boundaries
  pub acknowledged : s.snd_una ≤ s.snd_nxt
  pub sent : s.snd_nxt ≤ s.snd_max
  pub within : s.snd_max ≤ total_bytes f
  pub una_whole : s.snd_una % f.smss ≡ 0
  pub nxt_whole : s.snd_nxt % f.smss ≡ 0
  pub top_whole : s.snd_max % f.smss ≡ 0
  -- cwnd is at least one segment, and in recovery ssthresh is at least two
  pub window : f.smss ≤ s.cwnd
  pub window_fits : s.cwnd ≤ greatest_word
  pub threshold : 1 ≤ s.ssthresh
  pub threshold_fits : s.ssthresh ≤ 1000000000
  pub recovers : s.recovery ≡ true → 2 * f.smss ≤ s.ssthresh
  pub duplicates_fit : s.duplicates ≤ greatest_word
  -- a segment to retransmit has not been acknowledged
  pub resends : s.resend ≡ true → s.snd_una < s.snd_max
  -- RTO is never below its initial value, nor above 60 s
  pub quick : initial_rto f ≤ s.rto
  pub slow : s.rto ≤ most_rto
  pub estimated : IsEstimate s.estimate
  -- the segment that is timed was sent, and none is timed while one is to be retransmitted
  pub timed_sent : IsSent s.snd_nxt s.sample
  pub timed_once : s.resend ≡ true → s.sample ≡ None
