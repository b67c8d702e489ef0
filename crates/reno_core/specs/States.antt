-- The state of a sender in the form of the definitions.
use Rattle.std.specs.Prelude.{option_map}
use Rattle.emu_model.specs.Reno.{Sender, Sample, Estimate}
use Rattle.reno_core.specs.declared.state.State.{State}
use Rattle.reno_core.specs.declared.times.Sample.{Sample as TimedSegment}
use Rattle.reno_core.specs.declared.times.Estimate.{Estimate as RoundTrips}

abbrev pub sample_of : TimedSegment → Sample
sample_of m = record { end = m.end; sent = m.sent }

abbrev pub estimate_of : RoundTrips → Estimate
estimate_of e = record { srtt = e.srtt; rttvar = e.rttvar }

abbrev pub sender_of : State → Sender
sender_of s = record {
  snd_una = s.snd_una;
  snd_nxt = s.snd_nxt;
  snd_max = s.snd_max;
  cwnd = s.cwnd;
  ssthresh = s.ssthresh;
  duplicates = s.duplicates;
  recovery = s.recovery;
  resend = s.resend;
  backed_off = s.backed_off;
  rto = s.rto;
  timer = s.timer;
  sample = option_map sample_of s.sample;
  estimate = option_map estimate_of s.estimate;
}
