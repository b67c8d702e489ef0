-- SenderSteps: each step of a sender, with every field of it after the step. A field that isn't written stays. Each
-- number is worked out by hand from the rule in its comment.
use Rattle.std.specs.Prelude.{◌≡◌, refl, ℕ, true, false, Some, None, List, [], ◌∷◌}
use Rattle.emu_model.specs.declared.sources.FlowSpec.{FlowSpec}
use Rattle.emu_model.specs.declared.sources.Timing.TheVariants.{Fixed, Adaptive}
use Rattle.emu_model.specs.Reno.{Sender, initial_sender, may_emit, emitted, emit, ack, expire, with_segment, missing}

-- 20 segments of 1000 bytes, and a timeout of 40 s
abbrev flow : FlowSpec
flow = record {
  src = 0;
  sport = 0;
  dst = 0;
  dport = 0;
  smss = 1000;
  segments = 20;
  ssthresh = 6000;
  rwnd = 65535;
  timing = Fixed 40000;
}

opened : initial_sender flow ≡ record {
  snd_una = 0;
  snd_nxt = 0;
  snd_max = 0;
  cwnd = 4000;
  ssthresh = 6000;
  duplicates = 0;
  recovery = false;
  resend = false;
  backed_off = false;
  rto = 40000000000;
  timer = None;
  sample = None;
  estimate = None;
}
opened = refl

-- an adaptive time begins at 1 s (RFC 6298, section 2.1)
first_time : (initial_sender (record flow { timing = Adaptive })).rto ≡ 1000000000
first_time = refl

-- a sender that sends again after an expiry, with two duplicates: no field is as at the opening
abbrev busy : Sender
busy = record {
  snd_una = 3000;
  snd_nxt = 5000;
  snd_max = 9000;
  cwnd = 7001;
  ssthresh = 8000;
  duplicates = 2;
  recovery = false;
  resend = true;
  backed_off = true;
  rto = 9;
  timer = Some 500;
  sample = Some (record { end = 6000; sent = 400 });
  estimate = Some (record { srtt = 800; rttvar = 100 });
}

-- what is sent again changes nothing else, and the timer runs on (RFC 6298, section 5.1)
sent_again : emit flow 600 busy ≡ record busy { resend = false }
sent_again = refl

starts_a_timer : emit flow 600 (record busy { timer = None }) ≡ record busy { resend = false; timer = Some 609 }
starts_a_timer = refl

-- a segment below MAX isn't timed (Karn), and leaves MAX
sent_below_top : emit flow 600 (record busy { resend = false; sample = None }) ≡ record busy { resend = false; sample = None; snd_nxt = 6000 }
sent_below_top = refl

-- a first sending is timed where none is, and starts the timer where none runs: 600 + 9
sent_first :
    emit flow 600 (record busy { resend = false; snd_nxt = 9000; sample = None; timer = None })
    ≡ record busy {
      resend = false;
      snd_nxt = 10000;
      snd_max = 10000;
      sample = Some (record { end = 10000; sent = 600 });
      timer = Some 609;
    }
sent_first = refl

one_sample : emit flow 600 (record busy { resend = false; snd_nxt = 9000 }) ≡ record busy { resend = false; snd_nxt = 10000; snd_max = 10000 }
one_sample = refl

-- the first byte that is sent, and whether one is: 9000 + 1000 - 3000 = 7000 has to fit both windows
first_byte_again : emitted busy ≡ 3000
first_byte_again = refl

first_byte : emitted (record busy { resend = false }) ≡ 5000
first_byte = refl

abbrev at_top : ℕ → Sender
at_top cwnd = record busy { resend = false; snd_nxt = 9000; cwnd = cwnd }

resend_needs_no_room : may_emit flow (record busy { snd_nxt = 20000; cwnd = 0 }) ≡ true
resend_needs_no_room = refl

just_room : may_emit flow (at_top 7000) ≡ true
just_room = refl

no_room : may_emit flow (at_top 6999) ≡ false
no_room = refl

just_the_receivers_window : may_emit (record flow { rwnd = 7000 }) (at_top 8000) ≡ true
just_the_receivers_window = refl

past_the_receivers_window : may_emit (record flow { rwnd = 6999 }) (at_top 8000) ≡ false
past_the_receivers_window = refl

last_segment : may_emit flow (record (at_top 30000) { snd_nxt = 19000 }) ≡ true
last_segment = refl

nothing_left : may_emit flow (record (at_top 30000) { snd_nxt = 20000 }) ≡ false
nothing_left = refl

-- new data in slow start: 7001 + min(2000, 1000), the time restored, 700 + 40 s; the sample ends at 6000
slow_start :
    ack flow 700 5000 busy
    ≡ record busy {
      snd_una = 5000;
      cwnd = 8001;
      duplicates = 0;
      resend = false;
      backed_off = false;
      rto = 40000000000;
      timer = Some 40000000700;
    }
slow_start = refl

-- 500 new bytes let it grow by 500
half_a_segment : (ack flow 700 4000 (record busy { snd_una = 3500 })).cwnd ≡ 7501
half_a_segment = refl

-- congestion avoidance at ssthresh itself: 1000 * 1000 / 8000 = 125
avoidance :
    ack flow 700 5000 (record busy { cwnd = 8000 })
    ≡ record busy {
      snd_una = 5000;
      cwnd = 8125;
      duplicates = 0;
      resend = false;
      backed_off = false;
      rto = 40000000000;
      timer = Some 40000000700;
    }
avoidance = refl

-- windows stay at 2^32 - 1
full_in_slow_start : (ack flow 700 5000 (record busy { cwnd = 4294967290; ssthresh = 4294967294 })).cwnd ≡ 4294967295
full_in_slow_start = refl

full_in_avoidance : (ack flow 700 5000 (record busy { cwnd = 4294967295 })).cwnd ≡ 4294967295
full_in_avoidance = refl

full_in_recovery : (ack flow 700 3000 (record busy { cwnd = 4294967290; recovery = true })).cwnd ≡ 4294967295
full_in_recovery = refl

full_duplicates : (ack flow 700 3000 (record busy { duplicates = 4294967295; recovery = true })).duplicates ≡ 4294967295
full_duplicates = refl

full_at_the_third :
    (ack flow 700 3000 (record busy { snd_max = 8589934592 })).cwnd ≡ 4294967295
full_at_the_third = refl

-- past NXT; the sample of 300 is complete: (7 * 800 + 300) / 8 = 737, (3 * 100 + 500) / 4 = 200
sampled :
    ack flow 700 6000 busy
    ≡ record busy {
      snd_una = 6000;
      snd_nxt = 6000;
      cwnd = 8001;
      duplicates = 0;
      resend = false;
      backed_off = false;
      rto = 40000000000;
      timer = Some 40000000700;
      sample = None;
      estimate = Some (record { srtt = 737; rttvar = 200 });
    }
sampled = refl

-- an adaptive time: a round trip of 3 s after 2 s and 0.1 s: SRTT (14 + 3) / 8 = 2.125 s, RTTVAR
-- (0.3 + 1) / 4 = 0.325 s, and 2.125 + 4 * 0.325 = 3.425 s
abbrev slow : Sender
slow = record busy { estimate = Some (record { srtt = 2000000000; rttvar = 100000000 }) }

adapted :
    ack (record flow { timing = Adaptive }) 3000000400 6000 slow
    ≡ record busy {
      snd_una = 6000;
      snd_nxt = 6000;
      cwnd = 8001;
      duplicates = 0;
      resend = false;
      backed_off = false;
      rto = 3425000000;
      timer = Some 6425000400;
      sample = None;
      estimate = Some (record { srtt = 2125000000; rttvar = 325000000 });
    }
adapted = refl

-- without a complete sample it stays
not_adapted : (ack (record flow { timing = Adaptive }) 700 5000 slow).rto ≡ 9
not_adapted = refl

-- the first round trip, of 3 s: 3 + 4 * 1.5 = 9 s
first_trip :
    (ack (record flow { timing = Adaptive }) 3000000400 6000 (record busy { estimate = None })).rto ≡ 9000000000
first_trip = refl

-- all that was sent is acknowledged: no timer runs
all_acknowledged : (ack flow 700 9000 busy).timer ≡ None
all_acknowledged = refl

-- in recovery the window is deflated
recovered :
    ack flow 700 5000 (record busy { recovery = true })
    ≡ record busy {
      snd_una = 5000;
      cwnd = 8000;
      duplicates = 0;
      resend = false;
      backed_off = false;
      rto = 40000000000;
      timer = Some 40000000700;
    }
recovered = refl

-- the third duplicate: half of 9000 - 3000, and three segments more
third :
    ack flow 700 3000 (record busy { resend = false })
    ≡ record busy {
      cwnd = 6000;
      ssthresh = 3000;
      duplicates = 3;
      recovery = true;
      resend = true;
      sample = None;
    }
third = refl

-- half of less than four segments is two
two_segments : (ack flow 700 3000 (record busy { snd_max = 6000 })).ssthresh ≡ 2000
two_segments = refl

second : ack flow 700 3000 (record busy { duplicates = 1 }) ≡ busy
second = refl

fourth : ack flow 700 3000 (record busy { duplicates = 3 }) ≡ record busy { duplicates = 4 }
fourth = refl

-- in recovery each duplicate inflates the window by a segment
inflated :
    ack flow 700 3000 (record busy { recovery = true })
    ≡ record busy { recovery = true; duplicates = 3; cwnd = 8001 }
inflated = refl

-- neither new nor a duplicate
older : ack flow 700 2000 busy ≡ busy
older = refl

beyond : ack flow 700 10000 busy ≡ busy
beyond = refl

within_a_segment : ack flow 700 4500 busy ≡ busy
within_a_segment = refl

nothing_sent : ack flow 700 3000 (record busy { snd_max = 3000 }) ≡ record busy { snd_max = 3000 }
nothing_sent = refl

-- an expiry behind another holds ssthresh; the time is doubled
expired :
    expire flow 700 (record busy { recovery = true })
    ≡ record busy {
      cwnd = 1000;
      snd_nxt = 3000;
      duplicates = 0;
      resend = false;
      rto = 18;
      timer = Some 718;
      sample = None;
    }
expired = refl

-- a first one halves what is under way
expired_first :
    expire flow 700 (record busy { backed_off = false })
    ≡ record busy {
      ssthresh = 3000;
      cwnd = 1000;
      snd_nxt = 3000;
      duplicates = 0;
      resend = false;
      rto = 18;
      timer = Some 718;
      sample = None;
    }
expired_first = refl

-- the receiver: a set of first bytes in rising order, and its least gap
abbrev some_came : List ℕ
some_came = 0 ∷ 1000 ∷ 3000 ∷ []

fills_the_gap : with_segment 2000 some_came ≡ 0 ∷ 1000 ∷ 2000 ∷ 3000 ∷ []
fills_the_gap = refl

came_before : with_segment 1000 some_came ≡ some_came
came_before = refl

comes_last : with_segment 4000 some_came ≡ 0 ∷ 1000 ∷ 3000 ∷ 4000 ∷ []
comes_last = refl

gap : missing 1000 some_came ≡ 2000
gap = refl

no_gap : missing 1000 (0 ∷ 1000 ∷ []) ≡ 2000
no_gap = refl

gap_at_the_beginning : missing 1000 (1000 ∷ []) ≡ 0
gap_at_the_beginning = refl
