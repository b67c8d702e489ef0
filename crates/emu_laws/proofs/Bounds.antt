-- Bounds: what the definitions say at the ends of a range, where no worked example goes. Each number
-- is worked out by hand from the rule in its comment.
use Rattle.std.specs.Prelude.{◌≡◌, refl, ℕ, ◌-◌, ◌^◌, Bool, true, false, Option, Some, None, List, [], ◌∷◌, replicate, map}
use Rattle.emu_model.specs.Spans.{PortSpan}
use Rattle.emu_model.specs.declared.pipes.QueueLimit.TheVariants.{Slots, KBytes}
use Rattle.emu_model.specs.declared.sources.FlowSpec.{FlowSpec}
use Rattle.emu_model.specs.declared.sources.Timing.TheVariants.{Fixed}
use Rattle.emu_model.specs.Rules.{port_matches, counted_up, is_behind, default_rule}
use Rattle.emu_model.specs.FlowIds.{FlowId, new_instance, same_flow, protocol_number}
use Rattle.emu_model.specs.declared.packets.Protocol.TheVariants.{Tcp}
use Rattle.emu_model.specs.declared.pipes.Discipline.TheVariants.{ControlledDelay}
use Rattle.emu_model.specs.Pipes.{same_discipline}
use Rattle.emu_model.specs.Loss.{is_below_rate, stream_of}
use Rattle.emu_model.specs.DropTail.{Queued, accepts}
use Rattle.emu_model.specs.Codel.{Times, CodelState, initial_control, dodequeue, answer, while_dropping, initial_count, count_up, enter_drop_state, control_step, control_law, codel_dequeue, drop_first}
use Rattle.emu_model.specs.Reno.{Sender, initial_sender, initial_window, bounded, expire, is_new, round_trip, new_estimate, estimated_timeout, ack, emit, window_after, halved_ssthresh}

-- 256 instances a pipe: the 256th has the number 255, and there is no 257th
abbrev any_flow : FlowId
any_flow = record { proto = 0; src = 0; dst = 0; sport = 0; dport = 0 }

last_instance : new_instance (replicate 255 any_flow) ≡ Some 255
last_instance = refl

no_more_instances : new_instance (replicate 256 any_flow) ≡ None
no_more_instances = refl

-- streams of pipes stand 65536 apart
second_pipe : stream_of 2 3 ≡ 65539
second_pipe = refl

-- a word w is lost at rate 1/2 where w * 10^6 < 500000 * 2^32, that is below 2^31
below_half : is_below_rate 500000 (2 ^ 31 - 1) ≡ true
below_half = refl

at_half : is_below_rate 500000 (2 ^ 31) ≡ false
at_half = refl

-- a queue of 2 slots takes a second packet and no third
abbrev packet : ℕ → Queued ℕ
packet size = record { item = 0; size = size; stamp = 0 }

second_slot : accepts (Slots 2) (packet 40 ∷ []) 40 ≡ true
second_slot = refl

third_slot : accepts (Slots 2) (packet 40 ∷ packet 40 ∷ []) 40 ≡ false
third_slot = refl

-- one KByte holds 524 and 500 bytes, and not 524 and 501
whole_kbyte : accepts (KBytes 1) (packet 524 ∷ []) 500 ≡ true
whole_kbyte = refl

past_kbyte : accepts (KBytes 1) (packet 524 ∷ []) 501 ≡ false
past_kbyte = refl

-- CoDel with a target of 5 and an interval of 100: a sojourn of 5 isn't below the target, and 1500
-- bytes left behind the head are too few
abbrev times : Times
times = record { target = 5; interval = 100 }

abbrev left_behind : ℕ → List (Queued ℕ)
left_behind last = packet 1500 ∷ packet last ∷ []

abbrev above_since : ℕ → CodelState
above_since moment = record initial_control { first_above_time = moment }

-- whether a head may be dropped that was above since long ago
abbrev may_drop : ℕ → Queued ℕ → List (Queued ℕ) → Bool
may_drop now p rest = (dodequeue times now (above_since 1) (p ∷ rest)).ok_to_drop

short_stay : may_drop 4 (packet 40) (left_behind 40) ≡ false
short_stay = refl

long_stay : may_drop 5 (packet 40) (left_behind 40) ≡ true
long_stay = refl

one_packet_left : may_drop 5 (packet 40) (packet 1500 ∷ []) ≡ false
one_packet_left = refl

more_left : may_drop 5 (packet 40) (packet 1461 ∷ packet 40 ∷ []) ≡ true
more_left = refl

-- it may be dropped at first_above_time, and not 1 ns before
at_the_moment : (dodequeue times 105 (above_since 105) (packet 40 ∷ left_behind 40)).ok_to_drop ≡ true
at_the_moment = refl

before_the_moment : (dodequeue times 104 (above_since 105) (packet 40 ∷ left_behind 40)).ok_to_drop ≡ false
before_the_moment = refl

-- dropping begins at the last count, count - lastcount, below drop_next + 16 intervals = 1600 if
-- that is above 1; else at 1
abbrev dropped_before : ℕ → ℕ → CodelState
dropped_before count last = record initial_control { count = count; last_count = last }

soon_after : initial_count times 1599 (dropped_before 5 2) ≡ 3
soon_after = refl

long_after : initial_count times 1600 (dropped_before 5 2) ≡ 1
long_after = refl

barely_more : initial_count times 1599 (dropped_before 4 2) ≡ 2
barely_more = refl

-- counters stay at their greatest value
full_count : (count_up (record initial_control { count = 2 ^ 32 - 1 })).count ≡ 2 ^ 32 - 1
full_count = refl

nearly_full_count : (count_up (record initial_control { count = 2 ^ 32 - 2 })).count ≡ 2 ^ 32 - 1
nearly_full_count = refl

full_rule_counter : counted_up (2 ^ 64 - 1) 1500 ≡ 2 ^ 64 - 1
full_rule_counter = refl

-- ports 10-20 are those from 10 to 20
abbrev ten_to_twenty : Option PortSpan
ten_to_twenty = Some (record { first = 10; last = 20 })

ports : map (port_matches ten_to_twenty) (9 ∷ 10 ∷ 20 ∷ 21 ∷ []) ≡ false ∷ true ∷ true ∷ false ∷ []
ports = refl

-- a rule isn't behind its own place, and the next one added to its number is
not_behind_itself :
    is_behind (record { number = 65535; order = 0 }) default_rule ≡ false
not_behind_itself = refl

behind_the_one_before :
    is_behind (record { number = 65535; order = 0 }) (record default_rule { order = 1 }) ≡ true
behind_the_one_before = refl

-- RFC 5681, section 3.1: four segments up to 1095 bytes, three above
four_segments : initial_window 1095 ≡ 4380
four_segments = refl

three_segments : initial_window 1096 ≡ 3288
three_segments = refl

full_window : bounded (2 ^ 32) ≡ 2 ^ 32 - 1
full_window = refl

abbrev flow : FlowSpec
flow = record {
  src = 0;
  sport = 0;
  dst = 0;
  dport = 0;
  smss = 1000;
  segments = 20;
  ssthresh = 65535;
  rwnd = 65535;
  timing = Fixed 40000;
}

-- 40 s doubled are 60 s at most
longest_time : (expire flow 0 (initial_sender flow)).rto ≡ 60000000000
longest_time = refl

-- an acknowledgement of all that was sent is new, one of more is not
abbrev two_sent : Sender
two_sent = record (initial_sender flow) { snd_nxt = 2000; snd_max = 2000 }

all_acknowledged : is_new flow 2000 two_sent ≡ true
all_acknowledged = refl

not_sent_yet : is_new flow 3000 two_sent ≡ false
not_sent_yet = refl

part_of_a_segment : is_new flow 1500 two_sent ≡ false
part_of_a_segment = refl

-- a sample is complete where its end is acknowledged
completed : round_trip 700 1000 (Some (record { end = 1000; sent = 200 })) ≡ Some 500
completed = refl

incomplete : round_trip 700 999 (Some (record { end = 1000; sent = 200 })) ≡ None
incomplete = refl

-- RFC 6298, with quotients rounded down: SRTT = (7 * 10 + 15) / 8 = 10, and
-- RTTVAR = (3 * 6 + 5) / 4 = 5
rounded_down :
    new_estimate 15 (Some (record { srtt = 10; rttvar = 6 })) ≡ record { srtt = 10; rttvar = 5 }
rounded_down = refl

-- a round trip of 2 s without variance: 2 s and the granularity of 1 ns
steady :
    estimated_timeout (record { srtt = 2000000000; rttvar = 0 }) ≡ 2000000001
steady = refl

-- one of 70 s: 60 s at most
longest_estimate : estimated_timeout (record { srtt = 70000000000; rttvar = 0 }) ≡ 60000000000
longest_estimate = refl

-- new data clears what a loss left: RFC 5681, section 3.2, step 6, and the count of duplicates
abbrev troubled : Sender
troubled = record two_sent { duplicates = 2; backed_off = true; recovery = true; resend = true; timer = Some 500; cwnd = 4; ssthresh = 1 }

new_clears_duplicates : (ack flow 0 1000 troubled).duplicates ≡ 0
new_clears_duplicates = refl

new_clears_timed : (ack flow 0 1000 troubled).backed_off ≡ false
new_clears_timed = refl

-- an expiry ends recovery, and begins to count duplicates anew
expiry_clears_duplicates : (expire flow 0 troubled).duplicates ≡ 0
expiry_clears_duplicates = refl

expiry_clears_recovery : (expire flow 0 troubled).recovery ≡ false
expiry_clears_recovery = refl

-- a segment that is sent again leaves the timer that runs (RFC 6298, section 5.1)
resend_keeps_timer : (emit flow 7 troubled).timer ≡ Some 500
resend_keeps_timer = refl

-- congestion avoidance: 1 * 1 / 4 = 0, and a byte at least
one_byte_at_least : window_after (record flow { smss = 1 }) 1 (record two_sent { cwnd = 4; ssthresh = 1 }) ≡ 5
one_byte_at_least = refl

-- all that was sent is under way, also what is to be sent again: 8000 / 2
flight_to_top : halved_ssthresh flow (record two_sent { snd_nxt = 0; snd_max = 8000 }) ≡ 4000
flight_to_top = refl

-- half of an odd number of bytes is rounded down (RFC 5681, equation 4; our choice): 8001 / 2
odd_flight : halved_ssthresh flow (record two_sent { snd_nxt = 0; snd_max = 8001 }) ≡ 4000
odd_flight = refl

-- lastcount is the count that dropping begins with, 5 - 2
last_count_is_new : (enter_drop_state times 1599 (dropped_before 5 2)).last_count ≡ 3
last_count_is_new = refl

-- two drops at one dequeue: 200 + 100 / sqrt(2) = 270, 270 + 100 / sqrt(3) = 327
abbrev dropping_on : CodelState
dropping_on = record { first_above_time = 100; drop_next = 200; count = 1; last_count = 1; dropping = true }

two_at_once : (while_dropping 9 times 310 (answer (packet 1500) (replicate 4 (packet 1500)) true dropping_on)).control.drop_next ≡ 327
unfolding control_step
two_at_once = refl

-- another interval is another discipline
other_interval : same_discipline (ControlledDelay 5 100) (ControlledDelay 5 200) ≡ false
other_interval = refl

-- flows differ by one port or by the protocol alone; TCP has the number 6
other_port : same_flow any_flow (record any_flow { sport = 1 }) ≡ false
other_port = refl

other_protocol : same_flow any_flow (record any_flow { proto = 1 }) ≡ false
other_protocol = refl

tcp_number : protocol_number Tcp ≡ 6
tcp_number = refl

-- a head whose stay is short ends the dropping state
dropping_ends : (codel_dequeue times 310 dropping_on (packet 40 ∷ [])).control.dropping ≡ false
dropping_ends = refl

-- as dropping begins, the packet behind the one dropped is looked at: nothing is behind it
next_is_looked_at : (drop_first times 310 (answer (packet 1500) (packet 40 ∷ []) true dropping_on)).control.first_above_time ≡ 0
next_is_looked_at = refl

-- the control law with an interval of 100: 100 / sqrt(1) is 100, and 1 / sqrt(2) is rounded to 0
exact_step : control_law 100 7 1 ≡ 107
unfolding control_step
exact_step = refl

no_step : control_law 1 7 2 ≡ 7
unfolding control_step
no_step = refl

-- a packet that came at 3 has waited 4 at 7, which is short
since_its_stamp : may_drop 7 (record (packet 40) { stamp = 3 }) (left_behind 40) ≡ false
since_its_stamp = refl

-- a drop is due at drop_next itself: at 200 the count becomes 2
at_drop_next : (while_dropping 9 times 200 (answer (packet 1500) (replicate 4 (packet 1500)) true dropping_on)).control.count ≡ 2
unfolding control_step
at_drop_next = refl

-- behind a drop a head with too little behind it is given, ends dropping, and clears first_above_time
one_then_given : (while_dropping 9 times 310 (answer (packet 1500) (packet 40 ∷ []) true dropping_on)).dropped ≡ packet 1500 ∷ []
one_then_given = refl

given_ends_dropping :
    (while_dropping 9 times 310 (answer (packet 1500) (packet 40 ∷ []) true dropping_on)).control.dropping ≡ false
given_ends_dropping = refl

given_clears_above :
    (while_dropping 9 times 310 (answer (packet 1500) (packet 40 ∷ []) true dropping_on)).control.first_above_time ≡ 0
given_clears_above = refl

-- so does an empty queue
empty_ends_dropping : (codel_dequeue {A = ℕ} times 310 dropping_on []).control.dropping ≡ false
empty_ends_dropping = refl

empty_clears_above : (codel_dequeue {A = ℕ} times 310 dropping_on []).control.first_above_time ≡ 0
empty_clears_above = refl

-- 16 intervals from drop_next on: 50 + 1600
after_drop_next : initial_count times 1649 (record (dropped_before 5 2) { drop_next = 50 }) ≡ 3
after_drop_next = refl

-- dropping that begins again with a count of 6 - 2 has its next drop after 100 / sqrt(4)
begins_with_four : (enter_drop_state times 1000 (dropped_before 6 2)).count ≡ 4
begins_with_four = refl

next_of_four : (enter_drop_state times 1000 (dropped_before 6 2)).drop_next ≡ 1050
unfolding control_step
next_of_four = refl
