-- CodelSteps: CoDel's state in the runs of CodelOneDrop and CodelTwoDrops, each number worked out by hand. A packet takes
-- 8 ms; all come at 0, and the first is served at once. At 8 ms packet 1 has waited for more than 5 ms with more than
-- 1500 bytes behind it, so first_above_time is 108 ms, and at 112 ms packet 14 is dropped; the next drop is at
-- 112 + 100 ms.
use Rattle.std.specs.Prelude.{◌≡◌, refl, ℕ, true, false, List, [], ◌∷◌, map, flat_map}
use Rattle.emu_model.specs.declared.commands.Timed.{Timed}
use Rattle.emu_model.specs.DropTail.{bytes_of}
use Rattle.emu_model.specs.Codel.{CodelState}
use Rattle.emu_model.specs.Step.{State}
use Rattle.emu_laws.proofs.Words.{Add, AnyProtocol, Config, ControlledDelay, End, Pipe, Slots, Train, Udp, alone, control_step}
use Rattle.emu_laws.proofs.Makings.{at, packet, pipe_with, rule_for_all, spec, train, unmasked}

-- the moment, and of each instance CoDel's state and the bytes that wait
record Seen : Type 0 where
  moment : ℕ
  controls : List CodelState
  bytes : List ℕ

abbrev seen : State → Seen
seen s = record {
  moment = s.clock;
  controls = flat_map (λ p. map (λ i. i.control) p.instances) s.net.pipes;
  bytes = flat_map (λ p. map (λ i. bytes_of i.waiting) p.instances) s.net.pipes;
}

-- so many packets at once, into a queue under CoDel with 5 and 100 ms
abbrev commands : ℕ → List Timed
commands count =
    at 0 (Config 1 (pipe_with 1000000 0 (Slots 50) 0 unmasked (ControlledDelay 5000000 100000000))) ∷
    at 0 (Add (rule_for_all 100 (Pipe 1) AnyProtocol)) ∷
    at 0 (Train 1 (train (packet Udp 167772161 1000 167772162 2000 1000) count 0)) ∷
    at 400000000 End ∷
    []

-- the state after so many steps with thirty packets: three commands and thirty emissions, then a finish and a delivery for
-- each packet, so that the finish at 8 * n ms is step 32 + 2 * n
abbrev of_thirty : ℕ → Seen
of_thirty steps = seen (alone (spec 0 64 1000000) (commands 30) steps)

-- with forty it is step 42 + 2 * n
abbrev of_forty : ℕ → Seen
of_forty steps = seen (alone (spec 0 64 1000000) (commands 40) steps)

dropping_begins : of_thirty 60 ≡ record {
  moment = 112000000;
  controls = record {
    first_above_time = 108000000;
    drop_next = 212000000;
    count = 1;
    last_count = 1;
    dropping = true;
  } ∷ [];
  bytes = 14000 ∷ [];
}
unfolding control_step
dropping_begins = refl

-- at 208 ms 2000 bytes are left, and the next drop isn't due
dropping_goes_on : of_thirty 84 ≡ record {
  moment = 208000000;
  controls = record {
    first_above_time = 108000000;
    drop_next = 212000000;
    count = 1;
    last_count = 1;
    dropping = true;
  } ∷ [];
  bytes = 2000 ∷ [];
}
unfolding control_step
dropping_goes_on = refl

-- at 216 ms packet 28 may not be dropped, since 1000 bytes are left
dropping_ends : of_thirty 86 ≡ record {
  moment = 216000000;
  controls = record {
    first_above_time = 0;
    drop_next = 212000000;
    count = 1;
    last_count = 1;
    dropping = false;
  } ∷ [];
  bytes = 1000 ∷ [];
}
unfolding control_step
dropping_ends = refl

-- there packet 28 is dropped with forty packets; 100 ms over the root of 2 are 70710678.1 ns, rounded down, so that the
-- next drop is at 282710678
second_drop : of_forty 96 ≡ record {
  moment = 216000000;
  controls = record {
    first_above_time = 108000000;
    drop_next = 282710678;
    count = 2;
    last_count = 1;
    dropping = true;
  } ∷ [];
  bytes = 10000 ∷ [];
}
unfolding control_step
second_drop = refl

-- the first finish from then on is at 288 ms, where packet 38 may not be dropped
dropping_ends_of_forty : of_forty 114 ≡ record {
  moment = 288000000;
  controls = record {
    first_above_time = 0;
    drop_next = 282710678;
    count = 2;
    last_count = 1;
    dropping = false;
  } ∷ [];
  bytes = 1000 ∷ [];
}
unfolding control_step
dropping_ends_of_forty = refl
