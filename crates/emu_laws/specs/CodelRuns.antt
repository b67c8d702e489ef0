-- Two runs of CoDel: 30 and 40 packets of 1000 bytes arrive at once at a pipe of 1 Mbit/s, which takes 8 ms for each, with a target of 5 ms
-- and an interval of 100 ms. At 112 ms packet 14 was dropped, and the next drop was set to 212 ms (RFC 8289, section 5.5).
use Rattle.std.specs.Prelude.{◌≡◌, ℕ, zero, suc, ◌+◌, true, false, List, [], ◌∷◌}
use Rattle.emu_model.specs.Moments.{milliseconds}
use Rattle.emu_model.specs.DropTail.{Queued}
use Rattle.emu_model.specs.Codel.{Times, CodelState, codel_dequeue}

abbrev pub times : Times
times = record { target = milliseconds 5; interval = milliseconds 100 }

-- n packets numbered from `first` on, all of which arrived at 0
abbrev pub packets : ℕ → ℕ → List (Queued ℕ)
packets first zero = []
packets first (suc n) = record { item = first; size = 1000; stamp = 0 } ∷ packets (first + 1) n

abbrev pub once_dropped : CodelState
once_dropped = record {
  first_above_time = milliseconds 108;
  drop_next = milliseconds 212;
  count = 1;
  last_count = 0;
  dropping = true;
}

-- at 216 ms packets from 28 on wait: two of the 30, so dropping ends; twelve of the 40, so packet 28 is dropped, and the next drop is set
-- to 212 ms + 100 ms / sqrt(2). At 288 ms two of the 40 are left, so dropping ends.
pub record DroppingEndsInTime : Type 0 where
  pub of_30 : (codel_dequeue times (milliseconds 216) once_dropped (packets 28 2)).control.dropping ≡ false
  pub of_40 : (codel_dequeue times (milliseconds 216) once_dropped (packets 28 12)).control.dropping ≡ true
  pub next_drop : (codel_dequeue times (milliseconds 216) once_dropped (packets 28 12)).control.drop_next ≡ 282710678
  pub end_of_40 :
      let c = (codel_dequeue times (milliseconds 216) once_dropped (packets 28 12)).control in
      (codel_dequeue times (milliseconds 288) c (packets 38 2)).control.dropping ≡ false
