-- CoDel drops a packet only if the control of RFC 8289 (sections 5.5 and 5.6) allows it.
use Rattle.std.specs.Prelude.{◌≡◌, ℕ, ◌+◌, ◌-◌, ◌<◌, ◌≤◌, true, ◌⊎◌, Some, List, [], ◌∷◌, length}
use Rattle.emu_model.specs.declared.packets.Packet.{Packet}
use Rattle.emu_model.specs.DropTail.{Queued, bytes_of}
use Rattle.emu_model.specs.Codel.{Times, CodelState, initial_control, maxpacket, codel_dequeue}

-- the minimum sojourn time of a packet that is dropped; more than `most_left` bytes wait after it
abbrev pub least_sojourn : Times → ℕ
least_sojourn times = times.target

abbrev pub most_left : ℕ
most_left = maxpacket

-- a packet that may be dropped: its sojourn time is at least the target, more than a maximum packet waits after it, the time that was set
-- when the sojourn time went above the target has come, and in the dropping state so has the time of the next drop
pub record MayBeDropped (times : Times) (now : ℕ) (c : CodelState) (w : Queued Packet) (behind : List (Queued Packet)) : Type 0 where
  pub late : least_sojourn times ≤ now - w.stamp
  pub more_waits : most_left < bytes_of behind
  pub went_above : 0 < c.first_above_time
  pub stayed_above : c.first_above_time ≤ now
  pub due : c.dropping ≡ true → c.drop_next ≤ now

-- the dropped packets are the first of those that waited, and each of them may be dropped
abbrev pub EachMayBe : Times → ℕ → CodelState → List (Queued Packet) → List (Queued Packet) → Type 0
EachMayBe times now c [] ws = Unit {0}
EachMayBe times now c (d ∷ ds) [] = ⊥
EachMayBe times now c (d ∷ ds) (w ∷ behind) =
    (d ≡ w) × MayBeDropped times now c w behind × EachMayBe times now c ds behind

abbrev pub CodelDropsByControl : Type 0
CodelDropsByControl = (times : Times) (now : ℕ) (c : CodelState) (ws : List (Queued Packet)) →
    EachMayBe times now c (codel_dequeue times now c ws).dropped ws

-- a dequeue: its time, and the packets that wait
pub record Taking : Type 0 where
  pub moment : ℕ
  pub waiting : List (Queued Packet)

-- CoDel's state after these dequeues, the latest of which is first in the list
abbrev pub control_after : Times → List Taking → CodelState
control_after times [] = initial_control
control_after times (x ∷ earlier) = (codel_dequeue times x.moment (control_after times earlier) x.waiting).control

-- a dequeue that passes on a packet whose sojourn time is at least the target
pub record GivesLate (times : Times) (c : CodelState) (x : Taking) : Type 0 where
  pub packet : Queued Packet
  pub given : (codel_dequeue times x.moment c x.waiting).given ≡ Some packet
  pub late : times.target ≤ x.moment - packet.stamp

-- each dequeue from the one at `start` on passes on such a packet
abbrev pub LateSince : Times → ℕ → List Taking → Type 0
LateSince times start [] = ⊥
LateSince times start (x ∷ earlier) =
    GivesLate times (control_after times earlier) x × ((x.moment ≡ start) ⊎ LateSince times start earlier)

abbrev pub least_time : Times → ℕ
least_time times = times.interval

-- each dequeue since a time at least an interval ago passed on such a packet
pub record IsLateForInterval (times : Times) (now : ℕ) (xs : List Taking) : Type 0 where
  pub start : ℕ
  pub interval : start + least_time times ≤ now
  pub since : LateSince times start xs

-- CoDel drops a packet only in that case
abbrev pub DropsAfterInterval : Type 0
DropsAfterInterval = (times : Times) (now : ℕ) (xs : List Taking) (ws : List (Queued Packet)) →
    0 < length (codel_dequeue times now (control_after times xs) ws).dropped → IsLateForInterval times now xs
