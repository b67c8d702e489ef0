-- Laws about the times of dues (our choice), over the definitions alone.
use Rattle.std.specs.Prelude.{ℕ, ◌^◌, ◌≤◌, List, [], ◌∷◌}
use Rattle.std.specs.List.{AllByRecursion}
use Rattle.emu_model.specs.Moments.{IsMoment}
use Rattle.emu_model.specs.Types.{Spec, Timed, Timing, Fixed, Adaptive, Command, Config, Inject, Train, Flow}
use Rattle.emu_model.specs.Dues.{dues_of}
use Rattle.emu_model.specs.Step.{State}
use Rattle.emu_model.specs.Alone.{alone}

-- commands whose times are at least `low` and never decrease
abbrev pub AreRising : ℕ → List Timed → Type 0
AreRising low [] = Unit {0}
AreRising low (c ∷ cs) = (low ≤ c.moment) × AreRising c.moment cs

-- the times of the commands left never decrease, and neither they nor the times of dues are before the last event
abbrev pub IsAhead : State → Type 0
IsAhead s =
    AreRising s.clock s.left × AllByRecursion (λ d. s.clock ≤ d.moment) (dues_of s.clock s.net)

-- if the times of the commands never decrease, nothing is due before the time of the last event
abbrev pub DuesStayAhead : Type 0
DuesStayAhead = (spec : Spec) (c : List Timed) (n : ℕ) → AreRising 0 c → IsAhead (alone spec c n)

-- a fixed retransmission timeout of at most 60000 milliseconds
abbrev pub IsTimingInRange : Timing → Type 0
IsTimingInRange (Fixed ms) = ms ≤ 60000
IsTimingInRange Adaptive = Unit {0}

-- the ranges that the type of a command guarantees, as far as the next law needs them: a delay in milliseconds, sizes in
-- bytes, a gap in nanoseconds
abbrev pub IsInRange : Command → Type 0
IsInRange (Config k config) = (1 ≤ k) × (config.delay ≤ 60000)
IsInRange (Inject send) = send.size ≤ 1500
IsInRange (Train k t) = (t.packet.size ≤ 1500) × (t.gap ≤ 10 ^ 12)
IsInRange (Flow k f) = (f.smss ≤ 1460) × IsTimingInRange f.timing
IsInRange _ = Unit {0}

-- a command in range, at 10 ^ 15 ns at the latest
abbrev pub IsEarly : Timed → Type 0
IsEarly c = (c.moment ≤ 10 ^ 15) × IsInRange c.command

-- the last event is at 10 ^ 15 ns at the latest, and every due is before twice that time
abbrev pub IsBelow : State → Type 0
IsBelow s =
    (s.clock ≤ 10 ^ 15) × AllByRecursion (λ d. IsMoment d.moment) (dues_of s.clock s.net)

-- if all commands are in range and early, and their times never decrease, all dues are before 2 * 10 ^ 15 ns
abbrev pub DuesStayBelow : Type 0
DuesStayBelow = (spec : Spec) (c : List Timed) (n : ℕ) → AreRising 0 c → AllByRecursion IsEarly c →
    IsBelow (alone spec c n)
