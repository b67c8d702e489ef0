-- A packet that is delivered has waited for the delay of each pipe in which it finished (ipfw(8), delay; the minimum of 1 ns
-- is our choice), in the records of a whole run.
use Rattle.std.specs.Prelude.{◌≡◌, ℕ, ◌+◌, ◌≤◌, max, List}
use Rattle.std.specs.List.{AllByRecursion}
use Rattle.emu_model.specs.declared.records.Record.{Record}
use Rattle.emu_model.specs.declared.records.Record.TheVariants.{PacketFinished, PacketDelivered}
use Rattle.emu_model.specs.declared.commands.Spec.{Spec}
use Rattle.emu_model.specs.declared.commands.Timed.{Timed}
use Rattle.emu_model.specs.declared.commands.Command.{Command}
use Rattle.emu_model.specs.declared.commands.Command.TheVariants.{Config}
use Rattle.emu_model.specs.Moments.{milliseconds}
use Rattle.emu_model.specs.RunLaws.{ConfiguresPipe}
use Rattle.emu_model.specs.DueLaws.{AreRising}
use Rattle.emu_model.specs.Alone.{alone}

-- a command that, if it configures the pipe, gives it a delay of at least `delay` milliseconds
abbrev pub DelaysPipe : ℕ → ℕ → Command → Type 0
DelaysPipe pipe delay (Config k config) = k ≡ pipe → delay ≤ config.delay
DelaysPipe pipe delay _ = Unit {0}

-- if a record is a delivery of the packet, it is at `moment` or later
abbrev pub DeliversFrom : ℕ → ℕ → Record → Type 0
DeliversFrom moment packet (PacketDelivered at number load) = number ≡ packet → moment ≤ at
DeliversFrom moment packet _ = Unit {0}

-- if a record is the finish of a packet in the pipe, the packet is delivered no sooner than `time` ns after it
abbrev pub WaitsInPipe : ℕ → ℕ → List Record → Record → Type 0
WaitsInPipe pipe time records (PacketFinished at number p k) =
    p ≡ pipe → AllByRecursion (DeliversFrom (at + time) number) records
WaitsInPipe pipe time records _ = Unit {0}

-- the minimum time in a delay line, in ns: a delay of this many milliseconds, but at least 1 ns
abbrev pub least_delay : ℕ → ℕ
least_delay delay = max (milliseconds delay) 1

-- if the times of the commands never decrease, and each command that configures a pipe gives it at least `delay` milliseconds, each
-- `deliver` line of a packet is no sooner than the delay after each of its `finish` lines in the pipe
abbrev pub DeliveriesWait : Type 0
DeliveriesWait = (spec : Spec) (c : List Timed) (n pipe delay : ℕ) → AreRising 0 c →
    AllByRecursion (λ t. ConfiguresPipe t.command) c → AllByRecursion (λ t. DelaysPipe pipe delay t.command) c →
    let records = (alone spec c n).net.records in
    AllByRecursion (WaitsInPipe pipe (least_delay delay) records) records
