-- What is likely not meant in a command by itself.
use Rattle.std.specs.Prelude.{ℕ, ◌+◌, ◌-◌, ◌*◌, min, Bool, true, false, ◌&&◌, nat_lt, nat_le, if◌then◌else◌, List, [], ◌∷◌, ◌++◌, Option, Some, None}
use Rattle.std.specs.List.{list_any}
use Rattle.emu_model.specs.declared.commands.Command.{Command}
use Rattle.emu_model.specs.declared.commands.Command.TheVariants.{Inject, Train, Flow, Config}
use Rattle.emu_model.specs.declared.commands.Timed.{Timed}
use Rattle.emu_model.specs.declared.pipes.PipeConfig.{PipeConfig}
use Rattle.emu_model.specs.declared.sources.TrainSpec.{TrainSpec}
use Rattle.emu_model.specs.declared.sources.FlowSpec.{FlowSpec}
use Rattle.explain.specs.declared.doubt.Doubt.{Doubt}
use Rattle.explain.specs.declared.doubt.Doubt.TheVariants.{EarlyMoment, ShortGap, CutTrain, LowRate, LongDelay, SmallWindow}
use Rattle.explain.specs.declared.doubt.Doubtful.{Doubtful}
use Rattle.explain.specs.Survey.{last_moment}

abbrev pub sends : Command → Bool
sends (Inject s) = true
sends (Train n t) = true
sends (Flow n f) = true
sends _ = false

abbrev pub has_sender : List Timed → Bool
has_sender cs = list_any (λ c. sends c.command) cs

-- 10 to 999 ns, where the experiment has a millisecond or more
abbrev pub early : ℕ → ℕ → Option Doubt
early m end = if nat_le 10 m && nat_lt m 1000 && nat_le 1000000 end then Some (EarlyMoment m) else None

-- the moment at which the last packet of a train is due
abbrev pub last_due : TrainSpec → ℕ → ℕ
last_due t m = min (m + t.gap * (t.count - 1)) 18446744073709551615

-- a gap in which not even 10 Gbit/s, the most that a pipe has, carry a packet; or a train that the end cuts off
abbrev pub of_train : TrainSpec → ℕ → ℕ → Option Doubt
of_train t m end =
    if nat_lt 0 (t.count - 1) && nat_lt 0 t.gap && nat_lt (5 * t.gap) (4 * t.packet.size) then Some (ShortGap t.gap)
    else (if nat_le end (last_due t m) then Some (CutTrain (last_due t m) end) else None)

-- a rate below 1000 bit/s; or a delay as long as the experiment, where something is sent
abbrev pub of_config : PipeConfig → ℕ → Bool → Option Doubt
of_config c end is_used =
    if nat_lt 0 c.bw && nat_lt c.bw 1000 then Some (LowRate c.bw)
    else (if is_used && nat_lt 0 (c.delay * 1000000) && nat_le end (c.delay * 1000000) then Some (LongDelay (c.delay * 1000000) end) else None)

abbrev pub of_flow : FlowSpec → Option Doubt
of_flow f = if nat_lt f.rwnd f.smss then Some (SmallWindow f.rwnd f.smss) else None

abbrev pub doubt_in_command : Command → ℕ → ℕ → Bool → Option Doubt
doubt_in_command (Train n t) m end is_used = of_train t m end
doubt_in_command (Config n c) m end is_used = of_config c end is_used
doubt_in_command (Flow n f) m end is_used = of_flow f
doubt_in_command _ m end is_used = None

abbrev pub doubt_in : Timed → ℕ → Bool → Option Doubt
doubt_in c end is_used = doubt_in_command c.command c.moment end is_used

abbrev pub doubts_at : ℕ → Option Doubt → List Doubtful
doubts_at k None = []
doubts_at k (Some doubt) = record { command = k; doubt = doubt } ∷ []

-- from command k on
abbrev pub likely_from : ℕ → Bool → ℕ → List Timed → List Doubtful
likely_from end is_used k [] = []
likely_from end is_used k (c ∷ cs) = doubts_at k (early c.moment end) ++ doubts_at k (doubt_in c end is_used) ++ likely_from end is_used (k + 1) cs

abbrev pub likely : List Timed → List Doubtful
likely cs = likely_from (last_moment cs) (has_sender cs) 0 cs
