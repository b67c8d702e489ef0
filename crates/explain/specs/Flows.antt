-- What records say of flows that is likely not meant.
use Rattle.std.specs.Prelude.{ℕ, ◌-◌, ◌*◌, ◌/◌, min, Bool, ◌||◌, ◌==◌, nat_lt, nat_le, if◌then◌else◌, List, [], ◌++◌, flat_map, Option, Some, None}
use Rattle.explain.specs.declared.watch.Watch.{Watch}
use Rattle.explain.specs.declared.doubt.Doubt.{Doubt}
use Rattle.explain.specs.declared.doubt.Doubt.TheVariants.{Unfinished, WindowLimited}
use Rattle.explain.specs.declared.doubt.Doubtful.{Doubtful}
use Rattle.explain.specs.Likely.{doubts_at}

abbrev pub bytes_of : Watch → ℕ
bytes_of w = min (w.segments * w.smss) 18446744073709551615

-- not all is acknowledged, of a flow that has an end and wasn't stopped
abbrev pub unfinished : Bool → Watch → Option Doubt
unfinished is_spent w =
    if is_spent || w.is_stopped || w.segments == 1000000 || nat_le (bytes_of w) w.acked then None
    else Some (Unfinished w.acked (bytes_of w))

abbrev pub percents : Watch → ℕ
percents w = min (w.held * 100) 18446744073709551615

-- its window held it back for 1 % of its time or more
abbrev pub limited : Watch → Option Doubt
limited w =
    if (w.last - w.begin) == 0 || nat_lt (percents w) (w.last - w.begin) then None
    else Some (WindowLimited w.window (percents w / (w.last - w.begin)))

abbrev pub of_watch : Bool → Option Watch → List Doubtful
of_watch is_spent None = []
of_watch is_spent (Some w) = doubts_at w.command (unfinished is_spent w) ++ doubts_at w.command (limited w)

abbrev pub of_flows : Bool → List (Option Watch) → List Doubtful
of_flows is_spent ws = flat_map (of_watch is_spent) ws
