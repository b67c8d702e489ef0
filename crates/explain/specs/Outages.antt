-- Rates that end before one packet is sent.
use Rattle.std.specs.Prelude.{ℕ, ◌+◌, ◌-◌, ◌*◌, ◌/◌, min, max, ◌==◌, nat_le, if◌then◌else◌, List, [], ◌∷◌, ◌++◌, take, Option, Some, None, slice_index_or, ◌||◌}
use Rattle.emu_model.specs.declared.commands.Command.{Command}
use Rattle.emu_model.specs.declared.commands.Command.TheVariants.{Inject, Train, Flow, Config, PipeDelete}
use Rattle.emu_model.specs.declared.commands.Timed.{Timed}
use Rattle.explain.specs.declared.doubt.Doubt.{Doubt}
use Rattle.explain.specs.declared.doubt.Doubt.TheVariants.{Outage}
use Rattle.explain.specs.declared.doubt.Doubtful.{Doubtful}
use Rattle.explain.specs.declared.outages.Held.{Held}
use Rattle.explain.specs.Likely.{doubts_at}

-- the bytes of a packet that a command sends; a flow's segments have 40 bytes of headers
abbrev pub size_of : Command → ℕ
size_of (Inject s) = s.size
size_of (Train n t) = t.packet.size
size_of (Flow n f) = f.smss + 40
size_of _ = 0

-- the largest, if those before have this many
abbrev pub largest_from : ℕ → List Timed → ℕ
largest_from n [] = n
largest_from n (c ∷ cs) = largest_from (max n (size_of c.command)) cs

abbrev pub largest : List Timed → ℕ
largest cs = largest_from 0 cs

-- by a list with an entry for each pipe, by number
abbrev pub held_in : List (Option Held) → ℕ → Option Held
held_in rates n = slice_index_or rates n None

-- a rate that a configuration sets; one that is the same goes on
abbrev pub continued : Option Held → Held → Held
continued None new = new
continued (Some old) new = if old.rate == new.rate then old else new

-- the rate of pipe n after command k, if it was this before
abbrev pub held_after : ℕ → ℕ → ℕ → Command → Option Held → Option Held
held_after n k m (Config pipe c) h = if pipe == n then Some (continued h (record { pipe = pipe; command = k; moment = m; rate = c.bw })) else h
held_after n k m (PipeDelete pipe) h = if pipe == n then None else h
held_after n k m _ h = h

abbrev pub held_by : ℕ → ℕ → Timed → Option Held → Option Held
held_by n k c h = held_after n k c.moment c.command h

-- after commands, of which the first is command k
unfoldable pub held_from : ℕ → ℕ → Option Held → List Timed → Option Held
held_from n k h [] = h
held_from n k h (c ∷ cs) = held_from n (k + 1) (held_by n k c h) cs

abbrev pub held : List Timed → ℕ → Option Held
held cs n = held_from n 0 None cs

-- the time that a packet of this size takes, in ns
abbrev pub time_of : ℕ → ℕ → ℕ
time_of size rate = min (size * 8000000000) 18446744073709551615 / rate

-- a rate that ends at this moment lasts for less time than a packet takes
abbrev pub outage_of : ℕ → ℕ → Held → Option Doubt
outage_of size moment h =
    if h.rate == 0 || nat_le moment h.moment then None
    else (if nat_le (time_of size h.rate) (moment - h.moment) then None
    else Some (Outage h.pipe size (time_of size h.rate) (moment - h.moment)))

abbrev pub outage_in : ℕ → ℕ → Option Held → List Doubtful
outage_in size moment None = []
outage_in size moment (Some h) = doubts_at h.command (outage_of size moment h)

-- the rate that another one ends
abbrev pub other_than : ℕ → Option Held → Option Held
other_than rate None = None
other_than rate (Some h) = if h.rate == rate then None else Some h

-- the rate that a command ends, by the rates of pipes before it
abbrev pub ended_by : (ℕ → Option Held) → Command → Option Held
ended_by before (Config pipe c) = other_than c.bw (before pipe)
ended_by before _ = None

abbrev pub outages_from : ℕ → List Timed → ℕ → List Timed → List Doubtful
outages_from size all k [] = []
outages_from size all k (c ∷ cs) = outage_in size c.moment (ended_by (held (take k all)) c.command) ++ outages_from size all (k + 1) cs

abbrev pub outages : List Timed → List Doubtful
outages cs = outages_from (largest cs) cs 0 cs
