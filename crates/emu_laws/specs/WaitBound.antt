-- Waiting is bounded: a packet that is not dropped finishes within the transmission times of the packet in
-- service and of all that wait with it.
use Rattle.std.specs.Prelude.{ℕ, ◌+◌, ◌≤◌, sum, List}
use Rattle.std.specs.List.{AllByRecursion}
use Rattle.emu_model.specs.Rate.{finish_at, finishes}
use Rattle.emu_laws.specs.PipeDelay.{transmission}

-- the transmission times of the packet in service and of all waiting bytes, counted from now
abbrev pub latest_finish : ℕ → ℕ → ℕ → ℕ → ℕ
latest_finish bw now size bytes = now + transmission bw size + transmission bw bytes

-- a packet of `size` bytes is in service at `now`, begun when `sum_before` bytes of the busy period had finished, and packets of these sizes
-- wait, the last of which arrived at `now`; if none is dropped and no `config` ends the period, each finishes by `latest_finish`
abbrev pub WaitIsBounded : Type 0
WaitIsBounded = (bw start sum_before now size bytes : ℕ) (sizes : List ℕ) → finish_at bw start sum_before ≤ now →
    sum sizes ≤ bytes →
    AllByRecursion (λ f. f ≤ latest_finish bw now size bytes)
    (finishes bw start (sum_before + size) sizes)
