-- Times, in whole nanoseconds (our choice).
use Rattle.std.specs.Prelude.{ℕ, ◌*◌, ◌^◌, ◌<◌}

-- milliseconds as nanoseconds
abbrev pub milliseconds : ℕ → ℕ
milliseconds ms = ms * 10 ^ 6

-- the exclusive bound of all times: commands are at 10 ^ 15 ns at the latest, and everything else is due before twice that time
abbrev pub end_of_time : ℕ
end_of_time = 2 * 10 ^ 15

abbrev pub IsMoment : ℕ → Type 0
IsMoment now = now < end_of_time
