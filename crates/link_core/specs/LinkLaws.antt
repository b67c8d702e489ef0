-- Laws of a link in its own terms (our choice), over the definitions alone.
use Rattle.std.specs.Prelude.{◌≡◌, ℕ, ◌+◌, ◌-◌, ◌*◌, ◌^◌, ◌<◌, ◌≤◌}
use Rattle.emu_model.specs.Rate.{Period, begin, follow, cut_period, finish_at}

-- a busy period takes as long as its bytes take at the rate, rounded up by less than a nanosecond
abbrev pub PeriodsAreRoundedOnce : Type 0
PeriodsAreRoundedOnce = (bw start sum : ℕ) → 0 < bw →
    let taken = finish_at bw start sum - start in
    (8 * 10 ^ 9 * sum ≤ taken * bw) × (taken * bw < 8 * 10 ^ 9 * sum + bw)

-- after a configuration the packet in service keeps its finish, and the next packet begins a busy period there
abbrev pub ConfigurationBeginsAnew : Type 0
ConfigurationBeginsAnew = (bw size : ℕ) (p : Period) →
    ((cut_period p).finish ≡ p.finish) × (follow bw size (cut_period p) ≡ begin bw p.finish size)
