-- The control law's whole number: the bounds of a search for it, and that there is only one.
use Rattle.std.proofs.Common.{inl, inr, ◌≡◌, ℕ, ◌+◌, ◌*◌, ◌^◌, ◌≤◌, ◌<◌, arith}
use Rattle.std.specs.Prelude.{◌⊎◌}
use Rattle.std.proofs.lemmas.Nat.{mul-le}
use Rattle.emu_model.specs.Codel.{control_step, IsControlStep}
use Rattle.emu_model.proofs.CallerLemmas.{control_step_is}

-- `fitting` fits, and what is as large as `above` doesn't
pub record IsBetween (interval count fitting above : ℕ) : Type 0 where
  pub apart : fitting < above
  pub near : above ≤ interval + 1
  pub fits : fitting * fitting * count ≤ interval * interval
  pub below : (e : ℕ) → e * e * count ≤ interval * interval → e < above

split : (a b : ℕ) → (a < b) ⊎ (b ≤ a)
split a b = grind arith

-- what fits is no larger than the interval
small_root : (interval count e : ℕ) → 1 ≤ count → e * e * count ≤ interval * interval → e ≤ interval
small_root interval count e some g = go (split interval e)
  where
    go : (interval < e) ⊎ (e ≤ interval) → e ≤ interval
    go (inr p) = p
    go (inl p) =
        let square : (interval + 1) * (interval + 1) ≤ e * e =
        mul-le (interval + 1) (interval + 1) e e (omega arith) (omega arith) in
        let least : e * e * 1 ≤ e * e * count = mul-le (e * e) 1 (e * e) count (omega arith) some in
        absurd (omega arith)

pub IsBetween-all : (interval count : ℕ) → 1 ≤ count → IsBetween interval count 0 (interval + 1)
IsBetween-all interval count some = record {
  apart = omega arith;
  near = omega arith;
  fits = omega arith;
  below = λ e g. omega (arith, small_root interval count e some g);
}

-- what is larger than one that doesn't fit doesn't fit
pub below_unfit : (interval count middle e : ℕ) → interval * interval < middle * middle * count →
    e * e * count ≤ interval * interval → e < middle
below_unfit interval count middle e unfit g = go (split e middle)
  where
    go : (e < middle) ⊎ (middle ≤ e) → e < middle
    go (inl p) = p
    go (inr p) =
        let square : middle * middle ≤ e * e = mul-le middle middle e e p p in
        let cost : middle * middle * count ≤ e * e * count =
        mul-le (middle * middle) count (e * e) count square (omega arith) in
        absurd (omega arith)

-- there is one greatest
pub control_step-is : (interval count d : ℕ) → interval < 2 ^ 36 → 1 ≤ count →
    IsControlStep interval count d → d ≡ control_step interval count
control_step-is interval count d small some h =
    let k : IsControlStep interval count (control_step interval count) =
    control_step_is interval count small some in
    omega (arith, h.greatest (control_step interval count) k.fits, k.greatest d h.fits)
