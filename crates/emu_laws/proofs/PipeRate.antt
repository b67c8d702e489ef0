-- What finishes in a stretch of a busy period: what came before the first finish in it is known from below, and
-- what came before the last one from above.
use Rattle.std.proofs.Common.{◌≡◌, ◌⊎◌, inl, inr, ℕ, zero, suc, ◌+◌, ◌-◌, ◌*◌, ◌/◌, ◌%◌, ◌^◌, ◌<◌, ◌≤◌, List, [], ◌∷◌, Bool, true, false, refl, ap, arith}
use Rattle.std.specs.Prelude.{if◌then◌else◌, ◌&&◌, nat_le}
use Rattle.std.specs.List.{AllByRecursion}
use Rattle.std.proofs.Math.Nat.{mul-le-mul_right, mod-lt}
use Rattle.std.proofs.lemmas.Nat.{div-add-mod'}
use Rattle.std.proofs.lemmas.Bool.{leb-true, and_parts}
use Rattle.emu_model.specs.Rate.{div_ceil, finish_at, finishes}
use Rattle.emu_laws.specs.PipeRate.{bytes_between, RateIsKept}

-- rounded up, a quotient covers what is divided, and by less than one more
pub record Covers (n d q : ℕ) : Type 0 where
  pub enough : n ≤ q * suc d
  pub close : q * suc d < n + suc d

pub covers : (n d : ℕ) → Covers n d (div_ceil n (suc d))
covers n d =
    let m : ℕ = n + (suc d - 1) in
    let parts : m / suc d * suc d + m % suc d ≡ m = div-add-mod' m (suc d) in
    let rest : m % suc d < suc d = mod-lt m {m = suc d} (omega arith) in
    record { enough = omega (arith, parts, rest); close = omega (arith, parts, rest) }

-- by a moment no more bits have finished than the rate allows since the start
by : (bw start sum f to : ℕ) → f ≡ finish_at (suc bw) start sum → f ≤ to →
    8 * 10 ^ 9 * sum + start * suc bw ≤ to * suc bw
by bw start sum f to e h =
    let q : ℕ = div_ceil (8 * 10 ^ 9 * sum) (suc bw) in
    let c : Covers (8 * 10 ^ 9 * sum) bw q = covers (8 * 10 ^ 9 * sum) bw in
    let whole : (start + q) * suc bw ≡ start * suc bw + q * suc bw = omega arith in
    let late : (start + q) * suc bw ≤ to * suc bw =
    mul-le-mul_right {m = start + q} {n = to} (suc bw) (omega (arith, e, h)) in
    omega (arith, c.enough, whole, late)

-- and from a finish on, hardly fewer
since : (bw start sum f from : ℕ) → f ≡ finish_at (suc bw) start sum → from ≤ f →
    from * suc bw < 8 * 10 ^ 9 * sum + start * suc bw + suc bw
since bw start sum f from e h =
    let q : ℕ = div_ceil (8 * 10 ^ 9 * sum) (suc bw) in
    let c : Covers (8 * 10 ^ 9 * sum) bw q = covers (8 * 10 ^ 9 * sum) bw in
    let whole : (start + q) * suc bw ≡ start * suc bw + q * suc bw = omega arith in
    let early : from * suc bw ≤ (start + q) * suc bw =
    mul-le-mul_right {m = from} {n = start + q} (suc bw) (omega (arith, e, h)) in
    omega (arith, c.close, whole, early)

module _ (bw start from to : ℕ) where
  counted : ℕ → List ℕ → ℕ
  counted sum zs = bytes_between from to (finishes (suc bw) start sum zs) zs

  inside : ℕ → Bool
  inside sum = nat_le from (finish_at (suc bw) start sum) && nat_le (finish_at (suc bw) start sum) to

  -- either nothing finishes in the stretch, or all that came before with it has finished by its end
  finished : (sum : ℕ) (zs : List ℕ) → (counted sum zs ≡ 0)
      ⊎ (8 * 10 ^ 9 * (sum + counted sum zs) + start * suc bw ≤ to * suc bw)
  unfolding counted inside
  finished sum [] = inl refl
  finished sum (z ∷ zs) = go (inside (sum + z)) refl (finished (sum + z) zs)
    where
      go : (b : Bool) → inside (sum + z) ≡ b → (counted (sum + z) zs ≡ 0)
          ⊎ (8 * 10 ^ 9 * (sum + z + counted (sum + z) zs) + start * suc bw ≤ to * suc bw) →
          ((if b then z else 0) + counted (sum + z) zs ≡ 0)
          ⊎ (8 * 10 ^ 9 * (sum + ((if b then z else 0) + counted (sum + z) zs)) + start * suc bw ≤ to * suc bw)
      go true e (inl none) =
          let f : ℕ = finish_at (suc bw) start (sum + z) in
          let early : f ≤ to = leb-true f to (and_parts (nat_le from f) (nat_le f to) e).1 in
          inr (omega (arith, none, by bw start (sum + z) f to refl early))
      go true e (inr some) = inr (omega (arith, some))
      go false e (inl none) = inl (omega (arith, none))
      go false e (inr some) = inr (omega (arith, some))

  kept : (largest sum : ℕ) (zs : List ℕ) → AllByRecursion (λ z. z ≤ largest) zs →
      8 * 10 ^ 9 * counted sum zs < (to - from + 1) * suc bw + 8 * 10 ^ 9 * largest
  unfolding counted inside
  kept largest sum [] small = omega (arith, some)
    where
      some : 1 ≤ (to - from + 1) * suc bw
      some = omega (arith, mul-le-mul_right {m = 1} {n = to - from + 1} (suc bw) (omega arith))
  kept largest sum (z ∷ zs) small =
      go (inside (sum + z)) refl (finished (sum + z) zs) (kept largest (sum + z) zs small.1)
    where
      f : ℕ
      f = finish_at (suc bw) start (sum + z)

      spread : from ≤ to → (to - from + 1) * suc bw + from * suc bw ≡ to * suc bw + suc bw
      spread h =
          let d : ℕ = to - from in
          let e : to ≡ from + d = omega (arith, h) in
          let l : (d + 1) * suc bw ≡ d * suc bw + suc bw = omega arith in
          let r : (from + d) * suc bw ≡ from * suc bw + d * suc bw = omega arith in
          let t : to * suc bw ≡ (from + d) * suc bw = ap (λ k. k * suc bw) e in
          omega (arith, l, r, t)

      some : 1 ≤ (to - from + 1) * suc bw
      some = omega (arith, mul-le-mul_right {m = 1} {n = to - from + 1} (suc bw) (omega arith))

      go : (b : Bool) → inside (sum + z) ≡ b → (counted (sum + z) zs ≡ 0)
          ⊎ (8 * 10 ^ 9 * (sum + z + counted (sum + z) zs) + start * suc bw ≤ to * suc bw) →
          8 * 10 ^ 9 * counted (sum + z) zs < (to - from + 1) * suc bw + 8 * 10 ^ 9 * largest →
          8 * 10 ^ 9 * ((if b then z else 0) + counted (sum + z) zs)
          < (to - from + 1) * suc bw + 8 * 10 ^ 9 * largest
      go true e (inl none) later = omega (arith, none, some, small.0)
      go true e (inr all) later =
          let parts = and_parts (nat_le from f) (nat_le f to) e in
          let low : from ≤ f = leb-true from f parts.0 in
          let high : f ≤ to = leb-true f to parts.1 in
          omega (arith, all, small.0, since bw start (sum + z) f from refl low, spread (omega (arith, low, high)))
      go false e all later = omega (arith, later)

pub rate_is_kept : RateIsKept
unfolding counted
rate_is_kept zero start from to largest sizes some small = absurd (omega (arith, some))
rate_is_kept (suc bw) start from to largest sizes some small =
    let turned : suc bw * (to - from + 1) ≡ (to - from + 1) * suc bw = omega arith in
    omega (arith, kept bw start from to largest 0 sizes small, turned)
