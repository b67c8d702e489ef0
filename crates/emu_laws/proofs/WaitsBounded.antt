-- Rounded up, the quotient of a sum is at most the sum of the quotients.
use Rattle.std.proofs.Common.{◌≡◌, ℕ, zero, suc, ◌+◌, ◌*◌, ◌^◌, ◌<◌, ◌≤◌, List, [], ◌∷◌, ap, arith}
use Rattle.std.specs.Prelude.{sum}
use Rattle.std.specs.List.{AllByRecursion}
use Rattle.std.proofs.lemmas.List.Sums.{sum_by-cons}
use Rattle.emu_model.specs.Rate.{div_ceil, finish_at, finishes}
use Rattle.emu_laws.proofs.MissingFacts.{fewer}
use Rattle.emu_laws.proofs.PipeRate.{Covers, covers}
use Rattle.emu_laws.specs.PipeDelay.{transmission}
use Rattle.emu_laws.specs.WaitBound.{WaitIsBounded}

ceil-rises : (a b d : ℕ) → a ≤ b → div_ceil a (suc d) ≤ div_ceil b (suc d)
ceil-rises a b d h =
    let p : ℕ = div_ceil a (suc d) in
    let q : ℕ = div_ceil b (suc d) in
    let ca : Covers a d p = covers a d in
    let cb : Covers b d q = covers b d in
    let more : (q + 1) * suc d ≡ q * suc d + suc d = omega arith in
    let low : p < q + 1 = fewer p (q + 1) (suc d) (omega (arith, ca.close, cb.enough, h, more)) in
    omega (arith, low)

ceil-both : (a b d : ℕ) → div_ceil (a + b) (suc d) ≤ div_ceil a (suc d) + div_ceil b (suc d)
ceil-both a b d =
    let p : ℕ = div_ceil a (suc d) in
    let q : ℕ = div_ceil b (suc d) in
    let r : ℕ = div_ceil (a + b) (suc d) in
    let ca : Covers a d p = covers a d in
    let cb : Covers b d q = covers b d in
    let c : Covers (a + b) d r = covers (a + b) d in
    let more : (p + q + 1) * suc d ≡ p * suc d + q * suc d + suc d = omega arith in
    let low : r < p + q + 1 = fewer r (p + q + 1) (suc d) (omega (arith, c.close, ca.enough, cb.enough, more)) in
    omega (arith, low)

-- with more bytes it finishes no earlier, and later by their transmission at most
finish-rises : (bw start a b : ℕ) → a ≤ b → finish_at bw start a ≤ finish_at bw start b
finish-rises zero start a b h = omega arith
finish-rises (suc bw) start a b h =
    omega (arith, ceil-rises (8 * 10 ^ 9 * a) (8 * 10 ^ 9 * b) bw (omega (arith, h)))

finish-more : (bw start a b : ℕ) → finish_at bw start (a + b) ≤ finish_at bw start a + transmission bw b
finish-more zero start a b = omega arith
finish-more (suc bw) start a b =
    let parts : 8 * 10 ^ 9 * (a + b) ≡ 8 * 10 ^ 9 * a + 8 * 10 ^ 9 * b = omega arith in
    let same : div_ceil (8 * 10 ^ 9 * (a + b)) (suc bw) ≡ div_ceil (8 * 10 ^ 9 * a + 8 * 10 ^ 9 * b) (suc bw) =
    ap (λ k. div_ceil k (suc bw)) parts in
    omega (arith, same, ceil-both (8 * 10 ^ 9 * a) (8 * 10 ^ 9 * b) bw)

up-to : (bw start acc top last : ℕ) (zs : List ℕ) → acc + sum zs ≤ top → finish_at bw start top ≤ last →
    AllByRecursion (λ f. f ≤ last) (finishes bw start acc zs)
up-to bw start acc top last [] h g = tt
up-to bw start acc top last (z ∷ zs) h g =
    let parts : sum (z ∷ zs) ≡ z + sum zs = sum_by-cons (λ x. x) z zs in (
      omega (arith, g, finish-rises bw start (acc + z) top (omega (arith, h, parts))),
      up-to bw start (acc + z) top last zs (omega (arith, h, parts)) g,
    )

pub wait_is_bounded : WaitIsBounded
wait_is_bounded bw start before now size bytes zs begun h =
    up-to bw start (before + size) (before + size + bytes) (now + transmission bw size + transmission bw bytes) zs
    (omega (arith, h))
    (omega (arith, begun, finish-more bw start before size, finish-more bw start (before + size) bytes))
