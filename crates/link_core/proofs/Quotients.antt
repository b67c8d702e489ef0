-- A busy period's quotient and remainder after one packet more.
use Rattle.std.proofs.Common.{◌≡◌, ℕ, zero, suc, ◌+◌, ◌-◌, ◌*◌, ◌/◌, ◌%◌, ◌^◌, ◌<◌, ◌≤◌, sym, ◌∙◌, ap, arith}
use Rattle.std.specs.Prelude.{min}
use Rattle.std.proofs.lemmas.Nat.{div-mul-add, div-add-mod'}
use Rattle.std.proofs.Math.Nat.{mod-lt}
use Rattle.emu_model.specs.Moments.{IsMoment}
use Rattle.emu_model.specs.Rate.{div_ceil, follow}
use Rattle.link_core.specs.Served.{period_of, IsQuotient, Tells}
use Rattle.link_core.specs.declared.rate.Busy.{Busy}

-- the numbers after one packet more
abbrev pub moved : ℕ → ℕ → Busy → Busy
moved bw size b =
    let work = 8 * 10 ^ 9 * size + b.left_over in
    record { start = b.start; sum = b.sum + size; reached = b.reached + work / bw; left_over = work % bw }

-- a remainder counts as one whole
up : (b a m : ℕ) → m < suc b → div_ceil (a * suc b + m) (suc b) ≡ a + min m 1
up b a zero small =
    ap (λ n. n / suc b) (omega arith) ∙ div-mul-add a (suc b) b (omega arith)
    ∙ (let whole : a ≡ a + min 0 1 = omega arith in whole)
up b a (suc m) small =
    ap (λ n. n / suc b) (omega arith) ∙ div-mul-add (a + 1) (suc b) m (omega arith)
    ∙ (let begun : a + 1 ≡ a + min (suc m) 1 = omega arith in begun)

-- the work so far, split anew
work_split : (b done rem sum size : ℕ) → 8 * 10 ^ 9 * sum ≡ done * suc b + rem →
    let work = 8 * 10 ^ 9 * size + rem in
    8 * 10 ^ 9 * (sum + size) ≡ (done + work / suc b) * suc b + work % suc b
work_split b done rem sum size e =
    omega (arith, div-add-mod' (8 * 10 ^ 9 * size + rem) (suc b))

moved-work : (b size : ℕ) (q : Busy) → IsQuotient (suc b) q → IsQuotient (suc b) (moved (suc b) size q)
moved-work b size q h =
    let work : ℕ = 8 * 10 ^ 9 * size + q.left_over in
    record {
      begun = omega (arith, h.begun);
      small = mod-lt _ (omega arith);
      work = work_split b (q.reached - q.start) q.left_over q.sum size h.work
          ∙ ap (λ d. d * suc b + work % suc b)
          (let far : (q.reached - q.start) + work / suc b ≡ (q.reached + work / suc b) - q.start = omega (arith, h.begun) in far);
    }

-- what a quotient and a remainder reach, rounded up, is what the sum says
reached_finish : (b : ℕ) (q : Busy) → IsQuotient (suc b) q →
    q.start + div_ceil (8 * 10 ^ 9 * q.sum) (suc b) ≡ (period_of q).finish
reached_finish b q h =
    ap (λ n. q.start + div_ceil n (suc b)) h.work
    ∙ ap (λ k. q.start + k) (up b (q.reached - q.start) q.left_over h.small)
    ∙ (let far : q.start + ((q.reached - q.start) + min q.left_over 1) ≡ q.reached + min q.left_over 1 = omega (arith, h.begun) in far)

pub moved-period : (bw size : ℕ) (q : Busy) → (bw ≡ 0 → ⊥) → Tells bw q →
    period_of (moved bw size q) ≡ follow bw size (period_of q)
moved-period zero size q some h = absurd (omega arith)
moved-period (suc b) size q some h =
    let e : _ = reached_finish b (moved (suc b) size q) (moved-work b size q h.0) in
    λ i. record { start = q.start; sum = q.sum + size; finish = sym e i }

pub moved-tells : (bw size : ℕ) (q : Busy) → (bw ≡ 0 → ⊥) → bw ≤ 10 ^ 10 → size ≤ 1500 →
    IsMoment (period_of q).finish → Tells bw q → Tells bw (moved bw size q)
moved-tells zero size q some wide large early h = absurd (omega arith)
moved-tells (suc b) size q some wide large early h =
    let work : ℕ = 8 * 10 ^ 9 * size + q.left_over in
    (moved-work b size q h.0, omega (arith, h.0.small, div-add-mod' work (suc b)))
