-- The next word of a stretch, and what is behind it.
use Rattle.std.proofs.Common.{◌≡◌, ℕ, suc, ◌+◌, ◌-◌, ◌<◌, ◌≤◌, List, ◌∷◌, ◌++◌, length, get_or, take, drop, ap, ◌∙◌, ◌⊎◌, inl, inr, [], arith}
use Rattle.std.proofs.Math.Nat.{eq-or-lt_of_le}
use Rattle.std.proofs.Math.Seq.{drop-cons}
use Rattle.report.specs.declared.packed.Packed.{Packed}

pub next_word : (es rest : List Packed) (at end : ℕ) (d : Packed) → at < end → end ≤ length es →
    take (end - at) (drop at es) ++ rest ≡ get_or es at d ∷ (take (end - (at + 1)) (drop (at + 1) es) ++ rest)
next_word es rest at end d inside few =
    let n : end - at ≡ suc (end - suc at) = omega (arith, inside) in
    ap (λ (l : List Packed). take (end - at) l ++ rest) (drop-cons es at d (omega (arith, inside, few)))
    ∙ ap (λ (k : ℕ). take k (get_or es at d ∷ drop (suc at) es) ++ rest) n
    ∙ ap (λ (k : ℕ). get_or es at d ∷ (take (end - k) (drop k es) ++ rest)) (omega arith)

pub not_ended : (es rest : List Packed) (at end : ℕ) → at ≤ end → (at ≡ end → rest ≡ []) → 0 < length (take (end - at) (drop at es) ++ rest) → at < end
not_ended es rest at end inside none some = by (eq-or-lt_of_le inside)
  where
    by : (at ≡ end) ⊎ (at < end) → at < end
    by (inl all) =
        let n : end - at ≡ 0 = omega (arith, all) in
        absurd (omega (arith, some, ap length (none all), ap (λ (k : ℕ). length (take k (drop at es) ++ rest)) n))
    by (inr more) = more
