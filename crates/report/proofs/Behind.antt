-- Bytes up to a place, after some were written there.
use Rattle.std.proofs.Common.{◌≡◌, ℕ, ◌+◌, ◌<◌, ◌≤◌, List, [], ◌∷◌, length, get_or, take, set, ◌++◌, arith, sym, ap, ◌∙◌, append_assoc, append-nil, length-set, refl, subst}
use Rattle.std.proofs.lemmas.List.{take_more_set, take-take, length-take-le}
use lib.Seq.{take-append-add}

-- two bytes, one behind the other
pub two_put :
    (xs : List ℕ) (at a b : ℕ)
    → at + 1 < length xs
    → take (at + 2) (set (set xs at a) (at + 1) b) ≡ take at xs ++ a ∷ b ∷ []
two_put xs at a b inside =
    let e : at + 2 ≡ at + 1 + 1 = omega arith in
    rw (
      e,
      take_more_set (set xs at a) (at + 1) b (omega (arith, length-set xs at a)),
      take_more_set xs at a (omega arith),
      append_assoc,
    )

-- eight bytes, one behind the other
pub eight_put :
    (xs : List ℕ) (at a b c d e f g h : ℕ)
    → at + 7 < length xs
    → take
    (at + 8)
    (set
    (set (set (set (set (set (set (set xs at a) (at + 1) b) (at + 2) c) (at + 3) d) (at + 4) e) (at + 5) f) (at + 6) g)
    (at + 7)
    h)
    ≡ take at xs ++ a ∷ b ∷ c ∷ d ∷ e ∷ f ∷ g ∷ h ∷ []
eight_put xs at a b c d e f g h inside =
    let x2 = set (set xs at a) (at + 1) b in
    let x4 = set (set x2 (at + 2) c) (at + 3) d in
    let x6 = set (set x4 (at + 4) e) (at + 5) f in
    let l2 : length x2 ≡ length xs = length-set (set xs at a) (at + 1) b ∙ length-set xs at a in
    let l4 : length x4 ≡ length x2 = length-set (set x2 (at + 2) c) (at + 3) d ∙ length-set x2 (at + 2) c in
    let l6 : length x6 ≡ length x4 = length-set (set x4 (at + 4) e) (at + 5) f ∙ length-set x4 (at + 4) e in
    let p2 = two_put xs at a b (omega arith) in
    let p8 = two_put x6 (at + 6) g h (omega arith) in
    let e2 : at + 2 + 2 ≡ at + 4 = omega arith in
    let e4 : at + 4 + 2 ≡ at + 6 = omega arith in
    let e6 : at + 6 + 2 ≡ at + 8 = omega arith in
    let o2 : at + 2 + 1 ≡ at + 3 = omega arith in
    let o4 : at + 4 + 1 ≡ at + 5 = omega arith in
    let o6 : at + 6 + 1 ≡ at + 7 = omega arith in
    let q4 : take (at + 4) x4 ≡ take (at + 2) x2 ++ c ∷ d ∷ [] = rw (← e2, ← o2) (two_put x2 (at + 2) c d (omega arith)) in
    let q6 : take (at + 6) x6 ≡ take (at + 4) x4 ++ e ∷ f ∷ [] = rw (← e4, ← o4) (two_put x4 (at + 4) e f (omega arith)) in
    let q8 : take (at + 8) (set (set x6 (at + 6) g) (at + 7) h) ≡ take (at + 6) x6 ++ g ∷ h ∷ [] =
    rw (← e6, ← o6) (two_put x6 (at + 6) g h (omega arith))
    in
    q8 ∙ rw (q6, q4, p2) (simp append_assoc)

-- a list of eight is its elements
pub eight_items :
    (xs : List ℕ)
    → length xs ≡ 8
    → get_or xs 0 0
    ∷ get_or xs 1 0
    ∷ get_or xs 2 0
    ∷ get_or xs 3 0
    ∷ get_or xs 4 0
    ∷ get_or xs 5 0
    ∷ get_or xs 6 0
    ∷ get_or xs 7 0
    ∷ []
    ≡ xs
eight_items [] n = absurd (omega arith)
eight_items (a ∷ []) n = absurd (omega arith)
eight_items (a ∷ b ∷ []) n = absurd (omega arith)
eight_items (a ∷ b ∷ c ∷ []) n = absurd (omega arith)
eight_items (a ∷ b ∷ c ∷ d ∷ []) n = absurd (omega arith)
eight_items (a ∷ b ∷ c ∷ d ∷ e ∷ []) n = absurd (omega arith)
eight_items (a ∷ b ∷ c ∷ d ∷ e ∷ f ∷ []) n = absurd (omega arith)
eight_items (a ∷ b ∷ c ∷ d ∷ e ∷ f ∷ g ∷ []) n = absurd (omega arith)
eight_items (a ∷ b ∷ c ∷ d ∷ e ∷ f ∷ g ∷ h ∷ []) n = refl
eight_items (a ∷ b ∷ c ∷ d ∷ e ∷ f ∷ g ∷ h ∷ i ∷ xs) n = absurd (omega arith)

-- of what was put, the first bytes alone
pub first_put :
    (old new word : List ℕ) (at most count : ℕ)
    → at ≤ length old
    → count ≤ most
    → take (at + most) new ≡ take at old ++ word
    → take (at + count) new ≡ take at old ++ take count word
first_put old new word at most count inside few put =
    let front : length (take at old) ≡ at = length-take-le at old inside in
    sym (take-take (at + count) (at + most) new (omega arith))
    ∙ ap (take (at + count)) put
    ∙ ap (λ n. take (n + count) (take at old ++ word)) (sym front)
    ∙ take-append-add (take at old) word count

-- five words of eight bytes, one behind the other
pub five_put :
    (x0 x1 x2 x3 x4 x5 a b c d e : List ℕ) (at : ℕ)
    → take (at + 8) x1 ≡ take at x0 ++ a
    → take (at + 8 + 8) x2 ≡ take (at + 8) x1 ++ b
    → take (at + 16 + 8) x3 ≡ take (at + 16) x2 ++ c
    → take (at + 24 + 8) x4 ≡ take (at + 24) x3 ++ d
    → take (at + 32 + 8) x5 ≡ take (at + 32) x4 ++ e
    → take (at + 40) x5 ≡ take at x0 ++ (a ++ (b ++ (c ++ (d ++ (e ++ [])))))
five_put x0 x1 x2 x3 x4 x5 a b c d e at p q r s t =
    let e2 : at + 8 + 8 ≡ at + 16 = omega arith in
    let e3 : at + 16 + 8 ≡ at + 24 = omega arith in
    let e4 : at + 24 + 8 ≡ at + 32 = omega arith in
    let e5 : at + 32 + 8 ≡ at + 40 = omega arith in
    let q2 : take (at + 16) x2 ≡ take (at + 8) x1 ++ b = subst (λ n. take n x2 ≡ take (at + 8) x1 ++ b) e2 q in
    let q3 : take (at + 24) x3 ≡ take (at + 16) x2 ++ c = subst (λ n. take n x3 ≡ take (at + 16) x2 ++ c) e3 r in
    let q4 : take (at + 32) x4 ≡ take (at + 24) x3 ++ d = subst (λ n. take n x4 ≡ take (at + 24) x3 ++ d) e4 s in
    let q5 : take (at + 40) x5 ≡ take (at + 32) x4 ++ e = subst (λ n. take n x5 ≡ take (at + 32) x4 ++ e) e5 t in
    q5 ∙ rw (q4, q3, q2, p, append-nil) (simp append_assoc)
