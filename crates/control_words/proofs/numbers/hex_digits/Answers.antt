use Rattle.std.proofs.Common.{◌<◌, ◌≤◌, ◌^◌, ℕ, arith, lit<}
use Rattle.std.proofs.Math.Nat.{pow-le-pow_right}
use Rattle.control_words.proofs.numbers.hex_digits.Goals as goal

-- below 16 ^ 7 before the last digit
small : (n i : ℕ) → n < 16 ^ i → i < 8 → n < 268435456
small n i lt h =
    let le : 16 ^ i ≤ 16 ^ 7 = pow-le-pow_right {n = 16} (lit< tt) {i = i} {j = 7} (omega arith) in
    omega (arith, le, lt)

pub overflow_mul-n : goal.overflow_mul-n
overflow_mul-n c = omega (arith, small c.loop-c.n c.loop-c.c-index c.loop-c.invariant.small (omega arith))

pub overflow_add-n : goal.overflow_add-n
overflow_add-n c = omega (arith, small c.loop-c.n c.loop-c.c-index c.loop-c.invariant.small (omega arith), c.in_ok-digit.ensures.small)
