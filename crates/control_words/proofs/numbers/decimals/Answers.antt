use Rattle.std.proofs.Common.{◌≡◌, ◌*◌, ◌+◌, ◌-◌, ◌^◌, ◌<◌, ◌≤◌, ℕ, zero, length, sym, ap, ◌∙◌, arith}
use Rattle.std.proofs.lemmas.Nat.{pow-add}
use Rattle.std.proofs.Math.Nat.{mul-lt-mul_of_pos_right, one-le-pow}
use Rattle.control_words.proofs.numbers.decimals.Goals as goal

-- n below 10 ^ l, in units of 10 ^ (6 - l)
scaled : (n p l : ℕ) → n < 10 ^ l → l ≤ 6 → p ≡ 10 ^ (6 - l) → n * p < 1000000
scaled n p l lt small is =
    let all : l + (6 - l) ≡ 6 = omega arith in
    let whole : 10 ^ l * 10 ^ (6 - l) ≡ 1000000 = sym (pow-add 10 l (6 - l)) ∙ ap (λ k. 10 ^ k) all in
    let pos : zero < 10 ^ (6 - l) = one-le-pow (6 - l) 10 (omega arith) in
    let below : n * 10 ^ (6 - l) < 10 ^ l * 10 ^ (6 - l) = mul-lt-mul_of_pos_right lt pos in
    rw is (omega (arith, below, whole))

pub returns-clause-small : goal.returns-clause-small
returns-clause-small c = scaled c.in_ok-n.n c.pow.result (length c.args.word.now) c.in_ok-n.ensures.small (omega arith) c.pow.ensures
