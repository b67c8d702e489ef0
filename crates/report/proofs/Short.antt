-- A number of eight digits at most: its digits are the last of eight.
use Rattle.std.proofs.Common.{◌≡◌, ℕ, ◌+◌, ◌-◌, ◌/◌, ◌%◌, ◌<◌, ◌≤◌, List, length, drop, ◌++◌, refl, arith, sym, ap, ◌∙◌}
use Rattle.std.specs.Prelude.{decimal}
use Rattle.std.proofs.lemmas.Fmt.{decimal_digit}
use lib.Seq.{drop-append-add}
use Rattle.itoa.proofs.Decimal.{decimal_two, decimal_pair, decimal_four}
use Rattle.report.specs.Words.{pair_of, eight_of}
use Rattle.report.specs.Alike.{AreAlike}

abbrev four_of : ℕ → List ℕ
four_of n = pair_of (n / 100) ++ pair_of (n % 100)

four : (n : ℕ) → 1000 ≤ n → n < 10000 → decimal n ≡ drop 0 (four_of n)
four n low high = rw (decimal_pair n (omega arith) (omega arith), decimal_two (n / 100) (omega arith) (omega arith)) refl

three : (n : ℕ) → 100 ≤ n → n < 1000 → decimal n ≡ drop 1 (four_of n)
three n low high =
    let e : n / 100 % 10 ≡ n / 100 = omega arith in
    rw (decimal_pair n (omega arith) (omega arith), decimal_digit (n / 100) (omega arith), e) refl

two : (n : ℕ) → 10 ≤ n → n < 100 → decimal n ≡ drop 2 (four_of n)
two n low high =
    let e : n % 100 ≡ n = omega arith in
    rw (e, decimal_two n (omega arith) (omega arith)) refl

one : (n : ℕ) → n < 10 → decimal n ≡ drop 3 (four_of n)
one n high =
    let e : n % 100 % 10 ≡ n = omega arith in
    rw (e, decimal_digit n (omega arith)) refl

-- behind a front of sixteen
skip :
    (front : List ℕ) (n k : ℕ) → length front ≡ 16 → decimal n ≡ drop k (eight_of n) → decimal n ≡ drop (16 + k) (front ++ eight_of n)
skip front n k sixteen h =
    h ∙ sym (drop-append-add front (eight_of n) k) ∙ ap (λ m. drop (m + k) (front ++ eight_of n)) sixteen

long_0 : (front : List ℕ) (n : ℕ) → length front ≡ 16 → 10000000 ≤ n → n < 100000000 → decimal n ≡ drop 16 (front ++ eight_of n)
long_0 front n s low high =
    skip front n 0 s (rw (decimal_four n (omega arith) (omega arith), four (n / 10000) (omega arith) (omega arith)) refl)

long_1 : (front : List ℕ) (n : ℕ) → length front ≡ 16 → 1000000 ≤ n → n < 10000000 → decimal n ≡ drop 17 (front ++ eight_of n)
long_1 front n s low high =
    skip front n 1 s (rw (decimal_four n (omega arith) (omega arith), three (n / 10000) (omega arith) (omega arith)) refl)

long_2 : (front : List ℕ) (n : ℕ) → length front ≡ 16 → 100000 ≤ n → n < 1000000 → decimal n ≡ drop 18 (front ++ eight_of n)
long_2 front n s low high =
    skip front n 2 s (rw (decimal_four n (omega arith) (omega arith), two (n / 10000) (omega arith) (omega arith)) refl)

long_3 : (front : List ℕ) (n : ℕ) → length front ≡ 16 → 10000 ≤ n → n < 100000 → decimal n ≡ drop 19 (front ++ eight_of n)
long_3 front n s low high =
    skip front n 3 s (rw (decimal_four n (omega arith) (omega arith), one (n / 10000) (omega arith)) refl)

short_0 : (front : List ℕ) (n : ℕ) → length front ≡ 16 → 1000 ≤ n → n < 10000 → decimal n ≡ drop 20 (front ++ eight_of n)
short_0 front n s low high =
    let e : n % 10000 ≡ n = omega arith in
    skip front n 4 s (rw (e, four n low high) refl)

short_1 : (front : List ℕ) (n : ℕ) → length front ≡ 16 → 100 ≤ n → n < 1000 → decimal n ≡ drop 21 (front ++ eight_of n)
short_1 front n s low high =
    let e : n % 10000 ≡ n = omega arith in
    skip front n 5 s (rw (e, three n low high) refl)

short_2 : (front : List ℕ) (n : ℕ) → length front ≡ 16 → 10 ≤ n → n < 100 → decimal n ≡ drop 22 (front ++ eight_of n)
short_2 front n s low high =
    let e : n % 10000 ≡ n = omega arith in
    skip front n 6 s (rw (e, two n low high) refl)

short_3 : (front : List ℕ) (n : ℕ) → length front ≡ 16 → n < 10 → decimal n ≡ drop 23 (front ++ eight_of n)
short_3 front n s high =
    let e : n % 10000 ≡ n = omega arith in
    skip front n 7 s (rw (e, one n high) refl)

-- moments with as many digits

pub alike_16 : (front : List ℕ) → length front ≡ 16 → AreAlike 10000000 99999999 0 16 front
alike_16 front sixteen m from to =
    let e : m - 0 ≡ m = omega arith in
    (omega arith, omega arith, long_0 front m sixteen (omega arith) (omega arith) ∙ ap (λ n. drop 16 (front ++ eight_of n)) (sym e))

pub alike_17 : (front : List ℕ) → length front ≡ 16 → AreAlike 1000000 9999999 0 17 front
alike_17 front sixteen m from to =
    let e : m - 0 ≡ m = omega arith in
    (omega arith, omega arith, long_1 front m sixteen (omega arith) (omega arith) ∙ ap (λ n. drop 17 (front ++ eight_of n)) (sym e))

pub alike_18 : (front : List ℕ) → length front ≡ 16 → AreAlike 100000 999999 0 18 front
alike_18 front sixteen m from to =
    let e : m - 0 ≡ m = omega arith in
    (omega arith, omega arith, long_2 front m sixteen (omega arith) (omega arith) ∙ ap (λ n. drop 18 (front ++ eight_of n)) (sym e))

pub alike_19 : (front : List ℕ) → length front ≡ 16 → AreAlike 10000 99999 0 19 front
alike_19 front sixteen m from to =
    let e : m - 0 ≡ m = omega arith in
    (omega arith, omega arith, long_3 front m sixteen (omega arith) (omega arith) ∙ ap (λ n. drop 19 (front ++ eight_of n)) (sym e))

pub alike_20 : (front : List ℕ) → length front ≡ 16 → AreAlike 1000 9999 0 20 front
alike_20 front sixteen m from to =
    let e : m - 0 ≡ m = omega arith in
    (omega arith, omega arith, short_0 front m sixteen (omega arith) (omega arith) ∙ ap (λ n. drop 20 (front ++ eight_of n)) (sym e))

pub alike_21 : (front : List ℕ) → length front ≡ 16 → AreAlike 100 999 0 21 front
alike_21 front sixteen m from to =
    let e : m - 0 ≡ m = omega arith in
    (omega arith, omega arith, short_1 front m sixteen (omega arith) (omega arith) ∙ ap (λ n. drop 21 (front ++ eight_of n)) (sym e))

pub alike_22 : (front : List ℕ) → length front ≡ 16 → AreAlike 10 99 0 22 front
alike_22 front sixteen m from to =
    let e : m - 0 ≡ m = omega arith in
    (omega arith, omega arith, short_2 front m sixteen (omega arith) (omega arith) ∙ ap (λ n. drop 22 (front ++ eight_of n)) (sym e))

pub alike_23 : (front : List ℕ) → length front ≡ 16 → AreAlike 0 9 0 23 front
alike_23 front sixteen m from to =
    let e : m - 0 ≡ m = omega arith in
    (omega arith, omega arith, short_3 front m sixteen (omega arith) ∙ ap (λ n. drop 23 (front ++ eight_of n)) (sym e))
