-- The digits of a moment, as they are kept.
use Rattle.std.proofs.Common.{◌≡◌, ℕ, ◌+◌, ◌-◌, ◌*◌, ◌/◌, ◌%◌, ◌^◌, ◌<◌, ◌≤◌, List, length, take, drop, ◌++◌, arith, sym, ap, ◌∙◌, append_assoc}
use Rattle.std.proofs.lemmas.List.{take_at, take-take, drop-drop, drop-take, drop-append-le, length-take-le}
use Rattle.std.specs.Prelude.{decimal}
use Rattle.report.specs.Words.{eight_of}
use Rattle.report.specs.Alike.{AreAlike}
use Rattle.report.proofs.Pairs.{decimal_eight}
use Rattle.report.proofs.Behind.{first_put}
use Rattle.report.proofs.Taken.{take_further}

-- what stands in front of eight digits stays
pub front_stays :
    (old new eight : List ℕ)
    → 16 ≤ length old
    → take 24 new ≡ take 16 old ++ eight
    → take 16 new ≡ take 16 old
front_stays old new eight long put =
    sym (take-take 16 24 new (omega arith))
    ∙ ap (take 16) put
    ∙ take_at (take 16 old) eight 16 (length-take-le 16 old long)

pub alike_stays :
    (first last base start : ℕ) (old new : List ℕ)
    → new ≡ old
    → AreAlike first last base start old
    → AreAlike first last base start new
alike_stays first last base start old new same alike m from to =
    let a = alike m from to in
    (a.0, a.1, a.2 ∙ ap (λ l. drop start (l ++ eight_of (m - base))) (sym same))

-- a copy of the digits, eight by eight, where what it has too much is written over
pub kept_put :
    (old first second third digits dec : List ℕ) (at start : ℕ)
    → at + 24 ≤ length old
    → start ≤ 23
    → take (at + 8) first ≡ take at old ++ take 8 (drop start digits)
    → take (at + 8 + 8) second ≡ take (at + 8) first ++ take 8 (drop (start + 8) digits)
    → take (at + 16 + 8) third ≡ take (at + 16) second ++ take 8 (drop (start + 16) digits)
    → dec ≡ drop start (take 24 digits)
    → take (at + (24 - start)) third ≡ take at old ++ dec
kept_put old first second third digits dec at start inside few one two three is =
    let bytes = drop start digits in
    let e : at + 8 + 8 ≡ at + 16 = omega arith in
    let f : at + 16 + 8 ≡ at + 24 = omega arith in
    let pair : take 16 bytes ≡ take 8 bytes ++ take 8 (drop (start + 8) digits) =
    take_further bytes 8 8 ∙ ap (λ l. take 8 bytes ++ take 8 l) (drop-drop 8 start digits)
    in
    let all : take 24 bytes ≡ take 16 bytes ++ take 8 (drop (start + 16) digits) =
    take_further bytes 16 8 ∙ ap (λ l. take 16 bytes ++ take 8 l) (drop-drop 16 start digits)
    in
    let put : take (at + 24) third ≡ take at old ++ take 24 bytes =
    ap (λ n. take n third) (sym f)
    ∙ three
    ∙ ap (λ n. take n second ++ take 8 (drop (start + 16) digits)) (sym e)
    ∙ rw (two, one, all, pair) (simp append_assoc)
    in
    let split : start + (24 - start) ≡ 24 = omega arith in
    let cut : drop start (take 24 digits) ≡ take (24 - start) bytes =
    ap (λ n. drop start (take n digits)) (sym split) ∙ drop-take start (24 - start) digits
    in
    first_put old third (take 24 bytes) at 24 (24 - start) (omega arith) (omega arith) put
    ∙ ap (λ l. take at old ++ l) (take-take (24 - start) 24 bytes (omega arith) ∙ sym cut ∙ sym is)

-- moments of nine digits or more, behind the digits before their last eight
pub alike_long :
    (high last start : ℕ) (digits tail : List ℕ)
    → 1 ≤ high
    → last < 2 ^ 64
    → last ≤ high * 100000000 + 99999999
    → 16 ≤ length digits
    → start + length (decimal high) ≡ 16
    → drop start digits ≡ decimal high ++ tail
    → AreAlike (high * 100000000) last (high * 100000000) start (take 16 digits)
alike_long high last start digits tail low fits near long ends written m from to =
    let split : start + (16 - start) ≡ 16 = omega arith in
    let front : drop start (take 16 digits) ≡ decimal high =
    ap (λ n. drop start (take n digits)) (sym split)
    ∙ drop-take start (16 - start) digits
    ∙ ap (take (16 - start)) written
    ∙ take_at (decimal high) tail (16 - start) (omega arith)
    in
    let h : m / 100000000 ≡ high = omega arith in
    let e : m % 100000000 ≡ m - high * 100000000 = omega arith in
    let sixteen : length (take 16 digits) ≡ 16 = length-take-le 16 digits long in
    let eight = eight_of (m - high * 100000000) in
    let whole : drop start (take 16 digits ++ eight) ≡ decimal high ++ eight =
    drop-append-le start (take 16 digits) eight (omega arith) ∙ ap (λ l. l ++ eight) front
    in (
      omega arith,
      omega arith,
      decimal_eight m (omega arith) (omega arith) ∙ rw (h, e) (sym whole),
    )
