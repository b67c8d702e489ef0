-- The value of a single word: numbers, with and without units.
use Rattle.std.specs.Prelude.{ℕ, ◌+◌, ◌*◌, ◌-◌, ◌^◌, ◌&&◌, ◌||◌, not, Bool, List, [], ◌∷◌, length, Option, Some, None, nat_lt, nat_le, ◌==◌, if◌then◌else◌, take, drop, slice_index}
use Rattle.std.specs.List.{prefix_len}
use Rattle.std.specs.Str.{bytes_eq}
use Rattle.std.specs.Char.{is_ascii_digit}
use lib.Chars.{codes}
use Rattle.control_words.specs.Words.{◌>>=◌}
use Rattle.control_words.specs.declared.raw.RawQueue.{RawQueue}
use Rattle.control_words.specs.declared.raw.RawQueue.TheVariants as queues
use Rattle.control_words.specs.declared.raw.RawTiming.{RawTiming}
use Rattle.control_words.specs.declared.raw.RawTiming.TheVariants as timings

abbrev pub digits_after : ℕ → List ℕ → Option ℕ
digits_after n [] = Some n
digits_after n (c ∷ cs) = if is_ascii_digit c then digits_after (n * 10 + (c - 48)) cs else None

-- `0`, or 1 to 20 digits that do not begin with `0`
unfoldable pub number_of : List ℕ → Option ℕ
number_of word = if length word == 0 then None else if nat_lt 20 (length word) then None else if slice_index word 0 == 48 && not (length word == 1) then None else digits_after 0 word

-- a number, and the bytes that directly follow it
unfoldable pub number_with_unit : List ℕ → Option (ℕ × List ℕ)
number_with_unit word = do
  n ← number_of (take (prefix_len is_ascii_digit word) word)
  Some (n, drop (prefix_len is_ascii_digit word) word)

-- the unit in bit/s
unfoldable pub rate_unit : List ℕ → Option ℕ
rate_unit unit = if bytes_eq unit (codes "") then Some 1
    else if bytes_eq unit (codes "bit/s") then Some 1
    else if bytes_eq unit (codes "Kbit/s") then Some 1000
    else if bytes_eq unit (codes "Mbit/s") then Some 1000000
    else if bytes_eq unit (codes "Gbit/s") then Some 1000000000
    else if bytes_eq unit (codes "Byte/s") then Some 8
    else if bytes_eq unit (codes "KByte/s") then Some 8000
    else if bytes_eq unit (codes "MByte/s") then Some 8000000
    else if bytes_eq unit (codes "GByte/s") then Some 8000000000
    else None

-- a rate in bit/s
unfoldable pub rate_of : List ℕ → Option ℕ
rate_of word = do
  n ← number_with_unit word
  unit ← rate_unit n.1
  Some (n.0 * unit)

-- the unit in ms
unfoldable pub delay_unit : List ℕ → Option ℕ
delay_unit unit = if bytes_eq unit (codes "") then Some 1 else if bytes_eq unit (codes "ms") then Some 1 else None

-- a delay in ms
unfoldable pub delay_of : List ℕ → Option ℕ
delay_of word = do
  n ← number_with_unit word
  unit ← delay_unit n.1
  Some (n.0 * unit)

abbrev pub is_kbytes : List ℕ → Bool
is_kbytes unit = bytes_eq unit (codes "KBytes") || (bytes_eq unit (codes "Kbytes") || (bytes_eq unit (codes "KB") || bytes_eq unit (codes "K")))

-- a number of slots, or of KBytes
unfoldable pub queue_of : List ℕ → Option RawQueue
queue_of word = do
  n ← number_with_unit word
  if bytes_eq n.1 (codes "") then Some (queues.Slots n.0) else if is_kbytes n.1 then Some (queues.KBytes n.0) else None

-- the unit in ns
unfoldable pub time_unit : List ℕ → Option ℕ
time_unit unit = if bytes_eq unit (codes "") then Some 1000000
    else if bytes_eq unit (codes "s") then Some 1000000000
    else if bytes_eq unit (codes "ms") then Some 1000000
    else if bytes_eq unit (codes "us") then Some 1000
    else None

-- a time in ns
unfoldable pub time_of : List ℕ → Option ℕ
time_of word = do
  n ← number_with_unit word
  unit ← time_unit n.1
  Some (n.0 * unit)

-- a fraction in millionths: `0` or `1`, followed by nothing, or by a point and 1 to 6 digits
unfoldable pub decimals_of : List ℕ → Option ℕ
decimals_of digits = if length digits == 0 then None else if nat_lt 6 (length digits) then None else do
  n ← digits_after 0 digits
  Some (n * 10 ^ (6 - length digits))

unfoldable pub fraction_of : List ℕ → Option ℕ
fraction_of [] = None
fraction_of (c ∷ []) = if c == 48 then Some 0 else if c == 49 then Some 1000000 else None
fraction_of (c ∷ point ∷ digits) = if point == 46 then (do
  whole ← if c == 48 then Some 0 else if c == 49 then Some 1000000 else None
  part ← decimals_of digits
  Some (whole + part))
    else None

abbrev pub hex_digit_of : ℕ → Option ℕ
hex_digit_of c = if nat_le 48 c && nat_le c 57 then Some (c - 48)
    else if nat_le 97 c && nat_le c 102 then Some (c - 87)
    else if nat_le 65 c && nat_le c 70 then Some (c - 55)
    else None

abbrev pub hex_digits_after : ℕ → List ℕ → Option ℕ
hex_digits_after n [] = Some n
hex_digits_after n (c ∷ cs) = do
  d ← hex_digit_of c
  hex_digits_after (n * 16 + d) cs

unfoldable pub hex_digits_of : ℕ → List ℕ → Option ℕ
hex_digits_of greatest digits = if length digits == 0 then None else if nat_lt greatest (length digits) then None else hex_digits_after 0 digits

-- `0x`, followed by 1 to `greatest` hexadecimal digits
unfoldable pub hex_of : ℕ → List ℕ → Option ℕ
hex_of greatest [] = None
hex_of greatest (c ∷ []) = None
hex_of greatest (c ∷ x ∷ digits) = if c == 48 then (if x == 120 then hex_digits_of greatest digits else None) else None

-- a time in ms, or `adaptive`
unfoldable pub timing_of : List ℕ → Option RawTiming
timing_of word = if bytes_eq word (codes "adaptive") then Some timings.Adaptive else do
  n ← number_of word
  Some (timings.Fixed n)

-- `@`, directly followed by a number
unfoldable pub moment_of : List ℕ → Option ℕ
moment_of [] = None
moment_of (c ∷ digits) = if c == 64 then number_of digits else None
