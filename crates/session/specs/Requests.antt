-- The requests of a session (our choice).
use Rattle.std.specs.Prelude.{ℕ, ◌≤◌, ◌^◌, ◌&&◌, Bool, true, false, List, [], ◌∷◌, Option, Some, None, Result, Ok, Err, nat_le, ◌==◌, if◌then◌else◌, codes}
use Rattle.std.specs.Str.{bytes_eq}
use Rattle.control.specs.declared.fault.Cause.{Cause}
use Rattle.control.specs.declared.fault.Cause.TheVariants.{BadWord, OutOfRange}
use Rattle.control_words.specs.Text.{words}
use Rattle.control_words.specs.Numbers.{number_of, moment_of}
use Rattle.control_words.specs.Addresses.{name_of}
use Rattle.control_words.specs.Words.{Words, ◌>>=◌, next, none_left, value}
use Rattle.session.specs.declared.request.Request.{Request}
use Rattle.session.specs.declared.request.Request.TheVariants as code
use Rattle.session.specs.declared.request.RawRequest.{RawRequest}
use Rattle.session.specs.declared.request.RawRequest.TheVariants as raw

pub data Asked : Type 0 where
  Until : ℕ → Asked
  UntilMine : ℕ → ℕ → Asked
  UntilAny : ℕ → ℕ → Asked
  Next : Asked
  AddNext : Bool → Asked
  Use : List ℕ → Asked
  Show : Bool → Asked
  Trace : Bool → Asked
  Help : Asked

abbrev pub view_request : Request → Asked
view_request (code.Until limit) = Until limit
view_request (code.UntilMine limit hold) = UntilMine limit hold
view_request (code.UntilAny limit hold) = UntilAny limit hold
view_request code.Next = Next
view_request (code.AddNext on) = AddNext on
view_request (code.Use name) = Use name.now
view_request (code.Show all) = Show all
view_request (code.Trace on) = Trace on
view_request code.Help = Help

abbrev pub view_raw : RawRequest → Asked
view_raw (raw.Until limit) = Until limit
view_raw (raw.UntilMine limit hold) = UntilMine limit hold
view_raw (raw.UntilAny limit hold) = UntilAny limit hold
view_raw raw.Next = Next
view_raw (raw.AddNext on) = AddNext on
view_raw (raw.Use name) = Use name.now
view_raw (raw.Show all) = Show all
view_raw (raw.Trace on) = Trace on
view_raw raw.Help = Help

-- ---- the words
-- the rest of a line that begins with `#>`
unfoldable pub asked_of : List ℕ → Option (List ℕ)
asked_of [] = None
asked_of (x ∷ []) = None
asked_of (x ∷ y ∷ rest) = if x == 35 then (if y == 62 then Some rest else None) else None

-- [G], up to the end of the line; 1 by default
unfoldable pub hold_of : Words → Option ℕ
hold_of [] = Some 1
hold_of (word ∷ ws) = do
  n ← number_of word
  end ← none_left ws
  Some n

abbrev pub held_mine : ℕ → Words → Option Asked
held_mine limit ws = do
  hold ← hold_of ws
  Some (UntilMine limit hold)

abbrev pub held_any : ℕ → Words → Option Asked
held_any limit ws = do
  hold ← hold_of ws
  Some (UntilAny limit hold)

-- [any] [G]
unfoldable pub first_of : ℕ → Words → Option Asked
first_of limit [] = held_mine limit []
first_of limit (word ∷ ws) = if bytes_eq word (codes "any") then held_any limit ws else held_mine limit (word ∷ ws)

abbrev pub until_moment : ℕ → Words → Option Asked
until_moment limit [] = Some (Until limit)
until_moment limit (word ∷ ws) = if bytes_eq word (codes "first") then first_of limit ws else None

-- @M [first [any] [G]]
unfoldable pub until_of : Words → Option Asked
until_of ws = do
  limit ← value moment_of ws
  until_moment limit.0 limit.1

-- NAME
unfoldable pub used_of : Words → Option Asked
used_of ws = do
  name ← value name_of ws
  end ← none_left name.1
  Some (Use name.0)

abbrev pub ended_of : Asked → Words → Option Asked
ended_of a ws = do
  end ← none_left ws
  Some a

-- nothing, or on, or off
unfoldable pub next_of : Words → Option Asked
next_of [] = Some Next
next_of (word ∷ ws) =
    if bytes_eq word (codes "on") then ended_of (AddNext true) ws
    else if bytes_eq word (codes "off") then ended_of (AddNext false) ws
    else None

-- all, or mine
unfoldable pub shown_of : Words → Option Asked
shown_of ws = do
  word ← next ws
  if bytes_eq word.0 (codes "all") then ended_of (Show true) word.1
      else if bytes_eq word.0 (codes "mine") then ended_of (Show false) word.1
      else None

-- on, or off
unfoldable pub trace_of : Words → Option Asked
trace_of ws = do
  word ← next ws
  if bytes_eq word.0 (codes "on") then ended_of (Trace true) word.1
      else if bytes_eq word.0 (codes "off") then ended_of (Trace false) word.1
      else None

unfoldable pub shape_of : Words → Option Asked
shape_of ws = do
  word ← next ws
  if bytes_eq word.0 (codes "until") then until_of word.1
      else if bytes_eq word.0 (codes "next") then next_of word.1
      else if bytes_eq word.0 (codes "use") then used_of word.1
      else if bytes_eq word.0 (codes "show") then shown_of word.1
      else if bytes_eq word.0 (codes "trace") then trace_of word.1
      else if bytes_eq word.0 (codes "help") then ended_of Help word.1
      else None

-- ---- the numbers
-- a number that is at most 10^15 ns, and at least `least`: 0 for a time, and 1 for the hold after a delivery or a drop
abbrev pub time_within : ℕ → ℕ → Option ℕ
time_within least n = if nat_le least n && nat_le n (10 ^ 15) then Some n else None

unfoldable pub asked_within : Asked → Option Asked
asked_within (Until limit) = do
  m ← time_within 0 limit
  Some (Until m)
asked_within (UntilMine limit hold) = do
  m ← time_within 0 limit
  h ← time_within 1 hold
  Some (UntilMine m h)
asked_within (UntilAny limit hold) = do
  m ← time_within 0 limit
  h ← time_within 1 hold
  Some (UntilAny m h)
asked_within Next = Some Next
asked_within (AddNext on) = Some (AddNext on)
asked_within (Use name) = Some (Use name)
asked_within (Show all) = Some (Show all)
asked_within (Trace on) = Some (Trace on)
asked_within Help = Some Help

abbrev pub ranged : Option Asked → Result Asked Cause
ranged None = Err OutOfRange
ranged (Some a) = Ok a

abbrev pub shaped : Option Asked → Result Asked Cause
shaped None = Err BadWord
shaped (Some a) = ranged (asked_within a)

-- the request of a line after its `#>`, or its fault
unfoldable pub request_of : List ℕ → Result Asked Cause
request_of line = shaped (shape_of (words line))

-- ---- the ranges of a parsed request
abbrev pub IsInRange : Request → Type 0
IsInRange (code.Until limit) = limit ≤ 10 ^ 15
IsInRange (code.UntilMine limit hold) = (limit ≤ 10 ^ 15) × (1 ≤ hold) × (hold ≤ 10 ^ 15)
IsInRange (code.UntilAny limit hold) = (limit ≤ 10 ^ 15) × (1 ≤ hold) × (hold ≤ 10 ^ 15)
IsInRange _ = Unit {0}
