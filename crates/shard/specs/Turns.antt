-- What the results of a shard mean for its seats.
use Rattle.std.specs.Prelude.{◌≡◌, ℕ, zero, suc, ◌+◌, ◌^◌, ◌<◌, ◌≤◌, ◌⊎◌, Bool, true, [], ◌∷◌, ◌++◌, List, Some, None, IsSome, slice_set, Option}
use Rattle.emu_model.specs.declared.commands.Timed.{Timed}
use Rattle.emu_model.specs.declared.records.Ending.{Ending}
use Rattle.emu_model.specs.declared.records.Ending.TheVariants.{Ended as ByEnd, Spent, Halted}
use Rattle.emu_model.specs.Net.{counters_of}
use Rattle.emu_model.specs.Step.{State, step}
use Rattle.emu_model.specs.RunLaws.{with_more}
use Rattle.experiment.specs.Dues.{next_due_in}
use Rattle.experiment.specs.Kept.{last_moment, shown_ending}
use Rattle.shard.specs.Seen.{Seen, IsToldMore, IsPublished}
use Rattle.shard.specs.declared.shard.Turned.{Turned}
use Rattle.shard.specs.declared.shard.Turned.TheVariants.{Ran, Ended, Idle}
use Rattle.shard.specs.declared.shard.Polled.{Polled}
use Rattle.shard.specs.declared.shard.Polled.TheVariants.{Vacant, Took, Resumed, Held, Empty, NoMemory}
use Rattle.shard.specs.declared.shard.TakeInError.{TakeInError}
use Rattle.shard.specs.declared.shard.TakeInError.TheVariants.{Crowded, NoMemory as NoRoom}
use Rattle.shard.specs.Stand.{Stand, Seat, Final, Seating, seat_at, stands_of}
use Rattle.shard.specs.Entries.{entry_at}

-- the name and what is shown do not change
pub record SameView {M : Type 0} (s t : Stand M) : Type 0 where
  pub name : t.name ≡ s.name
  pub spec : t.spec ≡ s.spec
  pub consumed : t.consumed ≡ s.consumed
  pub state : t.state ≡ s.state

-- one step was made, and records were published
pub record IsTurn {M : Type 0} (seen : M → Seen) (s t : Stand M) : Type 0 where
  pub name : t.name ≡ s.name
  pub spec : t.spec ≡ s.spec
  pub consumed : t.consumed ≡ s.consumed
  pub state : t.state ≡ step s.state
  pub made : t.state.steps ≡ s.state.steps + 1
  pub mail : IsToldMore seen s.mail t.mail
  pub published : IsPublished seen t.state.net.records t.mail

-- the state in which an experiment ends: after its last step, or unchanged if it was halted
abbrev pub last_state : Ending → State → State
last_state ByEnd s = step s
last_state Spent s = step s
last_state Halted s = s

-- an experiment ended
pub record IsEnd {M : Type 0} (seen : M → Seen) (s : Stand M) (d : Final M) : Type 0 where
  pub name : d.name ≡ s.name
  pub spec : d.spec ≡ s.spec
  pub commands : d.commands ≡ s.consumed
  pub records : d.records ≡ (last_state d.ending s.state).net.records
  pub counters : d.counters ≡ counters_of (last_state d.ending s.state).net
  pub events : d.events ≡ (last_state d.ending s.state).steps
  pub ending : shown_ending (Some d.ending) ≡ (last_state d.ending s.state).ending
  pub mail : IsToldMore seen s.mail d.mail
  pub published : IsPublished seen d.records d.mail

-- n turns were made, one after the other
abbrev pub AreTurns : {M : Type 0} → (M → Seen) → ℕ → Stand M → Stand M → Type 0
AreTurns {M} seen zero s t = t ≡ s
AreTurns {M} seen (suc n) s u = (t : Stand M) × AreTurns seen n s t × IsTurn seen t u

-- the agenda was rewound: what is shown does not change, and a resident that had an entry still has one
pub record IsRebased {M : Type 0} (old new : Seating M) : Type 0 where
  pub stands : stands_of new.seats ≡ stands_of old.seats
  pub clock : new.clock ≡ 0
  pub offsets : (k : ℕ) (s : Seat M) → seat_at new.seats k ≡ Some s → (s.offset ≡ None) ⊎ (s.offset ≡ Some 0)
  pub kept : (k : ℕ) (s : Seat M) → seat_at old.seats k ≡ Some s → IsSome s.offset → (t : Seat M) × (seat_at new.seats k ≡ Some t) × IsSome t.offset

-- the agenda is rewound exactly if its clock has reached 2^62
abbrev pub Settles : {M : Type 0} → Seating M → Seating M → Type 0
Settles old new = ((old.clock < 2 ^ 62) × (new ≡ old)) ⊎ ((2 ^ 62 ≤ old.clock) × IsRebased old new)

-- the time of a resident's entry in the agenda (ns); None if the resident is parked
abbrev pub entry_of : {M : Type 0} → Seat M → Option ℕ
entry_of s = entry_at s.offset (next_due_in s.stand.state)

-- the entry of a slot is the first: none is earlier, and none at the same time has a lower slot
pub record IsFirst {M : Type 0} (seats : List (Option (Seat M))) (slot : ℕ) (s : Seat M) : Type 0 where
  pub at : ℕ
  pub is : entry_of s ≡ Some at
  pub least : (k : ℕ) (x : Seat M) (d : ℕ) → seat_at seats k ≡ Some x → entry_of x ≡ Some d → (at ≤ d) × (at ≡ d → slot ≤ k)

-- the resident of a slot made a step, and no other slot changed; the resident has an entry if a command is left
pub record RanAt {M : Type 0} (seen : M → Seen) (name : ℕ) (old new : Seating M) (slot : ℕ) (s t : Seat M) : Type 0 where
  pub was : seat_at old.seats slot ≡ Some s
  pub name_is : s.stand.name ≡ name
  pub ready : IsSome s.offset
  pub turn : IsTurn seen s.stand t.stand
  pub entered : (t.stand.state.left ≡ []) ⊎ IsSome t.offset
  pub others : new.seats ≡ slice_set old.seats slot (Some t)

-- the resident of a slot ended
pub record EndedAt {M : Type 0} (seen : M → Seen) (d : Final M) (old new : Seating M) (slot : ℕ) (s : Seat M) : Type 0 where
  pub was : seat_at old.seats slot ≡ Some s
  pub ready : IsSome s.offset
  pub end : IsEnd seen s.stand d
  pub others : new.seats ≡ slice_set old.seats slot None

abbrev pub Turns : {M : Type 0} → (M → Seen) → Turned M → Seating M → Seating M → Type 0
Turns {M} seen (Ran name) old new = (slot : ℕ) × (s : Seat M) × (t : Seat M) × RanAt seen name old new slot s t
Turns {M} seen (Ended d) old new = (slot : ℕ) × (s : Seat M) × EndedAt seen d old new slot s
Turns {M} seen Idle old new =
    (new ≡ old) × ((slot : ℕ) (s : Seat M) → seat_at old.seats slot ≡ Some s → s.offset ≡ None)

-- one turn of the resident whose entry is the first
abbrev pub TurnsFirst : {M : Type 0} → (M → Seen) → Turned M → Seating M → Seating M → Type 0
TurnsFirst {M} seen (Ran name) old new =
    (slot : ℕ) × (s : Seat M) × (t : Seat M) × RanAt seen name old new slot s t × IsFirst old.seats slot s
TurnsFirst {M} seen (Ended d) old new =
    (slot : ℕ) × (s : Seat M) × EndedAt seen d old new slot s × IsFirst old.seats slot s
TurnsFirst {M} seen Idle old new = Turns seen Idle old new

-- like `TurnsFirst`, after the agenda is rewound if its clock requires that
abbrev pub TurnsSettled : {M : Type 0} → (M → Seen) → Turned M → Seating M → Seating M → Type 0
TurnsSettled {M} seen answer old new = (mid : Seating M) × Settles old mid × TurnsFirst seen answer mid new

-- the resident of a slot, whose entry is the first, made n turns one after the other, and no other slot changed;
-- the resident has an entry if a command is left
pub record RanFor {M : Type 0} (seen : M → Seen) (n name : ℕ) (old new : Seating M) (slot : ℕ) (s t : Seat M) : Type 0 where
  pub was : seat_at old.seats slot ≡ Some s
  pub name_is : s.stand.name ≡ name
  pub ready : IsSome s.offset
  pub first : IsFirst old.seats slot s
  pub turns : AreTurns seen n s.stand t.stand
  pub entered : (t.stand.state.left ≡ []) ⊎ IsSome t.offset
  pub others : new.seats ≡ slice_set old.seats slot (Some t)

-- the resident of a slot, whose entry is the first, made n turns, after which it was `t`, and ended in the next turn
pub record EndedAfter {M : Type 0} (seen : M → Seen) (n : ℕ) (d : Final M) (old new : Seating M) (slot : ℕ) (s : Seat M) (t : Stand M) : Type 0 where
  pub was : seat_at old.seats slot ≡ Some s
  pub ready : IsSome s.offset
  pub first : IsFirst old.seats slot s
  pub turns : AreTurns seen n s.stand t
  pub end : IsEnd seen t d
  pub others : new.seats ≡ slice_set old.seats slot None

-- why no further turn followed: as many as requested were made, there is no next command, or the watcher may have
-- returned false
abbrev pub LeavesOff : {M : Type 0} → Bool → ℕ → ℕ → Stand M → Type 0
LeavesOff may_refuse more ran t = (ran ≡ more + 1) ⊎ ((t.state.left ≡ []) ⊎ (may_refuse ≡ true))

-- one turn and at most `more` further turns of the same resident, of which `ran` ran
abbrev pub ManyTurns : {M : Type 0} → (M → Seen) → Bool → ℕ → ℕ → Turned M → Seating M → Seating M → Type 0
ManyTurns {M} seen may_refuse more ran (Ran name) old new =
    (1 ≤ ran) × (ran ≤ more + 1) × ((slot : ℕ) × (s : Seat M) × (t : Seat M) × LeavesOff may_refuse more ran t.stand × RanFor seen ran name old new slot s t)
ManyTurns {M} seen may_refuse more ran (Ended d) old new =
    (ran ≤ more) × ((slot : ℕ) × (s : Seat M) × (t : Stand M) × EndedAfter seen ran d old new slot s t)
ManyTurns {M} seen may_refuse more ran Idle old new =
    (ran ≡ 0) × (new ≡ old) × ((slot : ℕ) (s : Seat M) → seat_at old.seats slot ≡ Some s → s.offset ≡ None)

-- this many single turns, one after the other, each of the resident with this name
abbrev pub TurnsOf : {M : Type 0} → (M → Seen) → ℕ → ℕ → Seating M → Seating M → Type 0
TurnsOf {M} seen zero name old new = new ≡ old
TurnsOf {M} seen (suc n) name old new =
    (mid : Seating M) × TurnsOf seen n name old mid × Turns seen (Ran name) mid new

-- the single turns that equal many turns: as many as ran, and, if the resident ended, one more in which it ended
abbrev pub SingleTurns : {M : Type 0} → (M → Seen) → ℕ → Turned M → Seating M → Seating M → Type 0
SingleTurns {M} seen ran (Ran name) old new = TurnsOf seen ran name old new
SingleTurns {M} seen ran (Ended d) old new =
    (mid : Seating M) × TurnsOf seen ran d.name old mid × Turns seen (Ended d) mid new
SingleTurns {M} seen ran Idle old new = Turns seen Idle old new

-- many turns equal single turns
abbrev pub ManyAreSingle : {M : Type 0} → (M → Seen) → Type 0
ManyAreSingle {M} seen = (may_refuse : Bool) (more ran : ℕ) (answer : Turned M) (old new : Seating M) →
    ManyTurns seen may_refuse more ran answer old new → SingleTurns seen ran answer old new

-- like `ManyTurns`, after the agenda is rewound if its clock requires that
abbrev pub ManyTurnsSettled : {M : Type 0} → (M → Seen) → Bool → ℕ → ℕ → Turned M → Seating M → Seating M → Type 0
ManyTurnsSettled {M} seen may_refuse more ran answer old new =
    (mid : Seating M) × Settles old mid × ManyTurns seen may_refuse more ran answer mid new

-- the watcher was called with a name this many times, and returned true each time
abbrev pub SaidYes : {W : Type 0} → (ℕ → Bool → W → W → Type 0) → ℕ → ℕ → W → W → Type 0
SaidYes {W} hears name zero v w = w ≡ v
SaidYes {W} hears name (suc n) v w = (u : W) × SaidYes hears name n v u × hears name true u w

-- the watcher was called with a name this many times, and returned true each time, except perhaps the last time
abbrev pub Heard : {W : Type 0} → (ℕ → Bool → W → W → Type 0) → ℕ → ℕ → W → W → Type 0
Heard {W} hears name zero v w = w ≡ v
Heard {W} hears name (suc n) v w = (u : W) × SaidYes hears name n v u × ((answer : Bool) × hears name answer u w)

-- the watcher was called after each of the turns that ran: it returned true each time, except perhaps the last time if
-- no turn followed; each time if the resident ended in the next turn
abbrev pub HeardOf : {M W : Type 0} → (ℕ → Bool → W → W → Type 0) → Turned M → ℕ → ℕ → W → W → Type 0
HeardOf {M} {W} hears (Ran n) name ran v w = Heard hears name ran v w
HeardOf {M} {W} hears (Ended d) name ran v w = SaidYes hears name ran v w
HeardOf {M} {W} hears Idle name ran v w = w ≡ v

-- the name of the resident whose turns these were
abbrev pub NamesIt : {M : Type 0} → Turned M → ℕ → Type 0
NamesIt (Ran n) name = n ≡ name
NamesIt (Ended d) name = d.name ≡ name
NamesIt Idle name = Unit {0}

-- a parcel was taken in at the first vacant slot
pub record TakenIn {M : Type 0} (parcel : Stand M) (old new : Seating M) (slot : ℕ) (s : Seat M) : Type 0 where
  pub vacant : seat_at old.seats slot ≡ None
  pub inside : slot < 256
  pub least : (k : ℕ) → k < slot → IsSome (seat_at old.seats k)
  pub same : s.stand ≡ parcel
  pub there : seat_at new.seats slot ≡ Some s
  pub others : new.seats ≡ slice_set old.seats slot (Some s)
  pub clock : new.clock ≡ old.clock

-- the parcel is returned; `Crowded` means that no slot is vacant
abbrev pub ComesBack : {M : Type 0} → Stand M → Seating M → TakeInError M → Type 0
ComesBack parcel old (Crowded p) = (p ≡ parcel) × ((k : ℕ) → k < 256 → IsSome (seat_at old.seats k))
ComesBack parcel old (NoRoom p) = p ≡ parcel

-- a slot is vacant if the error is that memory ran out
abbrev pub HasVacancy : {M : Type 0} → Seating M → TakeInError M → Type 0
HasVacancy old (Crowded p) = Unit {0}
HasVacancy old (NoRoom p) = (k : ℕ) × (k < 256) × (seat_at old.seats k ≡ None)

-- a resident became a parcel
pub record PackedAt {M : Type 0} (parcel : Stand M) (old new : Seating M) (slot : ℕ) (s : Seat M) : Type 0 where
  pub was : seat_at old.seats slot ≡ Some s
  pub same : parcel ≡ s.stand
  pub others : new.seats ≡ slice_set old.seats slot None
  pub clock : new.clock ≡ old.clock

-- a mail delivered a command, after letters were added to it
pub record Gives {M : Type 0} (seen : M → Seen) (old : M) (c : Timed) (new : M) : Type 0 where
  pub given : (seen new).given ≡ (seen old).given ++ c ∷ []
  pub posted : (seen new).posted ≡ (seen old).posted
  pub read : (seen new).read ≡ (seen old).read

-- the next command came
pub record TookNext {M : Type 0} (seen : M → Seen) (s t : Stand M) (c : Timed) : Type 0 where
  pub name : t.name ≡ s.name
  pub spec : t.spec ≡ s.spec
  pub mail : Gives seen s.mail c t.mail
  pub waits : s.state.left ≡ []
  pub consumed : t.consumed ≡ s.consumed ++ c ∷ []
  pub state : t.state ≡ with_more (c ∷ []) s.state

-- no command came that could be consumed: none is known to wait, or its time was before that of the last one
abbrev pub NothingCame : {M : Type 0} → (M → Seen) → Stand M → Stand M → Type 0
NothingCame seen s t =
    (((seen t.mail).dry ≡ true) × (seen t.mail ≡ record (seen s.mail) {
      letters = (seen t.mail).letters;
      dry = (seen t.mail).dry;
      full = (seen t.mail).full;
    }))
    ⊎ ((c : Timed) × (c.moment < last_moment 0 s.consumed) × Gives seen s.mail c t.mail)

-- a poll: a command that was taken is the last one and is next; otherwise what is shown does not change
abbrev pub Polls : {M : Type 0} → (M → Seen) → Polled → Seat M → Seat M → Type 0
Polls {M} seen Vacant s t = ⊥
Polls {M} seen (Took n) s t = (s.stand.name ≡ n) × ((c : Timed) × TookNext seen s.stand t.stand c)
Polls {M} seen (Resumed n) s t =
    (s.stand.name ≡ n) × SameView s.stand t.stand × IsToldMore seen s.stand.mail t.stand.mail × (s.offset ≡ None) × IsSome t.offset
Polls {M} seen (Held n) s t =
    (s.stand.name ≡ n) × SameView s.stand t.stand × IsToldMore seen s.stand.mail t.stand.mail × IsSome s.offset × (t.offset ≡ s.offset)
Polls {M} seen (Empty n) s t =
    (s.stand.name ≡ n) × SameView s.stand t.stand × NothingCame seen s.stand t.stand × (s.stand.state.left ≡ []) × (t.offset ≡ s.offset)
Polls {M} seen (NoMemory n) s t =
    (s.stand.name ≡ n) × SameView s.stand t.stand × IsToldMore seen s.stand.mail t.stand.mail × (s.offset ≡ None) × (t.offset ≡ None)

-- the resident of a slot was polled, and no other slot changed
pub record PolledAt {M : Type 0} (seen : M → Seen) (answer : Polled) (old new : Seating M) (slot : ℕ) (s t : Seat M) : Type 0 where
  pub was : seat_at old.seats slot ≡ Some s
  pub polls : Polls seen answer s t
  pub published : IsPublished seen t.stand.state.net.records t.stand.mail
  pub others : new ≡ record old { seats = slice_set old.seats slot (Some t) }

-- a poll of a slot, which may be vacant
abbrev pub IsPoll : {M : Type 0} → (M → Seen) → Polled → Seating M → Seating M → ℕ → Type 0
IsPoll {M} seen answer old new slot =
    ((answer ≡ Vacant) × (new ≡ old) × (seat_at old.seats slot ≡ None))
    ⊎ ((s t : Seat M) × PolledAt seen answer old new slot s t)
