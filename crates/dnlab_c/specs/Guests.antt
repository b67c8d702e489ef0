-- The output of a session for a caller that is not written in Rattle.
use Rattle.std.specs.Prelude.{◌≡◌, ℕ, ◌+◌, ◌-◌, ◌^◌, ◌<◌, ◌≤◌, ◌⊎◌, Bool, true, false, All, List, [], ◌++◌, length, flat_map, Option, Some, None, min}
use Rattle.control.specs.declared.fault.Cause.{Cause}
use Rattle.control.specs.declared.fault.Cause.TheVariants.{NoEnd}
use Rattle.session.specs.declared.answer.Answer.TheVariants as answers
use Rattle.session.specs.Lines.{answer_line}
use Rattle.session.specs.Faults.{IsFaultOf}
use Rattle.session.specs.Effects.{LineDoes}
use Rattle.session.specs.Sessions.{KeptSession, Piece, Takes, written}
use Rattle.dnlab_c.specs.declared.answer.Answer.{Answer}
use Rattle.dnlab_c.specs.Answers.{IsPut, plain, no_memory, faulty}

-- the session, its output that was not handed over yet, the number of lines received, and whether an allocation has failed
pub record KeptGuest : Type 0 where
  pub session : KeptSession
  pub out : List ℕ
  pub lines : ℕ
  pub is_lost : Bool

-- a session that has received nothing
abbrev pub fresh : KeptGuest
fresh = record { session = record { opened = []; current = 0; left = None; traces = false }; out = []; lines = 0; is_lost = false }

-- one more line; a count that would not fit into 64 bits does not change
abbrev pub next_line : ℕ → ℕ
next_line n = min (n + 1) (2 ^ 64 - 1)

-- a rejected line has its fault as its answer, and nothing changes; an accepted line is obeyed
abbrev pub IsSaidBy : Option Cause → List ℕ → List ℕ → KeptSession → KeptSession → Type 0
IsSaidBy (Some cause) line said old new = (said ≡ answer_line (answers.Fault cause)) × (new ≡ old)
IsSaidBy None line said old new = LineDoes line said old new × ((ps : List Piece) × (said ≡ flat_map written ps) × Takes line ps old new)

-- the output of a session for a line
pub record IsSaidTo (line said : List ℕ) (old new : KeptSession) : Type 0 where
  pub fault : Option Cause
  pub is_fault : IsFaultOf line old fault
  pub is_said : IsSaidBy fault line said old new

-- a text was put into the buffer, and nothing of it remains; or the buffer is too small, nothing was put and all of it remains
pub record HandsOver (text before room stays : List ℕ) (a : Answer) : Type 0 where
  pub put : IsPut text before room a
  pub none : length text ≤ length before → stays ≡ []
  pub all : length before < length text → (stays ≡ text) × (room ≡ before)

-- a line was received, and its output is handed over, after what did not fit into a smaller buffer before
pub record IsHeard (line before room : List ℕ) (old new : KeptGuest) (a : Answer) : Type 0 where
  pub said : List ℕ
  pub says : IsSaidTo line said old.session new.session
  pub hands : HandsOver (old.out ++ said) before room new.out a
  pub lines : new.lines ≡ next_line old.lines
  pub goes_on : new.is_lost ≡ false

-- the line was received; or the status is 3, because an allocation failed now or before, and will be 3 from now on
abbrev pub HearsIn : Bool → List ℕ → List ℕ → List ℕ → KeptGuest → KeptGuest → Answer → Type 0
HearsIn true line before room old new a = (a ≡ no_memory) × (new ≡ old) × (room ≡ before)
HearsIn false line before room old new a = IsHeard line before room old new a ⊎ ((a ≡ no_memory) × (new.is_lost ≡ true) × (room ≡ before))

abbrev pub Hears : List ℕ → List ℕ → List ℕ → KeptGuest → KeptGuest → Answer → Type 0
Hears line before room old new a = HearsIn old.is_lost line before room old new a

-- the status: 3 if an allocation failed; otherwise 0 if each experiment has its end, and 1 with the line after the last if not
pub record Ends (g : KeptGuest) (a : Answer) : Type 0 where
  pub lost : g.is_lost ≡ true → a ≡ no_memory
  pub whole : g.is_lost ≡ false → All (λ o. o.is_closed ≡ true) g.session.opened → a ≡ plain 0 0
  pub open_one : g.is_lost ≡ false → (¬ All (λ o. o.is_closed ≡ true) g.session.opened) →
      a ≡ faulty (record { line = next_line g.lines; cause = NoEnd })

-- ---- the calls: they act on a session if there is one, and have the status 2 if there is none
abbrev pub Opens : Option KeptGuest → Answer → Type 0
Opens new a = ((a ≡ plain 0 0) × (new ≡ Some fresh)) ⊎ ((a ≡ no_memory) × (new ≡ None))

abbrev pub TakesAt : List ℕ → List ℕ → List ℕ → Option KeptGuest → Option KeptGuest → Answer → Type 0
TakesAt line before room None new a = (a ≡ plain 2 0) × (new ≡ None) × (room ≡ before)
TakesAt line before room (Some g) new a = (h : KeptGuest) × (new ≡ Some h) × Hears line before room g h a

abbrev pub ClosesAt : Option KeptGuest → Option KeptGuest → Answer → Type 0
ClosesAt None new a = (a ≡ plain 2 0) × (new ≡ None)
ClosesAt (Some g) new a = Ends g a × (new ≡ None)
