-- What a result of the parser means for the bytes.
use Rattle.std.specs.Prelude.{◌≡◌, ℕ, List, Result, Ok, Err}
use Rattle.control.specs.declared.fault.Fault.{Fault}
use Rattle.control.specs.declared.fault.ParseError.{ParseError}
use Rattle.control.specs.declared.fault.ParseError.TheVariants as errors
use Rattle.control.specs.declared.scenario.Experiment.{Experiment}
use Rattle.control.specs.Scenario.{HasFault, Spells, NeedsRoom}

abbrev pub Answer : Type 0
Answer = Result (List Experiment) ParseError

-- an error is the fault of the bytes, or memory ran out for what they spell
abbrev pub IsFaultOf : List ℕ → ParseError → Type 0
IsFaultOf bytes errors.NoMemory = NeedsRoom bytes
IsFaultOf bytes (errors.Fault f) = HasFault bytes f

-- this scenario, or a failed allocation
abbrev pub IsReadAs : List Experiment → Answer → Type 0
IsReadAs s (Ok t) = t ≡ s
IsReadAs s (Err errors.NoMemory) = Unit {0}
IsReadAs s (Err (errors.Fault f)) = ⊥

-- this fault, or a failed allocation
abbrev pub IsFaultedAs : Fault → Answer → Type 0
IsFaultedAs f (Ok t) = ⊥
IsFaultedAs f (Err errors.NoMemory) = Unit {0}
IsFaultedAs f (Err (errors.Fault g)) = g ≡ f

abbrev pub IsFound : List ℕ → Answer → Type 0
IsFound bytes (Ok s) = Spells bytes s
IsFound bytes (Err e) = IsFaultOf bytes e

pub record IsReading (bytes : List ℕ) (answer : Answer) : Type 0 where
  pub found : IsFound bytes answer
  pub only : (s : List Experiment) → Spells bytes s → IsReadAs s answer
  pub faulty : (f : Fault) → HasFault bytes f → IsFaultedAs f answer
