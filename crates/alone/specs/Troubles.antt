-- What the result of a reader or a writer means.
use Rattle.std.specs.Prelude.{ℕ, Bool, true, false, List, [], take, Result, Ok, Err}
use Rattle.alone.specs.declared.ends.Trouble.{Trouble}
use Rattle.alone.specs.declared.ends.Trouble.TheVariants.{Interrupted, Failed}

-- whether a reader or writer with this result has failed
abbrev pub has_failed : {T : Type 0} → Result T Trouble → Bool
has_failed (Ok _) = false
has_failed (Err Interrupted) = false
has_failed (Err Failed) = true

-- the bytes that a read returned
abbrev pub bytes_given : {E : Type 0} → Result ℕ E → List ℕ → List ℕ
bytes_given (Ok n) room = take n room
bytes_given (Err e) room = []
