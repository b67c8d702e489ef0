-- What reports hold.
use Rattle.std.specs.Prelude.{◌≡◌, ℕ, ◌+◌, List, [], ◌∷◌, ◌++◌, flat_map}
use Rattle.experiment.specs.Written.{KeptReport}
use Rattle.explain.specs.declared.account.RefusedCommand.{RefusedCommand}
use Rattle.explain.specs.declared.notes.Note.{Note}
use Rattle.explain.specs.Account.{Told, refusals_by}
use Rattle.explain.specs.Notes.{notes_of}

-- the refusals and the notes of the records of reports, the first of which is that of the experiment with this number
abbrev pub IsAccountFrom : ℕ → List KeptReport → List RefusedCommand → List Note → Type 0
IsAccountFrom e [] refusals notes = (refusals ≡ []) × (notes ≡ [])
IsAccountFrom e (r ∷ rs) refusals notes =
    (more : List RefusedCommand) × (others : List Note)
    × (refusals ≡ flat_map (refusals_by e) r.records ++ more) × (notes ≡ notes_of e r.records ++ others) × IsAccountFrom (e + 1) rs more others

-- the experiments of a scenario have the numbers from 1 on
abbrev pub IsAccountOf : List KeptReport → Told → Type 0
IsAccountOf rs told = IsAccountFrom 1 rs told.refusals told.notes
