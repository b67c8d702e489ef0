use Rattle.std.proofs.Common.{◌≡◌, ◌-◌, ◌≤◌, ◌++◌, length, drop}
use Rattle.std.specs.Prelude.{flat_map}
use Rattle.explain.specs.Account.{refusals_by}
use Rattle.explain.specs.Notes.{notes_from, notes_of}
use Rattle.explain.proofs.account.Account.take.Given as goal

-- what is left, behind what was told so far, is all
abbrev pub invariant-loop-entry : goal.invariant-loop-entry
invariant-loop-entry l = record {
  refusals : l.self-inside.refusals.items ++ flat_map (refusals_by l.experiment) l.reader
      ≡ l.initial.self-inside.refusals.items ++ flat_map (refusals_by l.experiment) l.records;
  notes : notes_from l.experiment l.reader l.notes.items ≡ notes_of l.experiment l.records;
  kept : l.self-inside.notes.items ≡ l.initial.self-inside.notes.items;
}

abbrev pub decreases-loop-entry : goal.decreases-loop-entry
decreases-loop-entry l = length l.reader
