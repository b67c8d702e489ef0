use Rattle.std.proofs.Common.{◌≡◌, ◌++◌, drop}
use Rattle.explain.specs.Warnings.{of_notes}
use Rattle.explain.proofs.warning.put_notes.Given as goal

-- what is told so far, and what is told from here on, is all
abbrev pub invariant-loop-note : goal.invariant-loop-note
invariant-loop-note l = l.out.items ++ of_notes l.number l.commands (drop l.note-index l.notes) ≡ l.initial.out.items ++ of_notes l.number l.commands l.notes
