use Rattle.std.proofs.Common.{◌+◌, ◌++◌, List, drop}
use Rattle.explain.specs.declared.account.RefusedCommand.{RefusedCommand}
use Rattle.explain.specs.declared.notes.Note.{Note}
use Rattle.explain.specs.RunAccount.{IsAccountFrom}
use Rattle.explain.proofs.run_account.account_of.Given as goal

-- with an account of the reports that are left behind it, it is one of all
abbrev pub invariant-loop-place : goal.invariant-loop-place
invariant-loop-place l = (more : List RefusedCommand) (others : List Note) → IsAccountFrom (l.place + 1) (drop l.place l.reports) more others
    → IsAccountFrom 1 l.reports (l.account.refusals ++ more) (l.account.notes ++ others)
