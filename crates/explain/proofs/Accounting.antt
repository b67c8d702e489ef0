-- An account when no report is left.
use Rattle.std.proofs.Common.{◌≡◌, ℕ, List, [], ◌∷◌, ◌++◌, length, refl, arith, subst}
use Rattle.std.proofs.lemmas.List.{append-nil}
use Rattle.explain.specs.declared.account.RefusedCommand.{RefusedCommand}
use Rattle.explain.specs.declared.notes.Note.{Note}
use Rattle.experiment.specs.Written.{KeptReport}
use Rattle.explain.specs.RunAccount.{IsAccountFrom}

pub account_ends : (e : ℕ) (ts rest : List KeptReport) (refusals : List RefusedCommand) (notes : List Note) → length rest ≡ 0 →
    ((more : List RefusedCommand) (others : List Note) → IsAccountFrom e rest more others → IsAccountFrom 1 ts (refusals ++ more) (notes ++ others)) →
    IsAccountFrom 1 ts refusals notes
account_ends e ts [] refusals notes none all =
    subst (λ (r : List RefusedCommand). IsAccountFrom 1 ts r notes) (append-nil refusals)
    (subst (λ (n : List Note). IsAccountFrom 1 ts (refusals ++ []) n) (append-nil notes) (all [] [] (refl, refl)))
account_ends e ts (t ∷ rest) refusals notes none all = absurd (omega (arith, none))
