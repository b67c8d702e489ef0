-- What a ring holds after a push.
use Rattle.std.proofs.Common.{◌≡◌, ◌++◌, [], ◌∷◌, ap, sym, ◌∙◌, List}
use Rattle.std.proofs.lemmas.List.{append_cancel_left, append_assoc}

-- what came out before is as it was, so what came in stands last of what is there
pub ring-grown : {A : Type 0} (out out' inside inside' all all' : List A) (x : A) → out ++ inside ≡ all → out' ++ inside' ≡ all' →
    out' ≡ out → all' ≡ all ++ x ∷ [] → inside' ≡ inside ++ x ∷ []
ring-grown out out' inside inside' all all' x was is same more =
    append_cancel_left out inside' (inside ++ x ∷ [])
    (ap (λ o. o ++ inside') (sym same) ∙ is ∙ more ∙ ap (λ l. l ++ x ∷ []) (sym was) ∙ append_assoc out inside (x ∷ []))
