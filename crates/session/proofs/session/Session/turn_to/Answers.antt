use Rattle.std.proofs.Common.{◌++◌, ◌∷◌, [], List, ℕ, sym, ap, ◌∙◌, append_assoc, append-nil}
use Rattle.std.specs.Prelude.{codes}
use Rattle.session.specs.Sessions.{Turned}
use Rattle.session.proofs.session.Session.turn_to.Goals as goal

pub returns-clause-turns : goal.returns-clause-turns
returns-clause-turns c =
    let head : List ℕ = codes "#: " in
    let end : List ℕ = codes "\n" in
    let out = c.args.out.now.items in
    let name = c.args.name.now in (
      Turned name ∷ [],
      c.in_ok-extend_from_slice-3.ensures.items
          ∙ ap (λ l. l ++ end) (c.in_ok-extend_from_slice-2.ensures.items ∙ ap (λ l. l ++ name) c.in_ok-extend_from_slice.ensures.items ∙ append_assoc out head name)
          ∙ append_assoc out (head ++ name) end
          ∙ ap (λ l. out ++ l) (sym (append-nil ((head ++ name) ++ end))),
      λ fine plain. plain.0,
    )
