use Rattle.std.proofs.Common.{◌≡◌, ℕ, List, [], ◌∷◌, map, length, refl, subst, sym, arith}
use Rattle.std.proofs.lemmas.Bool.Decides.{nat_tests}
use Rattle.emu_model.specs.DropTail.{Queued}
use Rattle.pipe_core.specs.Moves.{Taking}
use Rattle.pipe_core.proofs.TakeFacts.{taking_none}
use Rattle.pipe_core.proofs.takes.take_dropped.Goals as goal

no-items : (ws : List (Queued ℕ)) → length ws ≡ 0 → map (λ w. w.item) ws ≡ []
no-items [] e = refl
no-items (w ∷ ws) e = absurd (omega (arith, e))

pub returns-then-is_empty-clause-taken : goal.returns-then-is_empty-clause-taken
returns-then-is_empty-clause-taken g c =
    let p = g.S.Shelf.pocket c.args.shelf.now c.args.owner in
    let none : length c.args.dropped.now ≡ 0 = grind (arith, nat_tests, c.if-is_empty.ensures) in
    subst (λ ks. Taking p p ks [] c.args.drops.now.items c.args.drops.now.items) (sym (no-items c.args.dropped.now none))
    (taking_none p [] c.args.drops.now.items)
