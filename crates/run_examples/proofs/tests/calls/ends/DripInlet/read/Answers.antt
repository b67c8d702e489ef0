use Rattle.std.proofs.Common.{rules, ◌≡◌, ◌<◌, ℕ, ◌+◌, ◌-◌, length, Bool, true, false, List, [], ◌∷◌, ◌++◌, take, drop, slice_index_or, slice_set, arith, sym, ap, ◌∙◌}
use Rattle.std.proofs.Math.Seq.{take-length}
use Rattle.std.proofs.lemmas.Bool.Decides.{nat_tests}
use Rattle.run_examples.proofs.tests.calls.ends.DripInlet.read.Goals as goal

-- A byte that was copied from the front of a list, and the others, are the list.
one_moved : (left room : List ℕ) → 0 < length left → 0 < length room →
    left ≡ take 1 (slice_set room 0 (slice_index_or left 0 0)) ++ take (length left - 1) (drop 1 left)
one_moved [] room some wide = absurd (omega (arith, some))
one_moved (x ∷ left) [] some wide = absurd (omega (arith, wide))
one_moved (x ∷ left) (y ∷ room) some wide =
    let others : length (x ∷ left) - 1 ≡ length left = omega (arith) in
    ap (λ l. x ∷ l) (sym (ap (λ n. take n left) others ∙ take-length left))

-- src/tests/calls/ends.rt:36:5
pub returns-clause-gives : goal.returns-clause-gives
returns-clause-gives c =
    let some : 0 < length c.args.self.now.left.now = grind (arith, nat_tests, c.if-is_empty.ensures) in
    let wide : 0 < length c.args.room.now = grind (arith, nat_tests, c.if-is_empty-2.ensures) in
    one_moved c.args.self.now.left.now c.args.room.now some wide
