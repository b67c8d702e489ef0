use Rattle.std.proofs.Common.{◌≡◌, ℕ, ◌+◌, ◌<◌, ◌≤◌, ◌++◌, take, drop, inl, inr, sym, ap, subst, ◌∙◌, arith, append_assoc}
use Rattle.std.proofs.lemmas.Bool.{cases_order}
use Rattle.std.proofs.lemmas.List.{take-append-drop, take-take}
use Rattle.control_words.specs.Words.{Words}
use Rattle.control.specs.declared.word_fault.Check.{Check}
use Rattle.control.specs.FirstWrong.{IsFine, IsFirstWrong}
use Rattle.control.proofs.word_fault_law.one_is_first_wrong.Goals as goal

-- the words before the later one begin with those up to the earlier one
not_before : (check : Check) (ws : Words) (j k : ℕ) → j < k → IsFirstWrong check ws j → IsFirstWrong check ws k → ⊥
not_before check ws j k lt a b =
    let less : j + 1 ≤ k = omega arith in
    let front : take (j + 1) (take k ws) ≡ take (j + 1) ws = take-take (j + 1) k ws less in
    let more : Words = drop (j + 1) (take k ws) ++ b.begun.0 in
    let split : take k ws ++ b.begun.0 ≡ take (j + 1) ws ++ more = ap (λ (x : Words). x ++ b.begun.0) (sym (take-append-drop (j + 1) (take k ws)) ∙ ap (λ (x : Words). x ++ drop (j + 1) (take k ws)) front) ∙ append_assoc (take (j + 1) ws) (drop (j + 1) (take k ws)) b.begun.0 in
    a.wrong (omega (arith, b.within)) more (subst (λ (x : Words). IsFine check x) split b.begun.1)

pub returns : goal.returns
returns c = λ check ws j k a b. elim (cases_order j k) [
  | inl e ↦ e
  | inr h ↦ elim h [
    | inl lt ↦ absurd (not_before check ws j k lt a b)
    | inr lt ↦ absurd (not_before check ws k j lt b a)
  ]
]
