-- An experiment's line, as it is walked and as it is read.
use Rattle.std.proofs.Common.{◌≡◌, ℕ, Bool, true, false, [], ◌∷◌, Option, Some, refl, sym, ◌∙◌}
use Rattle.std.specs.Prelude.{unwrap_or}
use Rattle.std.specs.Option.{is_some}
use Rattle.std.specs.Str.{bytes_eq}
use lib.Chars.{codes}
use Rattle.control_words.specs.Words.{Words}
use Rattle.control_words.specs.Numbers.{number_of}
use Rattle.control_words.specs.Addresses.{name_of}
use Rattle.control_lines.specs.Ranges.{within, spec_within}
use Rattle.control_lines.specs.Shape.{steps_of, header_of}
use Rattle.control.specs.declared.word_fault.Check.{Check}
use Rattle.control.specs.declared.expected.Expected.TheVariants.{Header}
use Rattle.control.specs.declared.expected.HeaderWord.TheVariants as header
use Rattle.control.specs.Forms.{asked}
use Rattle.control.specs.Walk.{or_blame, next}
use Rattle.control.proofs.RangedLines.{three}
use Rattle.control.proofs.Steps.{accepts, meets, step, meets_map, asked_true, value_step, plain_step, word_step, last_read, split}

abbrev steps_so : Check → Option ℕ → Bool
steps_so check o = asked check (is_some (within (unwrap_or o 1000000) 1 10000000))

steps_read : (check : Check) (ws : Words) → accepts check (Header header.StepsWord) ws ≡ meets (steps_of ws) (steps_so check)
unfolding next steps_of
steps_read check [] = sym (asked_true check)
steps_read check (w ∷ ws) =
    split (λ o. or_blame o (λ q. accepts check q ws) false) (λ o. meets o (steps_so check)) (bytes_eq w (codes "steps")) _ _ _ _
    (last_read check (Header header.Steps) 1 10000000 (λ _. refl) refl ws ∙ sym (meets_map _ Some (steps_so check))) refl

pub header_read : (check : Check) (ws : Words) → accepts check (Header header.Name) ws ≡ meets (header_of ws) (λ h. asked check (is_some (spec_within h)))
unfolding next header_of spec_within
header_read check ws =
    plain_step check true (Header header.Name) name_of (Header header.SeedWord) _ _ (λ _. refl) refl (λ name.
    word_step check true (Header header.SeedWord) (codes "seed") (Header header.Seed) _ _ (λ _. refl) refl (λ from_seed.
    value_step check true (Header header.Seed) number_of (λ n. is_some (within n 0 18446744073709551615)) (Header header.BudgetWord) _ _ (λ _. refl) refl (λ seed.
    word_step check _ (Header header.BudgetWord) (codes "budget") (Header header.Budget) _ _ (λ _. refl) refl (λ from_budget.
    value_step check _ (Header header.Budget) number_of (λ n. is_some (within n 1 65535)) (Header header.StepsWord) _ _ (λ _. refl) refl (λ budget.
    step _ (accepts check (Header header.StepsWord) budget.1) (steps_of budget.1) (steps_so check) _ _ (steps_read check budget.1) (λ steps.
    three check (within seed.0 0 18446744073709551615) (within budget.0 1 65535) (within (unwrap_or steps 1000000) 1 10000000) _))
    from_budget) seed.1) from_seed) name.1) ws
