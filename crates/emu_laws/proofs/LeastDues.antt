-- The least of dues, by the kit's law of the first that nothing beats.
use Rattle.std.proofs.Common.{◌≡◌, ℕ, ◌<◌, false, List, length, get_or, ap, ◌∙◌, subst}
use Rattle.std.specs.Prelude.{Some}
use Rattle.std.specs.Cmp.{IsStrictWeakOrder}
use Rattle.std.proofs.lemmas.List.MinMax.{IsFirstBest-from_best_of, IsStrictWeakOrder-by_number}
use Rattle.std.proofs.lemmas.Option.{slice_get_within, get_or_from_slice_get, slice_get-get_or}
use Rattle.emu_model.specs.declared.sources.Class.TheVariants.{NextCommand}
use Rattle.emu_model.specs.declared.sources.Due.{Due}
use Rattle.emu_model.specs.Dues.{due, rank, is_before, least_due}
use Rattle.emu_model.proofs.CallerLemmas.{first_by-order}
use Rattle.emu_laws.specs.LeastDue.{LeastDueIsLeast, all_dues}

is_before-order : IsStrictWeakOrder is_before
is_before-order =
    first_by-order (λ d. d.moment) _
    (first_by-order (λ d. rank d.source.class) _
    (IsStrictWeakOrder-by_number (λ (d : Due). d.source.number)))

pub least_due_is_least : LeastDueIsLeast
least_due_is_least moment dues =
    let first : Due = due NextCommand 0 moment in
    let all : List Due = all_dues moment dues in
    let best = IsFirstBest-from_best_of is_before-order first dues in
    let at : ℕ = best.0 in
    let is : get_or all at first ≡ least_due moment dues = best.2 in (
      (λ k d there.
          let within : k < length all = slice_get_within all k d there in
          subst (λ e. is_before e (least_due moment dues) ≡ false) (get_or_from_slice_get all k d first there)
          (subst (λ e. is_before (get_or all k first) e ≡ false) is (best.1.1 k first within))),
      (at, slice_get-get_or all at first best.1.0 ∙ ap Some is),
    )
