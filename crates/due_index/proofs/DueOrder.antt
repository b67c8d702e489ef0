-- Dues are in order by moment, class and number. Two of which neither comes before the other are
-- one.
use Rattle.std.proofs.Common.{◌≡◌, ℕ, zero, suc, sym, ap, ◌∙◌, ◌≤◌, Bool, false, nat_lt, refl, arith}
use Rattle.std.proofs.lemmas.Bool.{ltb-false}
use Rattle.std.specs.Cmp.{IsStrictWeakOrder}
use Rattle.std.proofs.lemmas.List.MinMax.{IsStrictWeakOrder-by_number}
use Rattle.emu_model.specs.declared.sources.Class.{Class}
use Rattle.emu_model.specs.declared.sources.Class.TheVariants.{NextCommand, Exit, Finish, Expiry, Emission}
use Rattle.emu_model.specs.declared.sources.Due.{Due}
use Rattle.emu_model.specs.Dues.{rank, is_before}
use Rattle.emu_model.proofs.CallerLemmas.{first_by, first_by-order, both_ways_equal}

abbrev by_number : Due → Due → Bool
by_number a b = nat_lt a.source.number b.source.number

abbrev by_class : Due → Due → Bool
by_class = first_by (λ d. rank d.source.class) by_number

pub is_before-order : IsStrictWeakOrder is_before
is_before-order =
    first_by-order (λ d. d.moment) _
    (first_by-order (λ d. rank d.source.class) _
    (IsStrictWeakOrder-by_number (λ (d : Due). d.source.number)))

rank_of : ℕ → Class
rank_of zero = NextCommand
rank_of (suc zero) = Exit
rank_of (suc (suc zero)) = Finish
rank_of (suc (suc (suc zero))) = Expiry
rank_of (suc (suc (suc (suc n)))) = Emission

rank-back : (c : Class) → rank_of (rank c) ≡ c
unfolding rank_of
rank-back NextCommand = refl
rank-back Exit = refl
rank-back Finish = refl
rank-back Expiry = refl
rank-back Emission = refl

pub same_due : (a b : Due) → is_before a b ≡ false → is_before b a ≡ false → a ≡ b
same_due a b h k =
    let moments = both_ways_equal {X = Due} (λ d. d.moment) by_class a b h k in
    let ranks =
    both_ways_equal {X = Due} (λ d. rank d.source.class) by_number a b moments.1 moments.2 in
    let classes : a.source.class ≡ b.source.class =
    sym (rank-back a.source.class) ∙ ap rank_of ranks.0 ∙ rank-back b.source.class in
    let la : b.source.number ≤ a.source.number = ltb-false _ _ ranks.1 in
    let lb : a.source.number ≤ b.source.number = ltb-false _ _ ranks.2 in
    let numbers : a.source.number ≡ b.source.number = omega arith in
    let e = moments.0 in
    λ i. record { moment = e i; source = record { class = classes i; number = numbers i } }
