-- Whether records begin with others, one by one.
use Rattle.std.proofs.Common.{◌≡◌, ℕ, ◌+◌, ◌<◌, Bool, true, false, List, length, take, Option, Some, None, refl, sym, ap, ◌∙◌, subst, arith}
use Rattle.std.specs.Prelude.{not, slice_get}
use Rattle.std.specs.Bool.{Decides}
use Rattle.std.specs.Option.{option_eq}
use Rattle.std.proofs.Math.ListN.{get_or}
use Rattle.std.proofs.lemmas.List.{get_or-take, take_more_same}
use Rattle.std.proofs.lemmas.Option.{slice_get_within, slice_get-get_or, get_or_from_slice_get}
use Rattle.std.proofs.lemmas.List.{length-take}
use Rattle.emu_model.specs.declared.records.Record.{Record}
use Rattle.bench.specs.Commands.{BeginsWith}

module _ (eq : Record → Record → Bool) (decides : (a b : Record) → Decides (eq a b) (a ≡ b)) where
  pub there : (o : Option Record) (x : Record) → not (option_eq eq o (Some x)) ≡ false → o ≡ Some x
  there None x h = absurd (cc)
  there (Some y) x h = ap Some ((decides y x).0 (is_true (eq y x) h))
    where
      is_true : (b : Bool) → not b ≡ false → b ≡ true
      is_true true h = refl
      is_true false h = absurd (cc)

  pub not_there : (o : Option Record) (x : Record) → not (option_eq eq o (Some x)) ≡ true → o ≡ Some x → ⊥
  not_there o x h is =
      let same : eq x x ≡ true = (decides x x).1 refl in
      let other : not (eq x x) ≡ true = subst (λ (p : Option Record). not (option_eq eq p (Some x)) ≡ true) is h in
      absurd (cc)

pub begins_more : (all first : List Record) (i : ℕ) (x : Record) → i < length first → take i all ≡ take i first → slice_get all i ≡ Some x →
    x ≡ get_or first i x → take (i + 1) all ≡ take (i + 1) first
begins_more all first i x inside same at is =
    take_more_same all first i x (slice_get_within all i x at) inside same (get_or_from_slice_get all i x x at ∙ is)

pub begins_there : (all first : List Record) (i : ℕ) (x : Record) → i < length first → x ≡ get_or first i x → BeginsWith all first → slice_get all i ≡ Some x
begins_there all first i x inside is h =
    let within : i < length all = grind (arith, inside, ap length h, length-take (length first) all) in
    slice_get-get_or all i x within
    ∙ ap Some (sym (get_or-take (length first) all i x inside) ∙ ap (λ (l : List Record). get_or l i x) h ∙ sym is)
