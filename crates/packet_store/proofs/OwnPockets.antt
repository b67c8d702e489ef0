-- What a packet that comes or goes does to the pocket of a shelf of one owner.
use Rattle.std.proofs.Common.{◌≡◌, ◌≢◌, ℕ, zero, suc, ◌<◌, ◌≤◌, nat_eq, Bool, true, false, [], ◌∷◌, ◌++◌, length, set, get_or, Option, Some, None, count_by, refl, sym, ap, ◌∙◌, inl, inr, arith, get_or-set_same, get_or-set_other}
use Rattle.std.specs.Prelude.{◌==◌, ◌↔◌, if◌then◌else◌, IsTrue, is_some, slice_get}
use Rattle.std.proofs.lemmas.Bool.{cases_eq, cases_lt}
use Rattle.std.proofs.lemmas.Bool.Decides.{nat_tests}
use Rattle.std.proofs.lemmas.List.Sums.{sum_by-cons, sum_by-append}
use Rattle.std.proofs.lemmas.Option.{slice_get_within, get_or_from_slice_get}
use Rattle.emu_model.specs.declared.packets.Packet.{Packet}
use Rattle.packet_store.specs.Pocket.{Pocket, with_packet, without, empty_pocket}
use Rattle.packet_store.specs.Own.{Own, own_pocket, pocket_of_own}
use Rattle.packet_store.proofs.Free.{Slots, one, count-set}
use Rattle.packet_store.proofs.Pockets.{pocket_ext}

abbrev shelf : Slots → ℕ → Own
shelf xs budget = record { slots = xs; budget = budget; spare = 0 }

pub refused : {P : Type 0} (b : Bool) → IsTrue b ↔ P → b ≡ false → P → ⊥
refused b says is p = let holds : b ≡ true = says.1 p in absurd (cc)

-- who isn't full is owner 0
pub owner-zero : (s : Own) (o : ℕ) → ((pocket_of_own s o).budget ≤ (pocket_of_own s o).count → ⊥) → nat_eq o 0 ≡ true
owner-zero s o h = go (nat_eq o 0) h
  where
    go : (b : Bool) → ((if b then own_pocket s else empty_pocket 0).budget ≤ (if b then own_pocket s else empty_pocket 0).count → ⊥) → b ≡ true
    go true h = refl
    go false h = absurd (h (omega arith))

pub not-full : (s : Own) (o : ℕ) → ((pocket_of_own s o).budget ≤ (pocket_of_own s o).count → ⊥) → (own_pocket s).count < (own_pocket s).budget
not-full s o h = go (nat_eq o 0) h
  where
    go : (b : Bool) → ((if b then own_pocket s else empty_pocket 0).budget ≤ (if b then own_pocket s else empty_pocket 0).count → ⊥) →
        (own_pocket s).count < (own_pocket s).budget
    go true h = elim (cases_lt (own_pocket s).count (own_pocket s).budget) [ inl lt ↦ lt | inr le ↦ absurd (h le) ]
    go false h = absurd (h (omega arith))

-- and so is who finds a packet
some-there : (xs : Slots) (k : ℕ) (p : Packet) → Some p ≡ get_or xs k None → slice_get xs k ≡ Some (Some p)
some-there [] k p e = absurd (cc)
some-there (x ∷ xs) zero p e = ap (λ y. Some y) (sym e)
some-there (x ∷ xs) (suc k) p e = some-there xs k p e

pub found-there : (s : Own) (o key : ℕ) (p : Packet) → Some p ≡ (pocket_of_own s o).find key →
    (nat_eq o 0 ≡ true) × (slice_get s.slots key ≡ Some (Some p))
found-there s o key p e = go (nat_eq o 0) e
  where
    go : (b : Bool) → Some p ≡ (if b then own_pocket s else empty_pocket 0).find key → (b ≡ true) × (slice_get s.slots key ≡ Some (Some p))
    go true e = (refl, some-there s.slots key p e)
    go false e = absurd (cc)

pub vacant-at : (s : Own) (o key : ℕ) → nat_eq o 0 ≡ true → slice_get s.slots key ≡ Some None → (pocket_of_own s o).find key ≡ None
vacant-at s o key is none =
    ap (λ b. (if b then own_pocket s else empty_pocket 0).find key) is ∙ get_or_from_slice_get s.slots key None None none

-- the owner's pocket
at-owner : (s t : Own) (o : ℕ) (f : Pocket → Pocket) → nat_eq o 0 ≡ true → own_pocket t ≡ f (own_pocket s) → pocket_of_own t o ≡ f (pocket_of_own s o)
at-owner s t o f is e =
    ap (λ b. if b then own_pocket t else empty_pocket 0) is ∙ e ∙ ap f (sym (ap (λ b. if b then own_pocket s else empty_pocket 0) is))

-- another at a place
find-set : (xs : Slots) (i k : ℕ) (y : Option Packet) → i < length xs →
    get_or (set xs i y) k None ≡ (if k == i then y else get_or xs k None)
find-set xs i k y within = elim (cases_eq k i) [
  | inl same ↦
      let yes : nat_eq k i ≡ true = grind (arith, nat_tests) in
      ap (λ j. get_or (set xs i y) j None) same ∙ get_or-set_same xs i y None within ∙ ap (λ b. if b then y else get_or xs k None) (sym yes)
  | inr differs ↦
      let no : nat_eq k i ≡ false = grind (arith, nat_tests) in
      get_or-set_other xs i k y None differs ∙ ap (λ b. if b then y else get_or xs k None) (sym no)
]

push-at : (xs : Slots) (y : Option Packet) → get_or (xs ++ y ∷ []) (length xs) None ≡ y
push-at [] y = refl
push-at (x ∷ xs) y = push-at xs y

push-other : (xs : Slots) (y : Option Packet) (k : ℕ) → k ≢ length xs → get_or (xs ++ y ∷ []) k None ≡ get_or xs k None
push-other [] y zero d = absurd (d refl)
push-other [] y (suc k) d = refl
push-other (x ∷ xs) y zero d = refl
push-other (x ∷ xs) y (suc k) d = push-other xs y k (λ e. d (ap suc e))

find-push : (xs : Slots) (k : ℕ) (y : Option Packet) →
    get_or (xs ++ y ∷ []) k None ≡ (if k == length xs then y else get_or xs k None)
find-push xs k y = elim (cases_eq k (length xs)) [
  | inl same ↦
      let yes : nat_eq k (length xs) ≡ true = grind (arith, nat_tests) in
      ap (λ j. get_or (xs ++ y ∷ []) j None) same ∙ push-at xs y ∙ ap (λ b. if b then y else get_or xs k None) (sym yes)
  | inr differs ↦
      let no : nat_eq k (length xs) ≡ false = grind (arith, nat_tests) in
      push-other xs y k differs ∙ ap (λ b. if b then y else get_or xs k None) (sym no)
]

module _ (xs : Slots) (budget : ℕ) (s : Own) (o : ℕ) (p : Packet) (slots : xs ≡ s.slots) (same : budget ≡ s.budget) (is : nat_eq o 0 ≡ true) where
  pub put-is : (place : ℕ) → slice_get xs place ≡ Some None →
      pocket_of_own (shelf (set xs place (Some p)) budget) o ≡ with_packet (pocket_of_own s o) place p
  put-is place was =
      at-owner s (shelf (set xs place (Some p)) budget) o (λ q. with_packet q place p) is
      (pocket_ext
      (λ k. find-set xs place k (Some p) (slice_get_within xs place None was)
      ∙ ap (λ (ys : Slots). if k == place then Some p else get_or ys k None) slots)
      (omega (arith, count-set xs place (Some p) None was, ap (λ (ys : Slots). count_by is_some ys) slots))
      same)

  pub push-is : (ys : Slots) (place : ℕ) → ys ≡ xs ++ Some p ∷ [] → place ≡ length xs →
      pocket_of_own (shelf ys budget) o ≡ with_packet (pocket_of_own s o) place p
  push-is ys place new last =
      at-owner s (shelf ys budget) o (λ q. with_packet q place p) is
      (pocket_ext
      (λ k. ap (λ (zs : Slots). get_or zs k None) new ∙ find-push xs k (Some p)
      ∙ (λ t. if k == sym last t then Some p else get_or (slots t) k None))
      (omega (
        arith,
        ap (λ (zs : Slots). count_by is_some zs) new,
        sum_by-append one xs (Some p ∷ []),
        sum_by-cons one (Some p) [],
        ap (λ (zs : Slots). count_by is_some zs) slots,
      ))
      same)

  pub take-is : (place key : ℕ) → place ≡ key → slice_get xs place ≡ Some (Some p) →
      pocket_of_own (shelf (set xs place None) budget) o ≡ without (pocket_of_own s o) key
  take-is place key at was =
      at-owner s (shelf (set xs place None) budget) o (λ q. without q key) is
      (pocket_ext
      (λ k. find-set xs place k None (slice_get_within xs place (Some p) was)
      ∙ (λ t. if k == at t then None else get_or (slots t) k None))
      (omega (arith, count-set xs place None (Some p) was, ap (λ (ys : Slots). count_by is_some ys) slots))
      same)
