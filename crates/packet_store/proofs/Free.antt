-- The free places of a shelf, as a packet comes or goes.
use Rattle.std.proofs.Common.{◌≡◌, ◌≢◌, ℕ, zero, suc, ◌+◌, ◌<◌, nat_eq, true, false, cond, List, [], ◌∷◌, ◌++◌, length, set, Option, Some, None, count_by, refl, sym, ap, ◌∙◌, inl, inr, arith}
use Rattle.std.specs.Prelude.{◌==◌, is_some, slice_get}
use Rattle.std.proofs.lemmas.Bool.{cases_eq}
use Rattle.std.proofs.lemmas.Bool.Decides.{nat_tests}
use Rattle.std.proofs.lemmas.List.{length-append, length-set}
use Rattle.std.proofs.lemmas.List.Sums.{sum_by-cons, sum_by-append, sum_by-set}
use Rattle.std.proofs.lemmas.Option.{slice_get_within, get_or_from_slice_get}
use Rattle.emu_model.specs.declared.packets.Packet.{Packet}
use Rattle.packet_store.specs.Own.{one_vacant, AreFree}

abbrev pub Slots : Type 0
Slots = List (Option Packet)

abbrev pub one : Option Packet → ℕ
one s = cond (is_some s) 1 0

-- how often a place stands in a list
abbrev pub times : ℕ → List ℕ → ℕ
times k free = count_by (λ j. j == k) free

-- a place at the end of a list
pub times-same : (free : List ℕ) (k : ℕ) → times k (free ++ k ∷ []) ≡ times k free + 1
times-same free k =
    let own : nat_eq k k ≡ true = grind (arith, nat_tests) in
    omega (
      arith,
      sum_by-append (λ j. cond (j == k) 1 0) free (k ∷ []),
      sum_by-cons (λ j. cond (j == k) 1 0) k [],
      ap {B = ℕ} (λ t. cond t 1 0) own,
    )

pub times-other : (free : List ℕ) (place k : ℕ) → k ≢ place → times k (free ++ place ∷ []) ≡ times k free
times-other free place k differs =
    let other : nat_eq place k ≡ false = grind (arith, nat_tests) in
    omega (
      arith,
      sum_by-append (λ j. cond (j == k) 1 0) free (place ∷ []),
      sum_by-cons (λ j. cond (j == k) 1 0) place [],
      ap {B = ℕ} (λ t. cond t 1 0) other,
    )

-- a list at a place that was set, and at another
get-set : {A : Type 0} (xs : List A) (i : ℕ) (y : A) → i < length xs → slice_get (set xs i y) i ≡ Some y
get-set [] i y h = absurd (omega (arith, h))
get-set (x ∷ xs) zero y h = refl
get-set (x ∷ xs) (suc i) y h = get-set xs i y (omega (arith, h))

get-other : {A : Type 0} (xs : List A) (i k : ℕ) (y : A) → k ≢ i → slice_get (set xs i y) k ≡ slice_get xs k
get-other [] i k y d = refl
get-other (x ∷ xs) zero zero y d = absurd (d refl)
get-other (x ∷ xs) zero (suc k) y d = refl
get-other (x ∷ xs) (suc i) zero y d = refl
get-other (x ∷ xs) (suc i) (suc k) y d = get-other xs i k y (λ e. d (ap suc e))

-- a list at its end
vacant-push : (xs : Slots) (p : Packet) (k : ℕ) → one_vacant (slice_get (xs ++ Some p ∷ []) k) ≡ one_vacant (slice_get xs k)
vacant-push [] p zero = refl
vacant-push [] p (suc k) = refl
vacant-push (x ∷ xs) p zero = refl
vacant-push (x ∷ xs) p (suc k) = vacant-push xs p k

-- what stands at a place that is vacant
pub vacant-is : (o : Option (Option Packet)) → 0 < one_vacant o → o ≡ Some None
vacant-is None h = absurd (omega (arith, h))
vacant-is (Some None) h = refl
vacant-is (Some (Some p)) h = absurd (omega (arith, h))

pub count-set : (xs : Slots) (i : ℕ) (y x : Option Packet) → slice_get xs i ≡ Some x →
    count_by is_some (set xs i y) + one x ≡ count_by is_some xs + one y
count-set xs i y x is =
    omega (
      arith,
      sum_by-set one xs i y None (slice_get_within xs i x is),
      ap one (get_or_from_slice_get xs i x None is),
    )

pub count-push : (xs : Slots) (p : Packet) → count_by is_some (xs ++ Some p ∷ []) ≡ count_by is_some xs + 1
count-push xs p = omega (arith, sum_by-append one xs (Some p ∷ []), sum_by-cons one (Some p) [])

-- the last free place is vacant
pub last-vacant : (xs : Slots) (free rest : List ℕ) (place : ℕ) → AreFree xs free → free ≡ rest ++ place ∷ [] →
    slice_get xs place ≡ Some None
last-vacant xs free rest place h e =
    vacant-is (slice_get xs place)
    (omega (arith, h.once place, ap (times place) e, times-same rest place))

-- a packet comes to the last free place
pub free-put : (xs : Slots) (free rest : List ℕ) (place : ℕ) (p : Packet) → AreFree xs free → free ≡ rest ++ place ∷ [] →
    AreFree (set xs place (Some p)) rest
free-put xs free rest place p h e =
    let was : slice_get xs place ≡ Some None = last-vacant xs free rest place h e in
    let within : place < length xs = slice_get_within xs place None was in
    record {
      once = λ k. elim (cases_eq k place) [
        | inl same ↦
            let is : slice_get (set xs place (Some p)) k ≡ Some (Some p) = ap (slice_get (set xs place (Some p))) same ∙ get-set xs place (Some p) within in
            omega (
              arith,
              h.once place,
              ap (times place) e,
              times-same rest place,
              ap one_vacant was,
              ap one_vacant is,
              ap (λ j. times j rest) same,
            )
        | inr differs ↦
            omega (
              arith,
              h.once k,
              ap (times k) e,
              times-other rest place k differs,
              ap one_vacant (get-other xs place k (Some p) differs),
            )
      ];
      count = omega (
        arith,
        h.count,
        ap length e,
        length-append rest (place ∷ []),
        count-set xs place (Some p) None was,
        length-set xs place (Some p),
      );
    }

-- a packet comes to a new place
pub free-push : (xs : Slots) (free : List ℕ) (p : Packet) → AreFree xs free → AreFree (xs ++ Some p ∷ []) free
free-push xs free p h = record {
  once = λ k. h.once k ∙ sym (vacant-push xs p k);
  count = omega (
    arith,
    h.count,
    length-append xs (Some p ∷ []),
    sum_by-append one xs (Some p ∷ []),
    sum_by-cons one (Some p) [],
  );
}

-- a packet goes
pub free-take : (xs : Slots) (free : List ℕ) (place : ℕ) (p : Packet) → AreFree xs free → slice_get xs place ≡ Some (Some p) →
    AreFree (set xs place None) (free ++ place ∷ [])
free-take xs free place p h was =
    let within : place < length xs = slice_get_within xs place (Some p) was in
    record {
      once = λ k. elim (cases_eq k place) [
        | inl same ↦
            let is : slice_get (set xs place None) k ≡ Some None = ap (slice_get (set xs place None)) same ∙ get-set xs place None within in
            omega (
              arith,
              h.once place,
              times-same free place,
              ap one_vacant was,
              ap one_vacant is,
              ap (λ j. times j (free ++ place ∷ [])) same,
            )
        | inr differs ↦
            omega (
              arith,
              h.once k,
              times-other free place k differs,
              ap one_vacant (get-other xs place k None differs),
            )
      ];
      count = omega (
        arith,
        h.count,
        length-append free (place ∷ []),
        count-set xs place None (Some p) was,
        length-set xs place None,
      );
    }
