-- An item on its way, at a place.
use Rattle.std.proofs.Common.{◌≡◌, ℕ, zero, suc, ◌<◌, List, [], ◌∷◌, length, map, set, ap, refl, slice_get, slice_index_or, arith}
use Rattle.std.specs.Prelude.{option_map}
use Rattle.emu_model.specs.Delay.{InFlight}
use Rattle.link_core.specs.declared.delay.Underway.{Underway}
use Rattle.link_core.specs.Flight.{leaving_of, flight_of, with_item}

pub in_flight-set : {A : Type 0} (us : List (Underway A)) (n : ℕ) (u : Underway A) (item : A) → n < length us →
    u ≡ slice_index_or us n u → flight_of (set us n (record u { item = item })) ≡ with_item (flight_of us) n item
in_flight-set [] n u item within value = absurd (omega (arith, within))
in_flight-set {A} (x ∷ us) zero u item within value = ap (λ (v : Underway A). record { item = item; exit = v.exit } ∷ flight_of us) value
in_flight-set {A} (x ∷ us) (suc n) u item within value =
    ap (λ (l : List (InFlight A)). leaving_of x ∷ l) (in_flight-set us n u item (omega (arith, within)) value)

pub items-get : {A : Type 0} (us : List (Underway A)) (n : ℕ) →
    slice_get (map (λ x. x.item) (flight_of us)) n ≡ option_map (λ u. u.item) (slice_get us n)
items-get [] n = refl
items-get (x ∷ us) zero = refl
items-get (x ∷ us) (suc n) = items-get us n
