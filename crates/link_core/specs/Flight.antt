-- The items in flight, in the form of the definitions.
use Rattle.std.specs.Prelude.{ℕ, zero, suc, List, [], ◌∷◌, map}
use Rattle.emu_model.specs.Delay.{InFlight}
use Rattle.link_core.specs.declared.delay.Underway.{Underway}

abbrev pub leaving_of : {A : Type 0} → Underway A → InFlight A
leaving_of u = record { item = u.item; exit = u.exit }

abbrev pub flight_of : {A : Type 0} → List (Underway A) → List (InFlight A)
flight_of us = map leaving_of us

-- the list with another item at a place, whose exit stays
abbrev pub with_item : {A : Type 0} → List (InFlight A) → ℕ → A → List (InFlight A)
with_item [] place item = []
with_item (x ∷ xs) zero item = record x { item = item } ∷ xs
with_item (x ∷ xs) (suc place) item = x ∷ with_item xs place item
