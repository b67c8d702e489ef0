-- An `OwnShelf` as contracts see it.
use Rattle.std.specs.Prelude.{◌≡◌, ℕ, ◌+◌, ◌-◌, ◌==◌, if◌then◌else◌, List, length, Option, Some, None, count_by, is_some, slice_get, slice_index_or}
use Rattle.emu_model.specs.declared.packets.Packet.{Packet}
use Rattle.packet_store.specs.Pocket.{Pocket, empty_pocket}

-- the packet at each key, if any, the budget, and the number of further packets that need no allocation
pub record Own : Type 0 where
  pub slots : List (Option Packet)
  pub budget : ℕ
  pub spare : ℕ

abbrev pub own_pocket : Own → Pocket
own_pocket s =
    record { find = λ k. slice_index_or s.slots k None; count = count_by is_some s.slots; budget = s.budget }

-- the pocket of each owner; that of every owner but 0 is empty
abbrev pub pocket_of_own : Own → ℕ → Pocket
pocket_of_own s o = if o == 0 then own_pocket s else empty_pocket 0

abbrev pub own_room : Own → ℕ → ℕ
own_room s o = if o == 0 then s.spare else 0

-- the number of vacant places
abbrev pub vacancies : List (Option Packet) → ℕ
vacancies slots = length slots - count_by is_some slots

-- 1 for a vacant place, otherwise 0
abbrev pub one_vacant : Option (Option Packet) → ℕ
one_vacant None = 0
one_vacant (Some None) = 1
one_vacant (Some (Some p)) = 0

-- the vacant places, each once
pub record AreFree (slots : List (Option Packet)) (free : List ℕ) : Type 0 where
  pub once : (k : ℕ) → count_by (λ j. j == k) free ≡ one_vacant (slice_get slots k)
  pub count : length free + count_by is_some slots ≡ length slots
