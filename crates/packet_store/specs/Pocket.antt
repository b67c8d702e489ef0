-- An owner's shelf as contracts see it.
use Rattle.std.specs.Prelude.{◌≡◌, ◌≢◌, ℕ, ◌+◌, ◌-◌, ◌==◌, if◌then◌else◌, Option, Some, None}
use Rattle.emu_model.specs.declared.packets.Packet.{Packet}

-- the packet at each key, if any, the number of packets, and the budget
pub record Pocket : Type 0 where
  pub find : ℕ → Option Packet
  pub count : ℕ
  pub budget : ℕ

abbrev pub with_packet : Pocket → ℕ → Packet → Pocket
with_packet p key packet =
    record { find = λ k. if k == key then Some packet else p.find k; count = p.count + 1; budget = p.budget }

abbrev pub without : Pocket → ℕ → Pocket
without p key =
    record { find = λ k. if k == key then None else p.find k; count = p.count - 1; budget = p.budget }

-- a pocket without packets
abbrev pub empty_pocket : ℕ → Pocket
empty_pocket budget = record { find = λ _. None; count = 0; budget = budget }

-- the packets of every other owner are unchanged
abbrev pub OthersStay : ℕ → (ℕ → Pocket) → (ℕ → Pocket) → Type 0
OthersStay owner old new = (o : ℕ) → o ≢ owner → new o ≡ old o

-- the packets of every owner are unchanged
abbrev pub AllStay : (ℕ → Pocket) → (ℕ → Pocket) → Type 0
AllStay old new = (o : ℕ) → new o ≡ old o
