-- A packet that arrives at a pipe is dropped only for a cause in the state of the pipe (ipfw(8), queue and plr).
use Rattle.std.specs.Prelude.{◌≡◌, ℕ, ◌*◌, ◌^◌, ◌<◌, Some, List, [], ◌∷◌, ◌++◌, slice_get}
use Rattle.std.specs.Option.{option_map_or}
use Rattle.std.specs.List.{AllByRecursion}
use Rattle.emu_model.specs.declared.packets.Packet.{Packet}
use Rattle.emu_model.specs.declared.records.DropCause.TheVariants.{Lost, Full}
use Rattle.emu_model.specs.DropTail.{Queued}
use Rattle.emu_model.specs.Loss.{loss_word}
use Rattle.emu_model.specs.Pipes.{PipeState, instance_for, pipe_arrive}
use Rattle.emu_model.specs.ComponentLaws.{IsWithin}

-- the packets that wait in instance k of a pipe; none if the instance is still to be created
abbrev pub waiting_in : ℕ → PipeState → List (Queued Packet)
waiting_in k p = option_map_or (λ i. i.waiting) (slice_get p.instances k) []

-- the number of loss words that instance k has drawn
abbrev pub drawn_in : ℕ → PipeState → ℕ
drawn_in k p = option_map_or (λ i. i.drawn) (slice_get p.instances k) 0

-- the packets that wait in the packet's instance would, with the packet, exceed the limit
pub record IsOverLimit (now : ℕ) (packet : Packet) (p : PipeState) : Type 0 where
  pub instance : ℕ
  pub there : instance_for packet p ≡ Some instance
  pub over : IsWithin p.config.queue (waiting_in instance p ++ record { item = packet; size = packet.size; stamp = now } ∷ []) → ⊥

-- an arriving packet is dropped as Full only in that case, and no other packet is
abbrev pub FullAtLimit : Type 0
FullAtLimit = (seed now : ℕ) (packet : Packet) (p : PipeState) →
    AllByRecursion (λ d. d.cause ≡ Full → (d.packet ≡ packet) × IsOverLimit now packet p)
    (pipe_arrive seed now packet p).dropped

-- the next loss word of the packet's instance, divided by 2 ^ 32, is below the loss rate, in millionths
pub record IsBelowLossRate (seed : ℕ) (packet : Packet) (p : PipeState) : Type 0 where
  pub instance : ℕ
  pub there : instance_for packet p ≡ Some instance
  pub below : loss_word seed p.number instance (drawn_in instance p) * 10 ^ 6 < p.config.plr * 2 ^ 32

-- an arriving packet is dropped as Lost only in that case, and no other packet is
abbrev pub LostBelowRate : Type 0
LostBelowRate = (seed now : ℕ) (packet : Packet) (p : PipeState) →
    AllByRecursion (λ d. d.cause ≡ Lost → (d.packet ≡ packet) × IsBelowLossRate seed packet p)
    (pipe_arrive seed now packet p).dropped
