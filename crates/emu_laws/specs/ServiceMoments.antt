-- The packet in service finishes at the time that the rate determines (our choice: a busy period is rounded once, as a whole).
use Rattle.std.specs.Prelude.{◌≡◌, ℕ, Some, List}
use Rattle.std.specs.List.{AllByRecursion}
use Rattle.emu_model.specs.declared.packets.Packet.{Packet}
use Rattle.emu_model.specs.declared.commands.Spec.{Spec}
use Rattle.emu_model.specs.declared.commands.Timed.{Timed}
use Rattle.emu_model.specs.Rate.{finish_at}
use Rattle.emu_model.specs.Pipes.{InService, Instance}
use Rattle.emu_model.specs.Alone.{alone}

-- the packet in service finishes at the start of its busy period plus the time that all bits of the period, including its
-- own, take at the rate
abbrev pub IsOnTime : ℕ → Instance → Type 0
IsOnTime bw i = (s : InService Packet) → i.service ≡ Some s →
    s.period.finish ≡ finish_at bw s.period.start s.period.sum

-- service is on time in each instance of each pipe in every state, whichever `config` commands were executed
abbrev pub ServiceIsOnTime : Type 0
ServiceIsOnTime = (spec : Spec) (c : List Timed) (n : ℕ) →
    AllByRecursion (λ p. AllByRecursion (IsOnTime p.config.bw) p.instances) (alone spec c n).net.pipes
