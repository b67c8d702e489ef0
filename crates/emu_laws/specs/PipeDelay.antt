-- The delay of a pipe is the configured one (ipfw(8), delay; the minimum of 1 ns is our choice).
use Rattle.std.specs.Prelude.{◌≡◌, ℕ, zero, suc, ◌+◌, ◌*◌, ◌^◌, ◌≤◌, max, false, true, Some, None, [], ◌∷◌, ◌++◌}
use Rattle.emu_model.specs.declared.packets.Packet.{Packet}
use Rattle.emu_model.specs.declared.pipes.PipeConfig.{PipeConfig}
use Rattle.emu_model.specs.Moments.{milliseconds}
use Rattle.emu_model.specs.DropTail.{accepts}
use Rattle.emu_model.specs.Rate.{div_ceil, begin}
use Rattle.emu_model.specs.Pipes.{InService, Instance, instance_arrive, instance_finish}

-- the delay of a packet after its finish, in ns
abbrev pub propagation : PipeConfig → ℕ
propagation config = max (milliseconds config.delay) 1

-- the transmission time of a packet at a rate, rounded up; 0 at rate 0, which is unlimited (ipfw(8), bw)
abbrev pub transmission : ℕ → ℕ → ℕ
transmission zero size = 0
transmission (suc bw) size = div_ceil (8 * 10 ^ 9 * size) (suc bw)

-- a packet enters the end of the delay line, to leave no sooner than after the delay, and exactly then if no packet before
-- it leaves later
pub record LeavesAfterDelay (config : PipeConfig) (finish : ℕ) (p : Packet) (before after : Instance) : Type 0 where
  pub exit : ℕ
  pub entered : after.line.in_flight ≡ before.line.in_flight ++ record { item = p; exit = exit } ∷ []
  pub no_sooner : finish + propagation config ≤ exit
  pub exactly : before.line.last ≤ finish + propagation config → exit ≡ finish + propagation config

-- each packet that finishes leaves after the delay
abbrev pub DelayIsKept : Type 0
DelayIsKept = (config : PipeConfig) (now : ℕ) (s : InService Packet) (i : Instance) → i.service ≡ Some s →
    LeavesAfterDelay config now s.item i (instance_finish config now i).state

-- no packet waits, and none is in service
pub record IsIdle (i : Instance) : Type 0 where
  pub waiting : i.waiting ≡ []
  pub service : i.service ≡ None

-- an arriving packet is served at once, finishes after its own transmission time, and leaves after the delay
pub record TakesItsTime (config : PipeConfig) (now : ℕ) (p : Packet) (i : Instance) : Type 0 where
  pub served : (instance_arrive config now p false i).state.service
      ≡ Some (record { item = p; period = begin config.bw now p.size })
  pub finish : (begin config.bw now p.size).finish ≡ now + transmission config.bw p.size
  pub leaves : let after = instance_finish config (now + transmission config.bw p.size)
      (instance_arrive config now p false i).state in
      LeavesAfterDelay config (now + transmission config.bw p.size) p i after.state

-- the time of a packet through an idle instance that accepts it is its size divided by the rate, rounded up once, plus the
-- delay
abbrev pub IdleTakesItsTime : Type 0
IdleTakesItsTime = (config : PipeConfig) (now : ℕ) (p : Packet) (i : Instance) → IsIdle i →
    accepts config.queue i.waiting p.size ≡ true → TakesItsTime config now p i
