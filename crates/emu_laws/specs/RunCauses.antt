-- Each drop of a run has its cause in the state before it (ipfw(8), queue and plr; RFC 8289, section 5.5).
use Rattle.std.specs.Prelude.{◌≡◌, ℕ, ◌+◌, ◌≤◌, Some, None, List, ◌∷◌, ◌++◌, slice_get}
use Rattle.std.specs.List.{AllByRecursion}
use Rattle.emu_model.specs.declared.packets.Packet.{Packet}
use Rattle.emu_model.specs.declared.packets.Place.{Place}
use Rattle.emu_model.specs.declared.rules.Verdict.TheVariants.{Dropped, IntoPipe}
use Rattle.emu_model.specs.declared.pipes.Discipline.TheVariants.{ControlledDelay}
use Rattle.emu_model.specs.declared.records.DropCause.TheVariants.{Denied, NoPipe, NoInstance, Lost, Full, Codel, Deleted, Budget}
use Rattle.emu_model.specs.declared.records.Record.{Record}
use Rattle.emu_model.specs.declared.records.Record.TheVariants.{PacketDropped}
use Rattle.emu_model.specs.declared.commands.Spec.{Spec}
use Rattle.emu_model.specs.declared.commands.Command.TheVariants.{PipeDelete}
use Rattle.emu_model.specs.declared.commands.Timed.{Timed}
use Rattle.emu_model.specs.Rules.{verdict}
use Rattle.emu_model.specs.DropTail.{Queued}
use Rattle.emu_model.specs.Pipes.{Instance, PipeState, instance_for, pipe_packets}
use Rattle.emu_model.specs.Net.{Net, find_pipe, held}
use Rattle.emu_model.specs.Alone.{alone}
use Rattle.emu_model.specs.Step.{State}
use Rattle.emu_laws.specs.StepPackets.{IsNext, IsIn, IsMade, EntersRules}
use Rattle.emu_laws.specs.LossCauses.{IsOverLimit, IsBelowLossRate}
use Rattle.emu_laws.specs.CodelCauses.{MayBeDropped}

-- a packet with this number enters the rules, which deny it
pub record IsDenied (number : ℕ) (s : State) : Type 0 where
  pub packet : Packet
  pub number_is : packet.number ≡ number
  pub start : ℕ
  pub enters : EntersRules s start packet
  pub rule : verdict start packet s.net.book.rules ≡ Dropped

-- a packet enters the rules, which send it into a pipe
pub record IsSentTo (pipe : ℕ) (packet : Packet) (s : State) : Type 0 where
  pub unsent : Packet
  pub start : ℕ
  pub enters : EntersRules s start unsent
  pub place : Place
  pub rule : verdict start unsent s.net.book.rules ≡ IntoPipe pipe place
  pub is : packet ≡ record unsent { place = place }

-- a packet with this number is sent into a pipe that doesn't exist
pub record FindsNoPipe (number : ℕ) (s : State) : Type 0 where
  pub packet : Packet
  pub number_is : packet.number ≡ number
  pub pipe : ℕ
  pub sent : IsSentTo pipe packet s
  pub none : find_pipe pipe s.net ≡ None

-- a packet with this number is sent into a pipe in whose state there is a cause
pub record Comes (Cause : Packet → PipeState → Type 0) (number : ℕ) (s : State) : Type 0 where
  pub packet : Packet
  pub number_is : packet.number ≡ number
  pub pipe : ℕ
  pub sent : IsSentTo pipe packet s
  pub state : PipeState
  pub there : find_pipe pipe s.net ≡ Some state
  pub cause : Cause packet state

-- a packet with this number waits in an instance of a pipe with CoDel, which may drop it
pub record IsDueInPipe (now number : ℕ) (n : Net) : Type 0 where
  pub pipe : ℕ
  pub state : PipeState
  pub there : find_pipe pipe n ≡ Some state
  pub target : ℕ
  pub interval : ℕ
  pub discipline : state.config.discipline ≡ ControlledDelay target interval
  pub instance : ℕ
  pub inside : Instance
  pub is_there : slice_get state.instances instance ≡ Some inside
  pub before : List (Queued Packet)
  pub waiting : Queued Packet
  pub behind : List (Queued Packet)
  pub waits : inside.waiting ≡ before ++ waiting ∷ behind
  pub number_is : waiting.item.number ≡ number
  pub due : MayBeDropped (record { target = target; interval = interval }) now inside.control waiting behind

-- the next command deletes a pipe that holds a packet with this number
pub record IsDeleted (number : ℕ) (s : State) : Type 0 where
  pub pipe : ℕ
  pub next : IsNext (PipeDelete pipe) s
  pub state : PipeState
  pub there : find_pipe pipe s.net ≡ Some state
  pub packet : Packet
  pub number_is : packet.number ≡ number
  pub holds : IsIn packet (pipe_packets state)

-- a packet with this number is created while at least as many are held as the budget allows
pub record IsBeyondBudget (number : ℕ) (s : State) : Type 0 where
  pub packet : Packet
  pub number_is : packet.number ≡ number
  pub made : IsMade s packet
  pub spent : s.spec.budget.packets ≤ held s.net

-- the cause in the record of a drop exists in the state
abbrev pub HasCause : State → Record → Type 0
HasCause s (PacketDropped now number load Denied) = IsDenied number s
HasCause s (PacketDropped now number load NoPipe) = FindsNoPipe number s
HasCause s (PacketDropped now number load NoInstance) = Comes (λ p q. instance_for p q ≡ None) number s
HasCause s (PacketDropped now number load Lost) = Comes (IsBelowLossRate s.spec.seed) number s
HasCause s (PacketDropped now number load Full) = Comes (IsOverLimit now) number s
HasCause s (PacketDropped now number load Codel) = IsDueInPipe now number s.net
HasCause s (PacketDropped now number load Deleted) = IsDeleted number s
HasCause s (PacketDropped now number load Budget) = IsBeyondBudget number s
HasCause s r = Unit {0}

-- each drop that a step records has its cause in the state before the step
pub record RecordsCauses (before : State) (after : Net) : Type 0 where
  pub more : List Record
  pub grows : after.records ≡ before.net.records ++ more
  pub each : AllByRecursion (HasCause before) more

abbrev pub DropsHaveCauses : Type 0
DropsHaveCauses = (spec : Spec) (c : List Timed) (n : ℕ) →
    RecordsCauses (alone spec c n) (alone spec c (n + 1)).net
