-- A loss has a cause: laws about whole runs in which a cause can't arise (ipfw(8): plr, queue; RFC 8289; the causes in a
-- report are our choice).
use Rattle.std.specs.Prelude.{◌≡◌, ℕ, ◌+◌, ◌*◌, ◌<◌, ◌≤◌, Bool, true, false, ◌&&◌, ◌==◌, List, [], length, count_by}
use Rattle.std.specs.List.{AllByRecursion}
use Rattle.emu_model.specs.declared.packets.Load.{Load}
use Rattle.emu_model.specs.declared.packets.Load.TheVariants.{Ack}
use Rattle.emu_model.specs.declared.packets.Packet.{Packet}
use Rattle.emu_model.specs.declared.pipes.QueueLimit.{QueueLimit}
use Rattle.emu_model.specs.declared.pipes.QueueLimit.TheVariants.{Slots, KBytes}
use Rattle.emu_model.specs.declared.pipes.Discipline.TheVariants.{TailDrop}
use Rattle.emu_model.specs.declared.records.DropCause.{DropCause}
use Rattle.emu_model.specs.declared.records.DropCause.TheVariants.{Denied, NoPipe, NoInstance, Lost, Full, Codel, Deleted, Budget}
use Rattle.emu_model.specs.declared.records.Record.{Record}
use Rattle.emu_model.specs.declared.records.Record.TheVariants.{PacketDropped}
use Rattle.emu_model.specs.declared.commands.Spec.{Spec}
use Rattle.emu_model.specs.declared.commands.Timed.{Timed}
use Rattle.emu_model.specs.declared.commands.Command.{Command}
use Rattle.emu_model.specs.declared.commands.Command.TheVariants.{Config, PipeDelete}
use Rattle.emu_model.specs.DropTail.{Queued, bytes_of}
use Rattle.emu_model.specs.Net.{drops_of}
use Rattle.emu_model.specs.TraceLaws.{delivers, held_packets, once_made}
use Rattle.emu_model.specs.Step.{State}
use Rattle.emu_model.specs.Alone.{alone}
use Rattle.emu_laws.specs.StepPackets.{IsOfStep}

-- tests for a cause that keeps a packet out of every queue: a rule denies it, it finds no pipe or no instance, or it exceeds
-- the budget
abbrev pub turns_away : DropCause → Bool
turns_away Denied = true
turns_away NoPipe = true
turns_away NoInstance = true
turns_away Budget = true
turns_away _ = false

-- a command that gives no pipe a loss rate above 0
abbrev pub IsLossless : Command → Type 0
IsLossless (Config k config) = config.plr ≡ 0
IsLossless _ = Unit {0}

-- if each `config` gives loss rate 0, nothing is lost
abbrev pub NothingIsLost : Type 0
NothingIsLost = (spec : Spec) (c : List Timed) (n : ℕ) → AllByRecursion (λ t. IsLossless t.command) c →
    drops_of (alone spec c n).net.records Lost ≡ 0

-- a command that gives no pipe a discipline other than drop-tail
abbrev pub IsDropTail : Command → Type 0
IsDropTail (Config k config) = config.discipline ≡ TailDrop
IsDropTail _ = Unit {0}

-- if each `config` gives drop-tail, CoDel drops nothing
abbrev pub CodelDropsNothing : Type 0
CodelDropsNothing = (spec : Spec) (c : List Timed) (n : ℕ) → AllByRecursion (λ t. IsDropTail t.command) c →
    drops_of (alone spec c n).net.records Codel ≡ 0

-- a queue limit of at least as many slots as packets may be held in all
abbrev pub TakesAll : ℕ → QueueLimit → Type 0
TakesAll budget (Slots n) = budget ≤ n
TakesAll budget (KBytes n) = ⊥

abbrev pub IsRoomy : ℕ → Command → Type 0
IsRoomy budget (Config k config) = TakesAll budget config.queue
IsRoomy budget _ = Unit {0}

-- if each `config` gives at least as many slots as packets may be held, no queue is full
abbrev pub NoQueueIsFull : Type 0
NoQueueIsFull = (spec : Spec) (c : List Timed) (n : ℕ) →
    AllByRecursion (λ t. IsRoomy spec.budget.packets t.command) c →
    drops_of (alone spec c n).net.records Full ≡ 0

-- a queue with room for one more packet of a step
abbrev pub HasRoom : State → QueueLimit → List (Queued Packet) → Type 0
HasRoom s (Slots n) ws = length ws < n
HasRoom s (KBytes n) ws = (p : Packet) → IsOfStep s p → bytes_of ws + p.size ≤ 1024 * n

-- each instance of each pipe has such room, and so does a new one
abbrev pub QueuesHaveRoom : State → Type 0
QueuesHaveRoom s =
    AllByRecursion
    (λ p. HasRoom s p.config.queue [] × AllByRecursion (λ i. HasRoom s p.config.queue i.waiting) p.instances) s.net.pipes

-- if all queues had room in each earlier state, no queue was full
abbrev pub RoomDropsNothing : Type 0
RoomDropsNothing = (spec : Spec) (c : List Timed) (n : ℕ) → ((m : ℕ) → m < n → QueuesHaveRoom (alone spec c m)) →
    drops_of (alone spec c n).net.records Full ≡ 0

abbrev pub KeepsPipes : Command → Type 0
KeepsPipes (PipeDelete k) = ⊥
KeepsPipes _ = Unit {0}

-- if no pipe is deleted, no packet is dropped with its pipe
abbrev pub NothingGoesWithPipes : Type 0
NothingGoesWithPipes = (spec : Spec) (c : List Timed) (n : ℕ) → AllByRecursion (λ t. KeepsPipes t.command) c →
    drops_of (alone spec c n).net.records Deleted ≡ 0

-- tests for an acknowledgement that exceeds the budget
abbrev pub is_refusal : DropCause → Load → Bool
is_refusal Budget (Ack flow upto) = true
is_refusal cause load = false

abbrev pub refuses_ack : Record → Bool
refuses_ack (PacketDropped moment packet load cause) = is_refusal cause load
refuses_ack r = false

-- in every run no acknowledgement exceeds the budget, because the segment that it answers has left
abbrev pub AcksPassTheBudget : Type 0
AcksPassTheBudget = (spec : Spec) (c : List Timed) (n : ℕ) → count_by refuses_ack (alone spec c n).net.records ≡ 0

-- a command that gives no pipe a loss rate or CoDel, and deletes no pipe
pub record SparesPackets (c : Command) : Type 0 where
  pub lossless : IsLossless c
  pub drop_tail : IsDropTail c
  pub kept : KeepsPipes c

-- tests for a drop of packet k for a cause of `turns_away`
abbrev pub turned_away : ℕ → Record → Bool
turned_away k (PacketDropped moment packet load cause) = turns_away cause && (packet == k)
turned_away k _ = false

-- if all commands are such, and no queue was full, each packet that was created and not turned away is delivered or held,
-- exactly once
abbrev pub PipesDropNothing : Type 0
PipesDropNothing = (spec : Spec) (c : List Timed) (n k : ℕ) → AllByRecursion (λ t. SparesPackets t.command) c →
    let net = (alone spec c n).net in
    drops_of net.records Full ≡ 0 →
    count_by (delivers k) net.records + count_by (λ p. p.number == k) (held_packets net)
    + count_by (turned_away k) net.records ≡ once_made k net
