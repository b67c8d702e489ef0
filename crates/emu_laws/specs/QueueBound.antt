-- The queue of an instance is within the largest limit that its pipe was ever given (ipfw(8), queue).
use Rattle.std.specs.Prelude.{◌≡◌, ℕ, ◌≤◌, List}
use Rattle.std.specs.List.{AllByRecursion}
use Rattle.emu_model.specs.declared.pipes.QueueLimit.{QueueLimit}
use Rattle.emu_model.specs.declared.pipes.QueueLimit.TheVariants.{Slots, KBytes}
use Rattle.emu_model.specs.declared.commands.Spec.{Spec}
use Rattle.emu_model.specs.declared.commands.Timed.{Timed}
use Rattle.emu_model.specs.declared.commands.Command.{Command}
use Rattle.emu_model.specs.declared.commands.Command.TheVariants.{Config}
use Rattle.emu_model.specs.ComponentLaws.{IsWithin}
use Rattle.emu_model.specs.Alone.{alone}

-- a limit of the same kind that is not larger
abbrev pub IsAtMost : QueueLimit → QueueLimit → Type 0
IsAtMost (Slots m) (Slots n) = m ≤ n
IsAtMost (KBytes m) (KBytes n) = m ≤ n
IsAtMost _ _ = ⊥

-- a command that gives the pipe no limit above this one
abbrev pub LimitsPipe : ℕ → QueueLimit → Command → Type 0
LimitsPipe pipe limit (Config k config) = k ≡ pipe → IsAtMost config.queue limit
LimitsPipe pipe limit _ = Unit {0}

-- if no command gives a pipe more than a limit, the queue of each of its instances is within the limit in every state, even if the limit
-- is lowered and raised in between
abbrev pub QueuesAreBounded : Type 0
QueuesAreBounded = (spec : Spec) (c : List Timed) (n pipe : ℕ) (limit : QueueLimit) →
    AllByRecursion (λ t. LimitsPipe pipe limit t.command) c →
    AllByRecursion (λ p. p.number ≡ pipe → AllByRecursion (λ i. IsWithin limit i.waiting) p.instances)
    (alone spec c n).net.pipes
