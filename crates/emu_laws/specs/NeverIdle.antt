-- A server is never idle while a packet waits (a link is work-conserving: our choice).
use Rattle.std.specs.Prelude.{◌≡◌, ℕ, None, List, []}
use Rattle.std.specs.List.{AllByRecursion}
use Rattle.emu_model.specs.declared.commands.Spec.{Spec}
use Rattle.emu_model.specs.declared.commands.Timed.{Timed}
use Rattle.emu_model.specs.Pipes.{Instance}
use Rattle.emu_model.specs.Alone.{alone}

-- if no packet is in service, none waits
abbrev pub IsWorkConserving : Instance → Type 0
IsWorkConserving i = i.service ≡ None → i.waiting ≡ []

-- each instance of each pipe is work-conserving in every state
abbrev pub NeverIdle : Type 0
NeverIdle = (spec : Spec) (c : List Timed) (n : ℕ) →
    AllByRecursion (λ p. AllByRecursion IsWorkConserving p.instances) (alone spec c n).net.pipes
