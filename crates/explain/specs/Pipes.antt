-- What is likely not meant in the configurations of a pipe.
use Rattle.std.specs.Prelude.{ℕ, ◌+◌, Bool, true, false, not, ◌==◌, ◌&&◌, nat_lt, if◌then◌else◌, List, [], ◌∷◌, ◌++◌, take, Option, Some, None, unwrap_or}
use Rattle.std.specs.List.{list_any}
use Rattle.emu_model.specs.declared.commands.Command.{Command}
use Rattle.emu_model.specs.declared.commands.Command.TheVariants.{Config, PipeDelete}
use Rattle.emu_model.specs.declared.commands.Timed.{Timed}
use Rattle.emu_model.specs.declared.pipes.PipeConfig.{PipeConfig}
use Rattle.emu_model.specs.declared.pipes.QueueLimit.{QueueLimit}
use Rattle.emu_model.specs.declared.pipes.QueueLimit.TheVariants.{Slots, KBytes}
use Rattle.explain.specs.declared.doubt.Doubt.{Doubt}
use Rattle.explain.specs.declared.doubt.Doubt.TheVariants.{LosesAll, Forgets}
use Rattle.explain.specs.declared.doubt.Doubtful.{Doubtful}
use Rattle.explain.specs.declared.doubt.Setting.{Setting}
use Rattle.explain.specs.declared.doubt.Setting.TheVariants.{Bw, Delay, Queue, Plr}
use Rattle.explain.specs.Likely.{doubts_at}

-- a configuration of pipe n that doesn't lose all
abbrev pub lets : ℕ → Command → Bool
lets n (Config pipe c) = pipe == n && nat_lt c.plr 1000000
lets n _ = false

abbrev pub is_open : List Timed → ℕ → Bool
is_open cs n = list_any (λ c. lets n c.command) cs

abbrev pub closed_by : (ℕ → Bool) → Command → Option Doubt
closed_by opens (Config pipe c) = if opens pipe then None else Some (LosesAll pipe)
closed_by opens _ = None

-- a pipe of which each configuration loses all, from command k on
abbrev pub loses_all_from : List Timed → ℕ → List Timed → List Doubtful
loses_all_from all k [] = []
loses_all_from all k (c ∷ cs) = doubts_at k (closed_by (is_open all) c.command) ++ loses_all_from all (k + 1) cs

abbrev pub loses_all : List Timed → List Doubtful
loses_all cs = loses_all_from cs 0 cs

abbrev pub gives_queue : QueueLimit → Bool
gives_queue (Slots n) = not (n == 50)
gives_queue (KBytes n) = true

-- another value than the default; a loss of all is an outage, which ends so
abbrev pub gives : Setting → PipeConfig → Bool
gives Bw c = nat_lt 0 c.bw
gives Delay c = nat_lt 0 c.delay
gives Queue c = gives_queue c.queue
gives Plr c = nat_lt 0 c.plr && nat_lt c.plr 1000000

-- whether each configuration of pipe n since it was made gives the option; None where there is none
abbrev pub so_far : Setting → ℕ → Command → Option Bool → Option Bool
so_far s n (Config pipe c) b = if pipe == n then Some (unwrap_or b true && gives s c) else b
so_far s n (PipeDelete pipe) b = if pipe == n then None else b
so_far s n _ b = b

-- behind these commands
unfoldable pub state_from : Setting → ℕ → Option Bool → List Timed → Option Bool
state_from s n b [] = b
state_from s n b (c ∷ cs) = state_from s n (so_far s n c.command b) cs

abbrev pub state : Setting → List Timed → ℕ → Option Bool
state s cs n = state_from s n None cs

-- as a table has it
abbrev pub decoded_entry : ℕ → Option Bool
decoded_entry e = if e == 0 then Some false else (if e == 1 then Some true else None)

abbrev pub decoded : Option ℕ → Option Bool
decoded None = None
decoded (Some e) = decoded_entry e

abbrev pub is_always : Option Bool → Bool
is_always b = unwrap_or b false

-- a configuration doesn't give what each one before gave
abbrev pub forgotten_by : Setting → (ℕ → Option Bool) → Command → Option Doubt
forgotten_by s before (Config pipe c) = if is_always (before pipe) && not (gives s c) then Some (Forgets pipe s) else None
forgotten_by s before _ = None

abbrev pub forgets_from : Setting → List Timed → ℕ → List Timed → List Doubtful
forgets_from s all k [] = []
forgets_from s all k (c ∷ cs) = doubts_at k (forgotten_by s (state s (take k all)) c.command) ++ forgets_from s all (k + 1) cs

abbrev pub forgets : Setting → List Timed → List Doubtful
forgets s cs = forgets_from s cs 0 cs
