-- What commands say of pipes, losses, flows and the end.
use Rattle.std.specs.Prelude.{ℕ, ◌+◌, Bool, false, ◌==◌, nat_lt, if◌then◌else◌, List, [], ◌∷◌, ◌++◌, Option, Some, None, ◌-◌, length, slice_get, position, is_some}
use Rattle.std.specs.List.{list_any}
use Rattle.emu_model.specs.declared.commands.Command.{Command}
use Rattle.emu_model.specs.declared.commands.Command.TheVariants.{Add, Config, Flow}
use Rattle.emu_model.specs.declared.commands.Timed.{Timed}
use Rattle.emu_model.specs.declared.rules.Action.{Action}
use Rattle.emu_model.specs.declared.rules.Action.TheVariants.{Pipe}
use Rattle.due_index.specs.Table.{place_in}
use Rattle.explain.specs.declared.warning.Warning.{Warning}
use Rattle.explain.specs.declared.warning.Concern.TheVariants.{NoPipe}

-- a pipe with losses
abbrev pub loses : Command → Bool
loses (Config pipe config) = nat_lt 0 config.plr
loses _ = false

abbrev pub has_loss : List Timed → Bool
has_loss cs = list_any (λ c. loses c.command) cs

abbrev pub configures : ℕ → Command → Bool
configures n (Config pipe config) = pipe == n
configures n _ = false

-- the pipe is configured somewhere
abbrev pub is_configured : List Timed → ℕ → Bool
is_configured cs n = list_any (λ c. configures n c.command) cs

-- the pipe that a rule names
abbrev pub named_by : Action → Option ℕ
named_by (Pipe n) = Some n
named_by _ = None

abbrev pub named_in : Command → Option ℕ
named_in (Add r) = named_by r.action
named_in _ = None

abbrev pub unless_configured : List Timed → ℕ → Option ℕ → List Warning
unless_configured all k None = []
unless_configured all k (Some n) = if is_configured all n then [] else record { command = Some k; concern = NoPipe n } ∷ []

-- the same by a table of what is configured
abbrev pub unless_leads : List (Option ℕ) → ℕ → Option ℕ → List Warning
unless_leads table k None = []
unless_leads table k (Some n) = if is_some (place_in table n) then [] else record { command = Some k; concern = NoPipe n } ∷ []

-- the rules that name a pipe which no command configures, from command k on
abbrev pub pipes_missing_from : List Timed → ℕ → List Timed → List Warning
pipes_missing_from all k [] = []
pipes_missing_from all k (c ∷ cs) = unless_configured all k (named_in c.command) ++ pipes_missing_from all (k + 1) cs

abbrev pub pipes_missing : List Timed → List Warning
pipes_missing cs = pipes_missing_from cs 0 cs

abbrev pub begins_flow : ℕ → Command → Bool
begins_flow n (Flow number flow) = number == n
begins_flow n _ = false

-- the first command that begins the flow of a number
abbrev pub flow_place : ℕ → List Timed → Option ℕ
flow_place n cs = position (λ c. begins_flow n c.command) cs

abbrev pub moment_of : Option Timed → ℕ
moment_of None = 0
moment_of (Some c) = c.moment

-- the moment of the last command; 0 where there is none
abbrev pub last_moment : List Timed → ℕ
last_moment cs = moment_of (slice_get cs (length cs - 1))
