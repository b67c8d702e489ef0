-- The task that the arguments of the command line request.
use Rattle.std.specs.Prelude.{◌≡◌, ℕ, Bool, false, List, [], ◌++◌, Option, Some, None, Result, Ok, IfErr, flat_map}
use Rattle.std.specs.List.{AllByRecursion}
use Rattle.std.specs.Io.KnownBytes.{Appends}
use Rattle.control.specs.Scenario.{Spells}
use Rattle.control.specs.declared.scenario.Experiment.{Experiment as Script}
use Rattle.control_words.specs.Text.{lines}
use Rattle.session.specs.Sessions.{Piece, IsPlain, told, written}
use Rattle.session.specs.Tracing.{run_all_as}
use Rattle.alone.specs.declared.fault.RunFault.{RunFault}
use Rattle.alone.specs.declared.limits.Limits.{Limits}
use Rattle.alone.specs.declared.limits.Stop.{Stop}
use Rattle.alone.specs.Reports.{Calls, IsOwnFault, output_as, reports, tally}
use Rattle.alone.specs.Conversations.{Converses, IsEnded}
use Rattle.alone.specs.Talks.{AsksForAll}
use Rattle.alone.specs.Within.{CallsWithin, leaves}
use Rattle.command_line.specs.declared.words.Task.{Task}
use Rattle.command_line.specs.declared.words.Task.TheVariants.{Run, Alone, Check, Live}

-- whether the task explains what is at fault, once the text has ended
abbrev pub explains : Task → Bool
explains (Run workers moves format limits progress explain strict) = explain
explains (Alone format limits progress explain strict) = explain
explains (Check explain strict) = explain
explains (Live steps explain) = false

-- whether a refused command and spent steps count as failures
abbrev pub is_strict : Task → Bool
is_strict (Run workers moves format limits progress explain strict) = strict
is_strict (Alone format limits progress explain strict) = strict
is_strict (Check explain strict) = strict
is_strict (Live steps explain) = false

abbrev pub limits_of : Task → Limits
limits_of (Run workers moves format limits progress explain strict) = limits
limits_of (Alone format limits progress explain strict) = limits
limits_of (Check explain strict) = record { steps = None; output = None }
limits_of (Live steps explain) = record { steps = steps; output = None }

-- the text is a prefix of what was left to read; all of it, if the reader came to its end
abbrev pub IsReadOf : Option (List ℕ) → List ℕ → Result (Unit {0}) RunFault → Type 0
IsReadOf None text r = Unit {0}
IsReadOf (Some all) text r = (rest : List ℕ) × (all ≡ text ++ rest) × (IsEnded r → rest ≡ [])

-- a session that read this text, with hints only if it explains
pub record Talks (explain : Bool) (steps : Option ℕ) (given : List ℕ → Type 0) (read old new : Option (List ℕ)) (r : Result (Unit {0}) RunFault) : Type 0 where
  pub own : IfErr r IsOwnFault
  pub text : List ℕ
  pub given_is : given text
  pub read_is : IsReadOf read text r
  pub converses : Converses (λ line cause hint. explain ≡ false → hint ≡ []) steps text old new r
  -- if the text spells a scenario without `show mine`, and the output is plain, the bytes of reports are the scenario's
  -- reports: traced if the first line turns tracing on, and untraced if none does
  pub tells : (all : List ℕ) → read ≡ Some all → r ≡ Ok tt → (ps : List Piece) × Appends old new (flat_map written ps)
      × ((es : List Script) (on : Bool) → Spells all es → AsksForAll on (lines all) → AllByRecursion IsPlain ps → flat_map told ps ≡ reports (run_all_as on es))

-- for the text that the reader returned
abbrev pub OfGiven : (List ℕ → Type 0) → (Option (List ℕ) → Type 0) → Type 0
OfGiven given P = (text : List ℕ) × given text × P (Some text)

-- the effect of a task: the reader's calls returned these bytes, `read` was left to read, `old` was written before it and
-- `new` is after it
abbrev pub Does : Task → (List ℕ → Type 0) → Option (List ℕ) → Option (List ℕ) → Option (List ℕ) → Result (Unit {0}) Stop → Type 0
Does (Run workers moves format limits progress explain strict) given read old new r = CallsWithin limits (output_as format) read old new r
Does (Alone format limits progress explain strict) given read old new r = CallsWithin limits (output_as format) read old new r × OfGiven given (λ text. CallsWithin limits (output_as format) text old new r)
Does (Check explain strict) given read old new r = Calls tally read old new (leaves r) × OfGiven given (λ text. Calls tally text old new (leaves r))
Does (Live steps explain) given read old new r = Talks explain steps given read old new (leaves r)
