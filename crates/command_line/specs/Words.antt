-- The arguments of the command line: their grammar, and the task that they request. `clap` defines what a grammar accepts.
use Rattle.std.specs.Prelude.{◌≡◌, ◌^◌, ◌&&◌, ℕ, Bool, true, false, List, [], ◌∷◌, Option, Some, None, codes, nat_lt}
use Rattle.std.specs.Prelude.{if◌then◌else◌, option_map, option_and_then, unwrap_or, pos}
use Rattle.std.specs.Option.{option_map_or}
use Rattle.std.specs.Str.{bytes_eq}
use Rattle.std.specs.Str.Parse.{digits_value, without_leading_plus}
use Rattle.clap.specs.ValueTests.{is_numeral}
use Rattle.clap.specs.Words.{App, Row, Rule, Shape, Text, app_of, first_of, new_rule, one_of, rule_of, subcommand_of}
use Rattle.clap.specs.Simple.{new_shape}
use Rattle.clap.specs.declared.builder.action.ArgAction.TheVariants.{SetTrue}
use Rattle.clap.specs.declared.builder.arg.Arg.{Arg}
use Rattle.clap.specs.declared.builder.command.Command.{Command}
use Rattle.clap.specs.declared.builder.command.Command.TheViews.{out-Command}
use Rattle.clap.specs.declared.builder.value_parser.ValueParser.{ValueParser}
use Rattle.clap.specs.declared.builder.value_parser.ValueParser.TheVariants.{Signed, String, Unsigned}
use Rattle.alone.specs.declared.limits.Format.{Format}
use Rattle.alone.specs.declared.limits.Format.TheVariants as formats
use Rattle.alone.specs.declared.limits.Limits.{Limits}
use Rattle.alone.specs.Reports.{traced_format}
use Rattle.command_line.specs.declared.words.Task.{Task}
use Rattle.command_line.specs.declared.words.Task.TheVariants.{Run, Alone, Check, Live}

-- ---- the grammar

-- `--name`
abbrev pub flag : Text → Rule
flag name = record (new_rule name) { long = Some name; action = Some SetTrue }

-- `--name N`
abbrev pub number : Text → ValueParser → Rule
number name range = record (new_rule name) { long = Some name; value_names = 1; parser = Some range }

abbrev pub workers_rule : Rule
workers_rule = number (codes "workers") (Unsigned 1 16)

abbrev pub moves_rule : Rule
moves_rule = number (codes "moves") (Signed (pos 0) (pos 1000000))

abbrev pub max_steps_rule : Rule
max_steps_rule = number (codes "max-steps") (Unsigned 0 18446744073709551615)

abbrev pub max_output_rule : Rule
max_output_rule = number (codes "max-output") (Unsigned 0 18446744073709551615)

-- `--format FORMAT`: any text, of which `format_of` says whether it is a format
abbrev pub format_rule : Rule
format_rule = number (codes "format") String

abbrev pub command : Text → List Rule → Shape
command name options = record (new_shape name) { rules = options }

abbrev pub run_shape : Shape
run_shape = command (codes "run") (workers_rule ∷ moves_rule ∷ format_rule ∷ flag (codes "progress") ∷ flag (codes "explain")
    ∷ flag (codes "strict") ∷ flag (codes "trace") ∷ max_steps_rule ∷ max_output_rule ∷ [])

abbrev pub alone_shape : Shape
alone_shape = command (codes "alone") (format_rule ∷ flag (codes "progress") ∷ flag (codes "explain") ∷ flag (codes "strict")
    ∷ flag (codes "trace") ∷ max_steps_rule ∷ max_output_rule ∷ [])

abbrev pub check_shape : Shape
check_shape = command (codes "check") (flag (codes "explain") ∷ flag (codes "strict") ∷ [])

abbrev pub live_shape : Shape
live_shape = command (codes "live") (flag (codes "explain") ∷ max_steps_rule ∷ [])

-- arguments without a command are wrong
abbrev pub program_shape : Shape
program_shape = record (new_shape (codes "dnlab")) {
  has_version = true;
  arg_required_else_help = true;
  subcommand_required = true;
}

unfoldable pub dnlab : App
dnlab = record {
  top = record program_shape { is_leaf = false };
  subs = run_shape ∷ alone_shape ∷ check_shape ∷ live_shape ∷ [];
}

-- the option and the command in the code are these
abbrev pub IsArg : Rule → Arg → Type 0
IsArg rule arg = (rule_of arg ≡ rule) × (arg.global ≡ false)

abbrev pub IsCommand : Shape → Command → Type 0
IsCommand shape c = (app_of c ≡ record { top = shape; subs = [] }) × ((out-Command c).has_globals ≡ false)

-- ---- the task

-- the number below `end` that a text spells
unfoldable pub number_below : ℕ → Text → Option ℕ
number_below end text =
    let digits = without_leading_plus text in
    if is_numeral digits && nat_lt (digits_value 10 digits) end then Some (digits_value 10 digits) else None

abbrev pub number_in : ℕ → Text → List Row → Option ℕ
number_in end name rows = option_and_then (number_below end) (one_of name rows)

abbrev pub flag_in : Text → List Row → Bool
flag_in name rows = option_map_or (λ text. bytes_eq text (codes "true")) (one_of name rows) false

-- the format that a text names
abbrev pub format_of : Text → Option Format
format_of text = if bytes_eq text (codes "text") then Some formats.Text else (if bytes_eq text (codes "npy") then Some formats.Npy else None)

-- the format that is requested, which is text if none is; `None` if the option has another value
abbrev pub format_in : List Row → Option Format
format_in rows = option_map_or format_of (first_of (codes "format") rows) (Some formats.Text)

-- the format with all packets traced, if `--trace` is given
abbrev pub traced_in : List Row → Format → Format
traced_in rows format = if flag_in (codes "trace") rows then traced_format format else format

abbrev pub limits_in : List Row → Limits
limits_in rows = record {
  steps = number_in (2 ^ 64) (codes "max-steps") rows;
  output = number_in (2 ^ 64) (codes "max-output") rows;
}

abbrev pub run_in : Format → List Row → Task
run_in format rows = Run (unwrap_or (number_in (2 ^ 64) (codes "workers") rows) 2)
    (unwrap_or (number_in (2 ^ 32) (codes "moves") rows) 64) (traced_in rows format) (limits_in rows)
    (flag_in (codes "progress") rows) (flag_in (codes "explain") rows) (flag_in (codes "strict") rows)

abbrev pub alone_in : Format → List Row → Task
alone_in format rows = Alone (traced_in rows format) (limits_in rows)
    (flag_in (codes "progress") rows) (flag_in (codes "explain") rows) (flag_in (codes "strict") rows)

abbrev pub live_in : List Row → Task
live_in rows = Live (number_in (2 ^ 64) (codes "max-steps") rows) (flag_in (codes "explain") rows)

-- the task for the name of a command and its options, if its format is known; the grammar has four names
abbrev pub task_in : Text × List Row → Option Task
task_in p = if bytes_eq p.0 (codes "run") then option_map (λ format. run_in format p.1) (format_in p.1)
    else (if bytes_eq p.0 (codes "alone") then option_map (λ format. alone_in format p.1) (format_in p.1)
    else (if bytes_eq p.0 (codes "live") then Some (live_in p.1)
    else Some (Check (flag_in (codes "explain") p.1) (flag_in (codes "strict") p.1))))

abbrev pub plan_of : List Text → Option Task
plan_of words = option_and_then task_in (subcommand_of dnlab words)
