-- Parsing the words of a line.
use Rattle.std.specs.Prelude.{ℕ, List, [], ◌∷◌, Option, Some, None, if◌then◌else◌}
use Rattle.std.specs.Str.{bytes_eq}
use lib.Chars.{codes}
use Rattle.control_words.specs.Words.{Words, ◌>>=◌, next, none_left, after, value, said}
use Rattle.control_words.specs.Numbers.{number_of, moment_of}
use Rattle.control_words.specs.Addresses.{protocol_of, match_of, address_of, prefix_of, ports_of, name_of}
use Rattle.control_words.specs.Options.{options_of, flow_options_of}
use Rattle.control_lines.specs.Grammar.{Header, Line, Experiment, Command}
use Rattle.control_lines.specs.declared.raw.RawAction.{RawAction}
use Rattle.control_lines.specs.declared.raw.RawAction.TheVariants.{Allow, Deny, Count, SkipTo, Pipe}
use Rattle.control_words.specs.declared.raw.RawPorts.{RawPorts}
use Rattle.control_lines.specs.declared.raw.RawRule.{RawRule}
use Rattle.control_lines.specs.declared.raw.RawEnds.{RawEnds}
use Rattle.control_lines.specs.declared.raw.RawSend.{RawSend}
use Rattle.control_lines.specs.declared.raw.RawTrain.{RawTrain}
use Rattle.control_lines.specs.declared.raw.RawFlow.{RawFlow}
use Rattle.control_lines.specs.declared.raw.RawCommand.{RawCommand}
use Rattle.control_lines.specs.declared.raw.RawCommand.TheVariants as commands
use Rattle.control_lines.specs.declared.raw.RawHeader.{RawHeader}
use Rattle.control_lines.specs.declared.raw.RawLine.{RawLine}
use Rattle.control_lines.specs.declared.raw.RawLine.TheVariants as lines

abbrev pub view_header : RawHeader → Header
view_header h = record { name = h.name.now; seed = h.seed; budget = h.budget; steps = h.steps }

abbrev pub view_line : RawLine → Line
view_line (lines.Experiment h) = Experiment (view_header h)
view_line (lines.Command c) = Command c

-- a number, and nothing after it
abbrev pub last_number_of : Words → Option ℕ
last_number_of ws = do
  n ← value number_of ws
  end ← none_left n.1
  Some n.0

-- ---- rules
unfoldable pub action_of : Words → Option (RawAction × Words)
action_of ws = do
  verb ← next ws
  if bytes_eq verb.0 (codes "allow") then Some (Allow, verb.1)
      else if bytes_eq verb.0 (codes "deny") then Some (Deny, verb.1)
      else if bytes_eq verb.0 (codes "count") then Some (Count, verb.1)
      else if bytes_eq verb.0 (codes "skipto") then said number_of SkipTo verb.1
      else if bytes_eq verb.0 (codes "pipe") then said number_of Pipe verb.1
      else None

abbrev pub ports_and_to : List ℕ → Words → Option (Option RawPorts × Words)
ports_and_to word ws = do
  ports ← ports_of word
  rest ← after (codes "to") ws
  Some (Some ports, rest)

-- [PORTS] to
unfoldable pub source_ports_of : Words → Option (Option RawPorts × Words)
source_ports_of ws = do
  first ← next ws
  if bytes_eq first.0 (codes "to") then Some (None, first.1) else ports_and_to first.0 first.1

-- [PORTS], up to the end of the line
unfoldable pub last_ports_of : Words → Option (Option RawPorts)
last_ports_of [] = Some None
last_ports_of (word ∷ ws) = do
  ports ← ports_of word
  end ← none_left ws
  Some (Some ports)

unfoldable pub rule_of : Words → Option RawRule
rule_of ws = do
  number ← value number_of ws
  action ← action_of number.1
  proto ← value match_of action.1
  from ← after (codes "from") proto.1
  src ← value prefix_of from
  sports ← source_ports_of src.1
  dst ← value prefix_of sports.1
  dports ← last_ports_of dst.1
  Some (record { number = number.0; action = action.0; proto = proto.0; src = src.0; sports = sports.0; dst = dst.0; dports = dports })

-- ---- lines that send
unfoldable pub ends_of : Words → Option (RawEnds × Words)
ends_of ws = do
  src ← value address_of ws
  sport ← value number_of src.1
  dst ← value address_of sport.1
  dport ← value number_of dst.1
  Some (record { src = src.0; sport = sport.0; dst = dst.0; dport = dport.0 }, dport.1)

unfoldable pub send_of : Words → Option (RawSend × Words)
send_of ws = do
  proto ← value protocol_of ws
  ends ← ends_of proto.1
  size ← value number_of ends.1
  Some (record { proto = proto.0; ends = ends.0; size = size.0 }, size.1)

unfoldable pub train_of : Words → Option RawTrain
train_of ws = do
  number ← value number_of ws
  packet ← send_of number.1
  from_count ← after (codes "count") packet.1
  count ← value number_of from_count
  from_gap ← after (codes "gap") count.1
  gap ← last_number_of from_gap
  Some (record { number = number.0; packet = packet.0; count = count.0; gap = gap })

unfoldable pub flow_of : Words → Option RawFlow
flow_of ws = do
  number ← value number_of ws
  ends ← ends_of number.1
  from_smss ← after (codes "smss") ends.1
  smss ← value number_of from_smss
  from_segments ← after (codes "segments") smss.1
  segments ← value number_of from_segments
  options ← flow_options_of segments.1
  Some (record { number = number.0; ends = ends.0; smss = smss.0; segments = segments.0; options = options })

-- ---- commands
abbrev pub numbered : (ℕ → RawCommand) → Words → Option RawCommand
numbered command ws = do
  n ← last_number_of ws
  Some (command n)

abbrev pub alone : RawCommand → Words → Option RawCommand
alone command ws = do
  end ← none_left ws
  Some command

abbrev pub config_of : List ℕ → Words → Option RawCommand
config_of word ws = do
  n ← number_of word
  rest ← after (codes "config") ws
  config ← options_of rest
  Some (commands.Config n config)

unfoldable pub pipe_of : Words → Option RawCommand
pipe_of ws = do
  word ← next ws
  if bytes_eq word.0 (codes "show") then alone commands.PipeShow word.1
      else if bytes_eq word.0 (codes "delete") then numbered commands.PipeDelete word.1
      else config_of word.0 word.1

abbrev pub add_of : Words → Option RawCommand
add_of ws = do
  rule ← rule_of ws
  Some (commands.Add rule)

abbrev pub inject_of : Words → Option RawCommand
inject_of ws = do
  send ← send_of ws
  end ← none_left send.1
  Some (commands.Inject send.0)

abbrev pub train_command_of : Words → Option RawCommand
train_command_of ws = do
  train ← train_of ws
  Some (commands.Train train)

abbrev pub flow_command_of : Words → Option RawCommand
flow_command_of ws = do
  flow ← flow_of ws
  Some (commands.Flow flow)

unfoldable pub source_of : List ℕ → Words → Option RawCommand
source_of verb ws = if bytes_eq verb (codes "inject") then inject_of ws
    else if bytes_eq verb (codes "train") then train_command_of ws
    else if bytes_eq verb (codes "flow") then flow_command_of ws
    else if bytes_eq verb (codes "stop") then numbered commands.Stop ws
    else None

unfoldable pub command_of : Words → Option RawCommand
command_of ws = do
  verb ← next ws
  if bytes_eq verb.0 (codes "add") then add_of verb.1
      else if bytes_eq verb.0 (codes "delete") then numbered commands.Delete verb.1
      else if bytes_eq verb.0 (codes "pipe") then pipe_of verb.1
      else if bytes_eq verb.0 (codes "show") then alone commands.Show verb.1
      else if bytes_eq verb.0 (codes "one_pass") then numbered commands.OnePass verb.1
      else if bytes_eq verb.0 (codes "trace") then numbered commands.Trace verb.1
      else if bytes_eq verb.0 (codes "end") then alone commands.End verb.1
      else source_of verb.0 verb.1

-- ---- lines
-- `steps N`, or nothing
unfoldable pub steps_of : Words → Option (Option ℕ)
steps_of [] = Some None
steps_of (word ∷ ws) = if bytes_eq word (codes "steps") then (do
  n ← last_number_of ws
  Some (Some n))
    else None

unfoldable pub header_of : Words → Option Header
header_of ws = do
  name ← value name_of ws
  from_seed ← after (codes "seed") name.1
  seed ← value number_of from_seed
  from_budget ← after (codes "budget") seed.1
  budget ← value number_of from_budget
  steps ← steps_of budget.1
  Some (record { name = name.0; seed = seed.0; budget = budget.0; steps = steps })

abbrev pub experiment_of : Words → Option Line
experiment_of ws = do
  header ← header_of ws
  Some (Experiment header)

abbrev pub timed_of : List ℕ → Words → Option Line
timed_of word ws = do
  moment ← moment_of word
  command ← command_of ws
  Some (Command (record { moment = moment; command = command }))

unfoldable pub shape_of : Words → Option Line
shape_of ws = do
  first ← next ws
  if bytes_eq first.0 (codes "experiment") then experiment_of first.1 else timed_of first.0 first.1
