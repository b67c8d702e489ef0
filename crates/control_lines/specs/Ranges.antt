-- The value of a line, if each number is in its range.
use Rattle.std.specs.Prelude.{ℕ, ◌+◌, ◌*◌, ◌&&◌, Option, Some, None, nat_le, false, ◌==◌, if◌then◌else◌, unwrap_or}
use Rattle.emu_model.specs.Spans.{AddressSpan, PortSpan, address_span}
use Rattle.emu_model.specs.declared.rules.Action.{Action}
use Rattle.emu_model.specs.declared.rules.Action.TheVariants as actions
use Rattle.emu_model.specs.declared.rules.Rule.{Rule}
use Rattle.emu_model.specs.declared.pipes.QueueLimit.{QueueLimit}
use Rattle.emu_model.specs.declared.pipes.QueueLimit.TheVariants as limits
use Rattle.emu_model.specs.declared.pipes.Discipline.{Discipline}
use Rattle.emu_model.specs.declared.pipes.Discipline.TheVariants as disciplines
use Rattle.emu_model.specs.declared.pipes.Mask.{Mask}
use Rattle.emu_model.specs.declared.pipes.PipeConfig.{PipeConfig}
use Rattle.emu_model.specs.declared.sources.SendSpec.{SendSpec}
use Rattle.emu_model.specs.declared.sources.TrainSpec.{TrainSpec}
use Rattle.emu_model.specs.declared.sources.Timing.{Timing}
use Rattle.emu_model.specs.declared.sources.Timing.TheVariants as timings
use Rattle.emu_model.specs.declared.sources.FlowSpec.{FlowSpec}
use Rattle.emu_model.specs.declared.commands.Spec.{Spec}
use Rattle.emu_model.specs.declared.commands.Command.{Command}
use Rattle.emu_model.specs.declared.commands.Command.TheVariants as commands
use Rattle.emu_model.specs.declared.commands.Timed.{Timed}
use Rattle.control_words.specs.Words.{◌>>=◌}
use Rattle.control_lines.specs.Grammar.{Header}
use Rattle.control_words.specs.declared.raw.RawAddress.{RawAddress}
use Rattle.control_words.specs.declared.raw.RawPrefix.{RawPrefix}
use Rattle.control_words.specs.declared.raw.RawPorts.{RawPorts}
use Rattle.control_lines.specs.declared.raw.RawAction.{RawAction}
use Rattle.control_lines.specs.declared.raw.RawAction.TheVariants as raw_action
use Rattle.control_lines.specs.declared.raw.RawRule.{RawRule}
use Rattle.control_words.specs.declared.raw.RawQueue.{RawQueue}
use Rattle.control_words.specs.declared.raw.RawQueue.TheVariants as raw_queue
use Rattle.control_words.specs.declared.raw_options.RawFields.{RawFields}
use Rattle.control_words.specs.declared.raw_options.RawMask.{RawMask}
use Rattle.control_words.specs.declared.raw_options.RawMask.TheVariants as raw_mask
use Rattle.control_words.specs.declared.raw_options.RawCodel.{RawCodel}
use Rattle.control_words.specs.declared.raw_options.BareDiscipline.{BareDiscipline}
use Rattle.control_words.specs.declared.raw_options.BareDiscipline.TheVariants as bare_discipline
use Rattle.control_words.specs.declared.raw_options.RawDiscipline.{RawDiscipline}
use Rattle.control_words.specs.declared.raw_options.RawDiscipline.TheVariants as raw_discipline
use Rattle.control_words.specs.declared.raw_options.RawConfig.{RawConfig}
use Rattle.control_words.specs.declared.raw.RawTiming.{RawTiming}
use Rattle.control_words.specs.declared.raw.RawTiming.TheVariants as raw_timing
use Rattle.control_lines.specs.declared.raw.RawSend.{RawSend}
use Rattle.control_lines.specs.declared.raw.RawTrain.{RawTrain}
use Rattle.control_lines.specs.declared.raw.RawFlow.{RawFlow}
use Rattle.control_lines.specs.declared.raw.RawCommand.{RawCommand}
use Rattle.control_lines.specs.declared.raw.RawCommand.TheVariants as raw
use Rattle.control_lines.specs.declared.raw.RawTimed.{RawTimed}

abbrev pub within : ℕ → ℕ → ℕ → Option ℕ
within n low high = if nat_le low n && nat_le n high then Some n else None

unfoldable pub address_within : RawAddress → Option ℕ
address_within a = do
  first ← within a.first 0 255
  second ← within a.second 0 255
  third ← within a.third 0 255
  fourth ← within a.fourth 0 255
  Some (((first * 256 + second) * 256 + third) * 256 + fourth)

unfoldable pub prefix_within : RawPrefix → Option AddressSpan
prefix_within p = do
  address ← address_within p.address
  length ← within p.length 0 32
  Some (address_span address length)

-- two ports, the first of which does not exceed the last
unfoldable pub span_within : RawPorts → Option PortSpan
span_within p = do
  first ← within p.first 0 65535
  last ← within p.last 0 65535
  if nat_le first last then Some (record { first = first; last = last }) else None

abbrev pub ports_within : Option RawPorts → Option (Option PortSpan)
ports_within None = Some None
ports_within (Some ports) = do
  span ← span_within ports
  Some (Some span)

unfoldable pub action_within : RawAction → Option Action
action_within raw_action.Allow = Some actions.Allow
action_within raw_action.Deny = Some actions.Deny
action_within raw_action.Count = Some actions.Count
action_within (raw_action.SkipTo rule) = do
  n ← within rule 0 99999
  Some (actions.SkipTo n)
action_within (raw_action.Pipe pipe) = do
  n ← within pipe 1 65535
  Some (actions.Pipe n)

unfoldable pub rule_within : RawRule → Option Rule
rule_within rule = do
  number ← within rule.number 0 99999
  action ← action_within rule.action
  src ← prefix_within rule.src
  sports ← ports_within rule.sports
  dst ← prefix_within rule.dst
  dports ← ports_within rule.dports
  Some (record { number = number; action = action; proto = rule.proto; src = src; sports = sports; dst = dst; dports = dports })

-- a number of slots, or of KBytes; 50 slots by default
unfoldable pub queue_within : Option RawQueue → Option QueueLimit
queue_within None = Some (limits.Slots 50)
queue_within (Some (raw_queue.Slots slots)) = do
  n ← within slots 1 1000
  Some (limits.Slots n)
queue_within (Some (raw_queue.KBytes kilobytes)) = do
  n ← within kilobytes 1 1024
  Some (limits.KBytes n)

-- all bits of omitted fields are zero
unfoldable pub fields_within : RawFields → Option Mask
fields_within fields = do
  proto ← within (unwrap_or fields.proto 0) 0 255
  src ← within (unwrap_or fields.src_ip 0) 0 4294967295
  dst ← within (unwrap_or fields.dst_ip 0) 0 4294967295
  sport ← within (unwrap_or fields.src_port 0) 0 65535
  dport ← within (unwrap_or fields.dst_port 0) 0 65535
  Some (record { proto = proto; src = src; dst = dst; sport = sport; dport = dport })

unfoldable pub mask_within : Option RawMask → Option Mask
mask_within None = Some (record { proto = 0; src = 0; dst = 0; sport = 0; dport = 0 })
mask_within (Some raw_mask.Everything) = Some (record { proto = 255; src = 4294967295; dst = 4294967295; sport = 65535; dport = 65535 })
mask_within (Some (raw_mask.Fields fields)) = fields_within fields

-- 5 ms and 100 ms by default
unfoldable pub codel_within : RawCodel → Option Discipline
codel_within codel = do
  target ← within (unwrap_or codel.target 5000000) 1000 60000000000
  interval ← within (unwrap_or codel.interval 100000000) 1000 60000000000
  Some (disciplines.ControlledDelay target interval)

abbrev pub bare_within : BareDiscipline → Discipline
bare_within bare_discipline.TailDrop = disciplines.TailDrop

unfoldable pub discipline_within : Option RawDiscipline → Option Discipline
discipline_within None = Some disciplines.TailDrop
discipline_within (Some (raw_discipline.Bare bare)) = Some (bare_within bare)
discipline_within (Some (raw_discipline.ControlledDelay codel)) = codel_within codel

unfoldable pub config_within : RawConfig → Option PipeConfig
config_within config = do
  bw ← within (unwrap_or config.bw 0) 0 10000000000
  delay ← within (unwrap_or config.delay 0) 0 60000
  queue ← queue_within config.queue
  plr ← within (unwrap_or config.plr 0) 0 1000000
  mask ← mask_within config.mask
  discipline ← discipline_within config.discipline
  Some (record { bw = bw; delay = delay; queue = queue; plr = plr; mask = mask; discipline = discipline })

unfoldable pub send_within : RawSend → Option SendSpec
send_within send = do
  src ← address_within send.ends.src
  sport ← within send.ends.sport 0 65535
  dst ← address_within send.ends.dst
  dport ← within send.ends.dport 0 65535
  size ← within send.size 40 1500
  Some (record { proto = send.proto; src = src; sport = sport; dst = dst; dport = dport; size = size })

abbrev pub trained : ℕ → TrainSpec → Command
trained number train = commands.Train number train

unfoldable pub train_within : RawTrain → Option Command
train_within train = do
  number ← within train.number 1 65535
  packet ← send_within train.packet
  count ← within train.count 1 1000000
  gap ← within train.gap 0 1000000000000
  Some (trained number (record { packet = packet; count = count; gap = gap }))

-- 1000 ms by default
unfoldable pub timing_within : Option RawTiming → Option Timing
timing_within None = Some (timings.Fixed 1000)
timing_within (Some raw_timing.Adaptive) = Some timings.Adaptive
timing_within (Some (raw_timing.Fixed milliseconds)) = do
  n ← within milliseconds 1 60000
  Some (timings.Fixed n)

unfoldable pub flow_spec_within : RawFlow → Option FlowSpec
flow_spec_within flow = do
  src ← address_within flow.ends.src
  sport ← within flow.ends.sport 0 65535
  dst ← address_within flow.ends.dst
  dport ← within flow.ends.dport 0 65535
  smss ← within flow.smss 64 1460
  segments ← within flow.segments 1 1000000
  ssthresh ← within (unwrap_or flow.options.ssthresh 65535) 1 1000000000
  rwnd ← within (unwrap_or flow.options.window 65535) 1 65535
  timing ← timing_within flow.options.timing
  Some (record { src = src; sport = sport; dst = dst; dport = dport; smss = smss; segments = segments; ssthresh = ssthresh; rwnd = rwnd; timing = timing })

unfoldable pub flow_within : RawFlow → Option Command
flow_within flow = do
  number ← within flow.number 1 65535
  spec ← flow_spec_within flow
  Some (commands.Flow number spec)

unfoldable pub command_within : RawCommand → Option Command
command_within (raw.Add rule) = do
  r ← rule_within rule
  Some (commands.Add r)
command_within (raw.Delete rule) = do
  n ← within rule 0 99999
  Some (commands.Delete n)
command_within (raw.Config pipe options) = do
  n ← within pipe 1 65535
  config ← config_within options
  Some (commands.Config n config)
command_within (raw.PipeDelete pipe) = do
  n ← within pipe 1 65535
  Some (commands.PipeDelete n)
command_within raw.PipeShow = Some commands.PipeShow
command_within raw.Show = Some commands.Show
command_within (raw.Inject send) = do
  s ← send_within send
  Some (commands.Inject s)
command_within (raw.Train train) = train_within train
command_within (raw.Flow flow) = flow_within flow
command_within (raw.Stop flow) = do
  n ← within flow 1 65535
  Some (commands.Stop n)
command_within (raw.OnePass setting) = do
  n ← within setting 0 1
  Some (commands.OnePass (n == 1))
command_within (raw.Trace setting) = do
  n ← within setting 0 1
  Some (commands.Trace (n == 1))
command_within raw.End = Some commands.End

unfoldable pub timed_within : RawTimed → Option Timed
timed_within c = do
  moment ← within c.moment 0 1000000000000000
  command ← command_within c.command
  Some (record { moment = moment; command = command })

unfoldable pub spec_within : Header → Option Spec
spec_within h = do
  seed ← within h.seed 0 18446744073709551615
  packets ← within h.budget 1 65535
  steps ← within (unwrap_or h.steps 1000000) 1 10000000
  Some (record {
    seed = seed;
    budget = record { packets = packets; steps = steps };
    traced = false;
  })
