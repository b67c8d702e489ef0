-- The value or keyword that is allowed at a place of a line, and what is expected after it.
use Rattle.std.specs.Prelude.{ℕ, false, Option, Some, None}
use Rattle.control.specs.declared.form.Form.{Form}
use Rattle.control.specs.declared.form.Form.TheVariants as forms
use Rattle.control.specs.declared.form.Keyword.TheVariants as keywords
use Rattle.control.specs.declared.value.Value.{Value}
use Rattle.control.specs.declared.expected.Expected.{Expected}
use Rattle.control.specs.declared.expected.Expected.TheVariants.{First, Header, Verb, Rule, RuleGone, Pipe, Inject, Train, Flow, Stopped, OnePass, Trace, End}
use Rattle.control.specs.declared.expected.HeaderWord.{HeaderWord}
use Rattle.control.specs.declared.expected.HeaderWord.TheVariants as header
use Rattle.control.specs.declared.expected.RuleWord.{RuleWord}
use Rattle.control.specs.declared.expected.RuleWord.TheVariants as rule
use Rattle.control.specs.declared.expected.EndsWord.{EndsWord}
use Rattle.control.specs.declared.expected.EndsWord.TheVariants as ends
use Rattle.control.specs.declared.expected.PacketWord.{PacketWord}
use Rattle.control.specs.declared.expected.PacketWord.TheVariants as packet
use Rattle.control.specs.declared.expected.TrainWord.{TrainWord}
use Rattle.control.specs.declared.expected.TrainWord.TheVariants as train
use Rattle.control.specs.declared.expected.FlowSeen.{FlowSeen}
use Rattle.control.specs.declared.expected.FlowWord.{FlowWord}
use Rattle.control.specs.declared.expected.FlowWord.TheVariants as flow
use Rattle.control.specs.declared.expected.PipeSeen.{PipeSeen}
use Rattle.control.specs.declared.expected.PipeWord.{PipeWord}
use Rattle.control.specs.declared.expected.PipeWord.TheVariants as pipe

abbrev pub to_next : Form → Expected → Value
to_next form next = record { form = form; next = next }

abbrev pub number : ℕ → ℕ → Form
number low high = forms.Number low high

-- ---- an experiment
abbrev pub header_value : HeaderWord → Value
header_value header.Name = to_next forms.Name (Header header.SeedWord)
header_value header.SeedWord = to_next (forms.Word keywords.Seed) (Header header.Seed)
header_value header.Seed = to_next (number 0 18446744073709551615) (Header header.BudgetWord)
header_value header.BudgetWord = to_next (forms.Word keywords.Budget) (Header header.Budget)
header_value header.Budget = to_next (number 1 65535) (Header header.StepsWord)
header_value header.StepsWord = to_next (forms.Word keywords.Steps) (Header header.Steps)
header_value header.Steps = to_next (number 1 10000000) End

-- ---- a rule
abbrev pub rule_value : RuleWord → Option Value
rule_value rule.Number = Some (to_next (number 0 99999) (Rule rule.Action))
rule_value rule.Action = None
rule_value rule.SkipTo = Some (to_next (number 0 99999) (Rule rule.Protocol))
rule_value rule.ToPipe = Some (to_next (number 1 65535) (Rule rule.Protocol))
rule_value rule.Protocol = Some (to_next forms.ProtocolMatch (Rule rule.From))
rule_value rule.From = Some (to_next (forms.Word keywords.From) (Rule rule.Source))
rule_value rule.Source = Some (to_next forms.Prefix (Rule rule.SourcePorts))
rule_value rule.SourcePorts = Some (to_next forms.Ports (Rule rule.To))
rule_value rule.To = Some (to_next (forms.Word keywords.To) (Rule rule.Destination))
rule_value rule.Destination = Some (to_next forms.Prefix (Rule rule.LastPorts))
rule_value rule.LastPorts = Some (to_next forms.Ports End)

-- ---- packets, trains and flows
abbrev pub ends_form : EndsWord → Form
ends_form ends.Source = forms.Address
ends_form ends.SourcePort = number 0 65535
ends_form ends.Destination = forms.Address
ends_form ends.DestinationPort = number 0 65535

abbrev pub ends_next : EndsWord → Option EndsWord
ends_next ends.Source = Some ends.SourcePort
ends_next ends.SourcePort = Some ends.Destination
ends_next ends.Destination = Some ends.DestinationPort
ends_next ends.DestinationPort = None

abbrev pub packet_form : PacketWord → Form
packet_form packet.Protocol = forms.Protocol
packet_form (packet.Ends word) = ends_form word
packet_form packet.Size = number 40 1500

abbrev pub behind_ends : Option EndsWord → PacketWord
behind_ends (Some word) = packet.Ends word
behind_ends None = packet.Size

abbrev pub packet_next : PacketWord → Option PacketWord
packet_next packet.Protocol = Some (packet.Ends ends.Source)
packet_next (packet.Ends word) = Some (behind_ends (ends_next word))
packet_next packet.Size = None

abbrev pub inject_next : Option PacketWord → Expected
inject_next (Some word) = Inject word
inject_next None = End

abbrev pub train_next : Option PacketWord → Expected
train_next (Some word) = Train (train.Packet word)
train_next None = Train train.CountWord

abbrev pub train_value : TrainWord → Value
train_value train.Number = to_next (number 1 65535) (Train (train.Packet packet.Protocol))
train_value (train.Packet word) = to_next (packet_form word) (train_next (packet_next word))
train_value train.CountWord = to_next (forms.Word keywords.Count) (Train train.Count)
train_value train.Count = to_next (number 1 1000000) (Train train.GapWord)
train_value train.GapWord = to_next (forms.Word keywords.Gap) (Train train.Gap)
train_value train.Gap = to_next (number 0 1000000000000) End

abbrev pub flow_next : Option EndsWord → Expected
flow_next (Some word) = Flow (flow.Ends word)
flow_next None = Flow flow.SmssWord

abbrev pub no_flow : FlowSeen
no_flow = record { ssthresh = false; window = false; timing = false }

abbrev pub flow_value : FlowWord → Option Value
flow_value flow.Number = Some (to_next (number 1 65535) (Flow (flow.Ends ends.Source)))
flow_value (flow.Ends word) = Some (to_next (ends_form word) (flow_next (ends_next word)))
flow_value flow.SmssWord = Some (to_next (forms.Word keywords.Smss) (Flow flow.Smss))
flow_value flow.Smss = Some (to_next forms.Segment (Flow flow.SegmentsWord))
flow_value flow.SegmentsWord = Some (to_next (forms.Word keywords.Segments) (Flow flow.Segments))
flow_value flow.Segments = Some (to_next (number 1 1000000) (Flow (flow.Setting no_flow)))
flow_value (flow.Setting seen) = None
flow_value (flow.Ssthresh seen) = Some (to_next (number 1 1000000000) (Flow (flow.Setting seen)))
flow_value (flow.Window seen) = Some (to_next forms.Window (Flow (flow.Setting seen)))
flow_value (flow.Timing seen) = Some (to_next forms.Timing (Flow (flow.Setting seen)))

-- ---- pipes
abbrev pub no_pipe : PipeSeen
no_pipe = record { bw = false; delay = false; queue = false; plr = false; mask = false; discipline = false }

abbrev pub pipe_value : PipeWord → Option Value
pipe_value pipe.What = Some (to_next (number 1 65535) (Pipe pipe.Config))
pipe_value pipe.Gone = Some (to_next (number 1 65535) End)
pipe_value pipe.Config = Some (to_next (forms.Word keywords.Config) (Pipe (pipe.Setting no_pipe)))
pipe_value (pipe.Setting seen) = None
pipe_value (pipe.Bw seen) = Some (to_next forms.Rate (Pipe (pipe.Setting seen)))
pipe_value (pipe.Delay seen) = Some (to_next forms.Delay (Pipe (pipe.Setting seen)))
pipe_value (pipe.Queue seen) = Some (to_next forms.Queue (Pipe (pipe.Setting seen)))
pipe_value (pipe.Plr seen) = Some (to_next forms.Fraction (Pipe (pipe.Setting seen)))
pipe_value (pipe.Mask seen) = None
pipe_value (pipe.Fields seen fields) = None
pipe_value (pipe.AddressBits seen fields) = Some (to_next forms.Field8 (Pipe (pipe.Fields seen fields)))
pipe_value (pipe.PortBits seen fields) = Some (to_next forms.Field4 (Pipe (pipe.Fields seen fields)))
pipe_value (pipe.ProtocolBits seen fields) = Some (to_next forms.Field2 (Pipe (pipe.Fields seen fields)))
pipe_value (pipe.Times seen times) = None
pipe_value (pipe.Time seen times) = Some (to_next forms.Time (Pipe (pipe.Times seen times)))

-- ---- lines
abbrev pub value_at : Expected → Option Value
value_at First = Some (to_next forms.Moment Verb)
value_at (Header word) = Some (header_value word)
value_at Verb = None
value_at (Rule word) = rule_value word
value_at RuleGone = Some (to_next (number 0 99999) End)
value_at (Pipe word) = pipe_value word
value_at (Inject word) = Some (to_next (packet_form word) (inject_next (packet_next word)))
value_at (Train word) = Some (train_value word)
value_at (Flow word) = flow_value word
value_at Stopped = Some (to_next (number 1 65535) End)
value_at OnePass = Some (to_next (number 0 1) End)
value_at Trace = Some (to_next (number 0 1) End)
value_at End = None
