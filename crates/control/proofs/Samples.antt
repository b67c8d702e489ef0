-- From each place of a line on there are words that end it.
use Rattle.std.proofs.Common.{◌≡◌, ℕ, true, List, [], ◌∷◌, refl}
use lib.Chars.{codes}
use Rattle.control_words.specs.Words.{Words}
use Rattle.control_words.specs.Numbers.{number_of, moment_of, number_with_unit, rate_of, rate_unit, delay_of, delay_unit, queue_of, time_of, time_unit, fraction_of, hex_of, hex_digits_of, timing_of}
use Rattle.control_words.specs.Addresses.{protocol_of, match_of, address_of, prefix_of, name_of}
use Rattle.control_lines.specs.Ranges.{address_within, prefix_within, queue_within, timing_within}
use Rattle.control.specs.declared.word_fault.Check.{Check}
use Rattle.control.specs.declared.word_fault.Check.TheVariants.{Forms, Ranges}
use Rattle.control.specs.declared.expected.Expected.{Expected}
use Rattle.control.specs.declared.expected.Expected.TheVariants.{First, Header, Verb, Rule, RuleGone, Pipe, Inject, Train, Flow, Stopped, OnePass, Trace, End}
use Rattle.control.specs.declared.expected.HeaderWord.{HeaderWord}
use Rattle.control.specs.declared.expected.HeaderWord.TheVariants as header
use Rattle.control.specs.declared.expected.RuleWord.{RuleWord}
use Rattle.control.specs.declared.expected.RuleWord.TheVariants as rule
use Rattle.control.specs.declared.expected.EndsWord.{EndsWord}
use Rattle.control.specs.declared.expected.EndsWord.TheVariants as ends
use Rattle.control.specs.declared.expected.PacketWord.{PacketWord}
use Rattle.control.specs.declared.expected.PacketWord.TheVariants as packet
use Rattle.control.specs.declared.expected.TrainWord.{TrainWord}
use Rattle.control.specs.declared.expected.TrainWord.TheVariants as train
use Rattle.control.specs.declared.expected.FlowWord.{FlowWord}
use Rattle.control.specs.declared.expected.FlowWord.TheVariants as flow
use Rattle.control.specs.declared.expected.PipeWord.{PipeWord}
use Rattle.control.specs.declared.expected.PipeWord.TheVariants as pipe
use Rattle.control.specs.Walk.{next}
use Rattle.control.proofs.Steps.{accepts}

abbrev one : Words
one = codes "1" ∷ []

abbrev host : List ℕ
host = codes "1.1.1.1"

abbrev header_sample : HeaderWord → Words
header_sample header.Name = codes "a" ∷ codes "seed" ∷ codes "1" ∷ codes "budget" ∷ one
header_sample header.SeedWord = codes "seed" ∷ codes "1" ∷ codes "budget" ∷ one
header_sample header.Seed = codes "1" ∷ codes "budget" ∷ one
header_sample header.BudgetWord = codes "budget" ∷ one
header_sample header.Budget = one
header_sample header.StepsWord = []
header_sample header.Steps = one

abbrev rule_sample : RuleWord → Words
rule_sample rule.Number = codes "1" ∷ codes "deny" ∷ codes "ip" ∷ codes "from" ∷ codes "any" ∷ codes "to" ∷ codes "any" ∷ []
rule_sample rule.Action = codes "deny" ∷ codes "ip" ∷ codes "from" ∷ codes "any" ∷ codes "to" ∷ codes "any" ∷ []
rule_sample rule.SkipTo = codes "1" ∷ codes "ip" ∷ codes "from" ∷ codes "any" ∷ codes "to" ∷ codes "any" ∷ []
rule_sample rule.ToPipe = codes "1" ∷ codes "ip" ∷ codes "from" ∷ codes "any" ∷ codes "to" ∷ codes "any" ∷ []
rule_sample rule.Protocol = codes "ip" ∷ codes "from" ∷ codes "any" ∷ codes "to" ∷ codes "any" ∷ []
rule_sample rule.From = codes "from" ∷ codes "any" ∷ codes "to" ∷ codes "any" ∷ []
rule_sample rule.Source = codes "any" ∷ codes "to" ∷ codes "any" ∷ []
rule_sample rule.SourcePorts = codes "to" ∷ codes "any" ∷ []
rule_sample rule.To = codes "to" ∷ codes "any" ∷ []
rule_sample rule.Destination = codes "any" ∷ []
rule_sample rule.LastPorts = []

abbrev ends_sample : EndsWord → Words → Words
ends_sample ends.Source more = host ∷ codes "1" ∷ host ∷ codes "1" ∷ more
ends_sample ends.SourcePort more = codes "1" ∷ host ∷ codes "1" ∷ more
ends_sample ends.Destination more = host ∷ codes "1" ∷ more
ends_sample ends.DestinationPort more = codes "1" ∷ more

abbrev packet_sample : PacketWord → Words → Words
packet_sample packet.Protocol more = codes "udp" ∷ ends_sample ends.Source (codes "40" ∷ more)
packet_sample (packet.Ends word) more = ends_sample word (codes "40" ∷ more)
packet_sample packet.Size more = codes "40" ∷ more

abbrev train_sample : TrainWord → Words
train_sample train.Number = codes "1" ∷ packet_sample packet.Protocol (codes "count" ∷ codes "1" ∷ codes "gap" ∷ one)
train_sample (train.Packet word) = packet_sample word (codes "count" ∷ codes "1" ∷ codes "gap" ∷ one)
train_sample train.CountWord = codes "count" ∷ codes "1" ∷ codes "gap" ∷ one
train_sample train.Count = codes "1" ∷ codes "gap" ∷ one
train_sample train.GapWord = codes "gap" ∷ one
train_sample train.Gap = one

abbrev flow_sample : FlowWord → Words
flow_sample flow.Number = codes "1" ∷ ends_sample ends.Source (codes "smss" ∷ codes "64" ∷ codes "segments" ∷ one)
flow_sample (flow.Ends word) = ends_sample word (codes "smss" ∷ codes "64" ∷ codes "segments" ∷ one)
flow_sample flow.SmssWord = codes "smss" ∷ codes "64" ∷ codes "segments" ∷ one
flow_sample flow.Smss = codes "64" ∷ codes "segments" ∷ one
flow_sample flow.SegmentsWord = codes "segments" ∷ one
flow_sample flow.Segments = one
flow_sample (flow.Setting seen) = []
flow_sample (flow.Ssthresh seen) = one
flow_sample (flow.Window seen) = one
flow_sample (flow.Timing seen) = one

abbrev pipe_sample : PipeWord → Words
pipe_sample pipe.What = codes "show" ∷ []
pipe_sample pipe.Gone = one
pipe_sample pipe.Config = codes "config" ∷ []
pipe_sample (pipe.Setting seen) = []
pipe_sample (pipe.Bw seen) = one
pipe_sample (pipe.Delay seen) = one
pipe_sample (pipe.Queue seen) = one
pipe_sample (pipe.Plr seen) = one
pipe_sample (pipe.Mask seen) = codes "all" ∷ []
pipe_sample (pipe.Fields seen fields) = []
pipe_sample (pipe.AddressBits seen fields) = codes "0x1" ∷ []
pipe_sample (pipe.PortBits seen fields) = codes "0x1" ∷ []
pipe_sample (pipe.ProtocolBits seen fields) = codes "0x1" ∷ []
pipe_sample (pipe.Times seen times) = []
pipe_sample (pipe.Time seen times) = one

abbrev pub sample : Expected → Words
sample First = codes "@1" ∷ codes "show" ∷ []
sample (Header word) = header_sample word
sample Verb = codes "show" ∷ []
sample (Rule word) = rule_sample word
sample RuleGone = one
sample (Pipe word) = pipe_sample word
sample (Inject word) = packet_sample word []
sample (Train word) = train_sample word
sample (Flow word) = flow_sample word
sample Stopped = one
sample OnePass = one
sample Trace = one
sample End = []

header_ends : (check : Check) (word : HeaderWord) → accepts check (Header word) (header_sample word) ≡ true
unfolding next number_of name_of
header_ends Forms header.Name = refl
header_ends Forms header.SeedWord = refl
header_ends Forms header.Seed = refl
header_ends Forms header.BudgetWord = refl
header_ends Forms header.Budget = refl
header_ends Forms header.StepsWord = refl
header_ends Forms header.Steps = refl
header_ends Ranges header.Name = refl
header_ends Ranges header.SeedWord = refl
header_ends Ranges header.Seed = refl
header_ends Ranges header.BudgetWord = refl
header_ends Ranges header.Budget = refl
header_ends Ranges header.StepsWord = refl
header_ends Ranges header.Steps = refl

rule_ends : (check : Check) (word : RuleWord) → accepts check (Rule word) (rule_sample word) ≡ true
unfolding next number_of match_of prefix_of prefix_within address_within
rule_ends Forms rule.Number = refl
rule_ends Forms rule.Action = refl
rule_ends Forms rule.SkipTo = refl
rule_ends Forms rule.ToPipe = refl
rule_ends Forms rule.Protocol = refl
rule_ends Forms rule.From = refl
rule_ends Forms rule.Source = refl
rule_ends Forms rule.SourcePorts = refl
rule_ends Forms rule.To = refl
rule_ends Forms rule.Destination = refl
rule_ends Forms rule.LastPorts = refl
rule_ends Ranges rule.Number = refl
rule_ends Ranges rule.Action = refl
rule_ends Ranges rule.SkipTo = refl
rule_ends Ranges rule.ToPipe = refl
rule_ends Ranges rule.Protocol = refl
rule_ends Ranges rule.From = refl
rule_ends Ranges rule.Source = refl
rule_ends Ranges rule.SourcePorts = refl
rule_ends Ranges rule.To = refl
rule_ends Ranges rule.Destination = refl
rule_ends Ranges rule.LastPorts = refl

inject_ends : (check : Check) (word : PacketWord) → accepts check (Inject word) (packet_sample word []) ≡ true
unfolding next number_of protocol_of address_of address_within
inject_ends Forms packet.Protocol = refl
inject_ends Forms (packet.Ends ends.Source) = refl
inject_ends Forms (packet.Ends ends.SourcePort) = refl
inject_ends Forms (packet.Ends ends.Destination) = refl
inject_ends Forms (packet.Ends ends.DestinationPort) = refl
inject_ends Forms packet.Size = refl
inject_ends Ranges packet.Protocol = refl
inject_ends Ranges (packet.Ends ends.Source) = refl
inject_ends Ranges (packet.Ends ends.SourcePort) = refl
inject_ends Ranges (packet.Ends ends.Destination) = refl
inject_ends Ranges (packet.Ends ends.DestinationPort) = refl
inject_ends Ranges packet.Size = refl

train_ends : (check : Check) (word : TrainWord) → accepts check (Train word) (train_sample word) ≡ true
unfolding next number_of protocol_of address_of address_within
train_ends Forms train.Number = refl
train_ends Forms (train.Packet packet.Protocol) = refl
train_ends Forms (train.Packet (packet.Ends ends.Source)) = refl
train_ends Forms (train.Packet (packet.Ends ends.SourcePort)) = refl
train_ends Forms (train.Packet (packet.Ends ends.Destination)) = refl
train_ends Forms (train.Packet (packet.Ends ends.DestinationPort)) = refl
train_ends Forms (train.Packet packet.Size) = refl
train_ends Forms train.CountWord = refl
train_ends Forms train.Count = refl
train_ends Forms train.GapWord = refl
train_ends Forms train.Gap = refl
train_ends Ranges train.Number = refl
train_ends Ranges (train.Packet packet.Protocol) = refl
train_ends Ranges (train.Packet (packet.Ends ends.Source)) = refl
train_ends Ranges (train.Packet (packet.Ends ends.SourcePort)) = refl
train_ends Ranges (train.Packet (packet.Ends ends.Destination)) = refl
train_ends Ranges (train.Packet (packet.Ends ends.DestinationPort)) = refl
train_ends Ranges (train.Packet packet.Size) = refl
train_ends Ranges train.CountWord = refl
train_ends Ranges train.Count = refl
train_ends Ranges train.GapWord = refl
train_ends Ranges train.Gap = refl

flow_ends : (check : Check) (word : FlowWord) → accepts check (Flow word) (flow_sample word) ≡ true
unfolding next number_of address_of address_within timing_of timing_within
flow_ends Forms flow.Number = refl
flow_ends Forms (flow.Ends ends.Source) = refl
flow_ends Forms (flow.Ends ends.SourcePort) = refl
flow_ends Forms (flow.Ends ends.Destination) = refl
flow_ends Forms (flow.Ends ends.DestinationPort) = refl
flow_ends Forms flow.SmssWord = refl
flow_ends Forms flow.Smss = refl
flow_ends Forms flow.SegmentsWord = refl
flow_ends Forms flow.Segments = refl
flow_ends Forms (flow.Setting s) = refl
flow_ends Forms (flow.Ssthresh s) = refl
flow_ends Forms (flow.Window s) = refl
flow_ends Forms (flow.Timing s) = refl
flow_ends Ranges flow.Number = refl
flow_ends Ranges (flow.Ends ends.Source) = refl
flow_ends Ranges (flow.Ends ends.SourcePort) = refl
flow_ends Ranges (flow.Ends ends.Destination) = refl
flow_ends Ranges (flow.Ends ends.DestinationPort) = refl
flow_ends Ranges flow.SmssWord = refl
flow_ends Ranges flow.Smss = refl
flow_ends Ranges flow.SegmentsWord = refl
flow_ends Ranges flow.Segments = refl
flow_ends Ranges (flow.Setting s) = refl
flow_ends Ranges (flow.Ssthresh s) = refl
flow_ends Ranges (flow.Window s) = refl
flow_ends Ranges (flow.Timing s) = refl

pipe_ends : (check : Check) (word : PipeWord) → accepts check (Pipe word) (pipe_sample word) ≡ true
unfolding next number_of number_with_unit rate_of rate_unit delay_of delay_unit queue_of queue_within fraction_of time_of time_unit hex_of hex_digits_of
pipe_ends Forms pipe.What = refl
pipe_ends Forms pipe.Gone = refl
pipe_ends Forms pipe.Config = refl
pipe_ends Forms (pipe.Setting s) = refl
pipe_ends Forms (pipe.Bw s) = refl
pipe_ends Forms (pipe.Delay s) = refl
pipe_ends Forms (pipe.Queue s) = refl
pipe_ends Forms (pipe.Plr s) = refl
pipe_ends Forms (pipe.Mask s) = refl
pipe_ends Forms (pipe.Fields s f) = refl
pipe_ends Forms (pipe.AddressBits s f) = refl
pipe_ends Forms (pipe.PortBits s f) = refl
pipe_ends Forms (pipe.ProtocolBits s f) = refl
pipe_ends Forms (pipe.Times s t) = refl
pipe_ends Forms (pipe.Time s t) = refl
pipe_ends Ranges pipe.What = refl
pipe_ends Ranges pipe.Gone = refl
pipe_ends Ranges pipe.Config = refl
pipe_ends Ranges (pipe.Setting s) = refl
pipe_ends Ranges (pipe.Bw s) = refl
pipe_ends Ranges (pipe.Delay s) = refl
pipe_ends Ranges (pipe.Queue s) = refl
pipe_ends Ranges (pipe.Plr s) = refl
pipe_ends Ranges (pipe.Mask s) = refl
pipe_ends Ranges (pipe.Fields s f) = refl
pipe_ends Ranges (pipe.AddressBits s f) = refl
pipe_ends Ranges (pipe.PortBits s f) = refl
pipe_ends Ranges (pipe.ProtocolBits s f) = refl
pipe_ends Ranges (pipe.Times s t) = refl
pipe_ends Ranges (pipe.Time s t) = refl

number_ends : (check : Check) → (accepts check RuleGone one ≡ true) × (accepts check Stopped one ≡ true) × (accepts check OnePass one ≡ true) × (accepts check Trace one ≡ true)
unfolding next number_of
number_ends Forms = (refl, refl, refl, refl)
number_ends Ranges = (refl, refl, refl, refl)

first_ends : (check : Check) → (accepts check First (codes "@1" ∷ codes "show" ∷ []) ≡ true) × (accepts check Verb (codes "show" ∷ []) ≡ true)
unfolding next moment_of number_of
first_ends Forms = (refl, refl)
first_ends Ranges = (refl, refl)

pub sample_ends : (check : Check) (p : Expected) → accepts check p (sample p) ≡ true
sample_ends check First = (first_ends check).0
sample_ends check (Header word) = header_ends check word
sample_ends check Verb = (first_ends check).1
sample_ends check (Rule word) = rule_ends check word
sample_ends check RuleGone = (number_ends check).0
sample_ends check (Pipe word) = pipe_ends check word
sample_ends check (Inject word) = inject_ends check word
sample_ends check (Train word) = train_ends check word
sample_ends check (Flow word) = flow_ends check word
sample_ends check Stopped = (number_ends check).1
sample_ends check OnePass = (number_ends check).2
sample_ends check Trace = (number_ends check).3
sample_ends check End = refl
