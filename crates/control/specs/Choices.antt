-- The words that are allowed where a line has a choice, and what is expected after each.
use Rattle.std.specs.Prelude.{ℕ, Bool, true, false, List, Option, Some, None, if◌then◌else◌}
use Rattle.std.specs.Option.{is_some}
use Rattle.std.specs.Str.{bytes_eq}
use lib.Chars.{codes}
use Rattle.control_words.specs.Options.{is_time, is_field, bare_of}
use Rattle.control.specs.declared.expected.Expected.{Expected}
use Rattle.control.specs.declared.expected.Expected.TheVariants.{First, Header, Verb, Rule, RuleGone, Pipe, Inject, Train, Flow, Stopped, OnePass, Trace, End}
use Rattle.control.specs.declared.expected.HeaderWord.TheVariants as header
use Rattle.control.specs.declared.expected.RuleWord.TheVariants as rule
use Rattle.control.specs.declared.expected.PacketWord.TheVariants as packet
use Rattle.control.specs.declared.expected.TrainWord.TheVariants as train
use Rattle.control.specs.declared.expected.FlowSeen.{FlowSeen}
use Rattle.control.specs.declared.expected.FlowWord.TheVariants as flow
use Rattle.control.specs.declared.expected.PipeSeen.{PipeSeen}
use Rattle.control.specs.declared.expected.FieldsSeen.{FieldsSeen}
use Rattle.control.specs.declared.expected.TimesSeen.{TimesSeen}
use Rattle.control.specs.Values.{no_flow, no_pipe}
use Rattle.control.specs.declared.expected.PipeWord.{PipeWord}
use Rattle.control.specs.declared.expected.PipeWord.TheVariants as pipe

-- each option is allowed at most once
abbrev pub unless : Bool → Expected → Option Expected
unless seen next = if seen then None else Some next

abbrev pub verb_chosen : List ℕ → Option Expected
verb_chosen word = if bytes_eq word (codes "add") then Some (Rule rule.Number)
    else if bytes_eq word (codes "delete") then Some RuleGone
    else if bytes_eq word (codes "pipe") then Some (Pipe pipe.What)
    else if bytes_eq word (codes "show") then Some End
    else if bytes_eq word (codes "one_pass") then Some OnePass
    else if bytes_eq word (codes "trace") then Some Trace
    else if bytes_eq word (codes "end") then Some End
    else if bytes_eq word (codes "inject") then Some (Inject packet.Protocol)
    else if bytes_eq word (codes "train") then Some (Train train.Number)
    else if bytes_eq word (codes "flow") then Some (Flow flow.Number)
    else if bytes_eq word (codes "stop") then Some Stopped
    else None

abbrev pub action_chosen : List ℕ → Option Expected
action_chosen word = if bytes_eq word (codes "allow") then Some (Rule rule.Protocol)
    else if bytes_eq word (codes "deny") then Some (Rule rule.Protocol)
    else if bytes_eq word (codes "count") then Some (Rule rule.Protocol)
    else if bytes_eq word (codes "skipto") then Some (Rule rule.SkipTo)
    else if bytes_eq word (codes "pipe") then Some (Rule rule.ToPipe)
    else None

-- ---- pipes
abbrev pub pipe_chosen : List ℕ → Option Expected
pipe_chosen word = if bytes_eq word (codes "show") then Some End
    else if bytes_eq word (codes "delete") then Some (Pipe pipe.Gone)
    else None

abbrev pub no_fields_seen : FieldsSeen
no_fields_seen = record { src_ip = false; dst_ip = false; src_port = false; dst_port = false; proto = false }

abbrev pub no_times_seen : TimesSeen
no_times_seen = record { target = false; interval = false }

abbrev pub setting_chosen : PipeSeen → List ℕ → Option Expected
setting_chosen s word = if bytes_eq word (codes "bw") then unless s.bw (Pipe (pipe.Bw (record s { bw = true })))
    else if bytes_eq word (codes "delay") then unless s.delay (Pipe (pipe.Delay (record s { delay = true })))
    else if bytes_eq word (codes "queue") then unless s.queue (Pipe (pipe.Queue (record s { queue = true })))
    else if bytes_eq word (codes "plr") then unless s.plr (Pipe (pipe.Plr (record s { plr = true })))
    else if bytes_eq word (codes "mask") then unless s.mask (Pipe (pipe.Mask (record s { mask = true })))
    else if bytes_eq word (codes "codel") then unless s.discipline (Pipe (pipe.Times (record s { discipline = true }) no_times_seen))
    else if is_some (bare_of word) then unless s.discipline (Pipe (pipe.Setting (record s { discipline = true })))
    else None

abbrev pub field_chosen : PipeSeen → FieldsSeen → List ℕ → Option Expected
field_chosen s f word = if bytes_eq word (codes "src-ip") then unless f.src_ip (Pipe (pipe.AddressBits s (record f { src_ip = true })))
    else if bytes_eq word (codes "dst-ip") then unless f.dst_ip (Pipe (pipe.AddressBits s (record f { dst_ip = true })))
    else if bytes_eq word (codes "src-port") then unless f.src_port (Pipe (pipe.PortBits s (record f { src_port = true })))
    else if bytes_eq word (codes "dst-port") then unless f.dst_port (Pipe (pipe.PortBits s (record f { dst_port = true })))
    else if bytes_eq word (codes "proto") then unless f.proto (Pipe (pipe.ProtocolBits s (record f { proto = true })))
    else None

abbrev pub mask_chosen : PipeSeen → List ℕ → Option Expected
mask_chosen s word = if bytes_eq word (codes "all") then Some (Pipe (pipe.Setting s)) else field_chosen s no_fields_seen word

abbrev pub time_chosen : PipeSeen → TimesSeen → List ℕ → Option Expected
time_chosen s t word = if bytes_eq word (codes "target") then unless t.target (Pipe (pipe.Time s (record t { target = true })))
    else if bytes_eq word (codes "interval") then unless t.interval (Pipe (pipe.Time s (record t { interval = true })))
    else None

abbrev pub pipe_word_chosen : PipeWord → List ℕ → Option Expected
pipe_word_chosen pipe.What word = pipe_chosen word
pipe_word_chosen (pipe.Setting s) word = setting_chosen s word
pipe_word_chosen (pipe.Mask s) word = mask_chosen s word
pipe_word_chosen (pipe.Fields s f) word = if is_field word then field_chosen s f word else setting_chosen s word
pipe_word_chosen (pipe.Times s t) word = if is_time word then time_chosen s t word else setting_chosen s word
pipe_word_chosen _ word = None

-- ---- flows
abbrev pub flow_setting_chosen : FlowSeen → List ℕ → Option Expected
flow_setting_chosen s word = if bytes_eq word (codes "ssthresh") then unless s.ssthresh (Flow (flow.Ssthresh (record s { ssthresh = true })))
    else if bytes_eq word (codes "window") then unless s.window (Flow (flow.Window (record s { window = true })))
    else if bytes_eq word (codes "rto") then unless s.timing (Flow (flow.Timing (record s { timing = true })))
    else None

-- ---- lines
abbrev pub chosen : Expected → List ℕ → Option Expected
chosen First word = if bytes_eq word (codes "experiment") then Some (Header header.Name) else None
chosen Verb word = verb_chosen word
chosen (Rule rule.Action) word = action_chosen word
chosen (Rule rule.SourcePorts) word = if bytes_eq word (codes "to") then Some (Rule rule.Destination) else None
chosen (Pipe place) word = pipe_word_chosen place word
chosen (Flow (flow.Setting s)) word = flow_setting_chosen s word
chosen _ word = None

-- the same place, as if no option had been given before it
abbrev pub afresh : Expected → Expected
afresh (Pipe (pipe.Setting s)) = Pipe (pipe.Setting no_pipe)
afresh (Pipe (pipe.Fields s f)) = Pipe (pipe.Fields no_pipe no_fields_seen)
afresh (Pipe (pipe.Times s t)) = Pipe (pipe.Times no_pipe no_times_seen)
afresh (Flow (flow.Setting s)) = Flow (flow.Setting no_flow)
afresh other = other
