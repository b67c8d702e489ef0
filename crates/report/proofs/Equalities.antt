-- Equality of commands and of records, as the program tests it.
use Rattle.std.proofs.Common.{◌≡◌, Bool, Option, Some, None, rules, ap, refl}
use Rattle.std.specs.Bool.{Decides}
use Rattle.std.specs.Option.{option_eq}
use Rattle.std.proofs.lemmas.Bool.Decides.{Decides-and, Decides-like, Decides-eqb}
use Rattle.emu_model.specs.declared.rules.Action.{Action}
use Rattle.emu_model.specs.declared.rules.Action.TheVariants as actions
use Rattle.emu_model.specs.contracts.rules.ActionPartialEq.TheImpl as action_eq
use Rattle.emu_model.specs.declared.rules.ProtocolMatch.{ProtocolMatch}
use Rattle.emu_model.specs.declared.rules.ProtocolMatch.TheVariants as proto_matchs
use Rattle.emu_model.specs.contracts.rules.ProtocolMatchPartialEq.TheImpl as proto_match_eq
use Rattle.emu_model.specs.declared.rules.Prefix.{Prefix}
use Rattle.emu_model.specs.contracts.rules.PrefixPartialEq.TheImpl as prefix_eq
use Rattle.emu_model.specs.declared.rules.PortRange.{PortRange}
use Rattle.emu_model.specs.contracts.rules.PortRangePartialEq.TheImpl as ports_eq
use Rattle.emu_model.specs.declared.rules.Rule.{Rule}
use Rattle.emu_model.specs.contracts.rules.RulePartialEq.TheImpl as rule_eq
use Rattle.emu_model.specs.declared.pipes.QueueLimit.{QueueLimit}
use Rattle.emu_model.specs.declared.pipes.QueueLimit.TheVariants as queues
use Rattle.emu_model.specs.contracts.pipes.QueueLimitPartialEq.TheImpl as queue_eq
use Rattle.emu_model.specs.declared.pipes.Discipline.{Discipline}
use Rattle.emu_model.specs.declared.pipes.Discipline.TheVariants as disciplines
use Rattle.emu_model.specs.contracts.pipes.DisciplinePartialEq.TheImpl as discipline_eq
use Rattle.emu_model.specs.declared.pipes.Mask.{Mask}
use Rattle.emu_model.specs.contracts.pipes.MaskPartialEq.TheImpl as mask_eq
use Rattle.emu_model.specs.declared.pipes.PipeConfig.{PipeConfig}
use Rattle.emu_model.specs.contracts.pipes.PipeConfigPartialEq.TheImpl as config_eq
use Rattle.emu_model.specs.declared.packets.Protocol.{Protocol}
use Rattle.emu_model.specs.declared.packets.Protocol.TheVariants as protos
use Rattle.emu_model.specs.contracts.packets.ProtocolPartialEq.TheImpl as proto_eq
use Rattle.emu_model.specs.declared.packets.Load.{Load}
use Rattle.emu_model.specs.declared.packets.Load.TheVariants as loads
use Rattle.emu_model.specs.contracts.packets.LoadPartialEq.TheImpl as load_eq
use Rattle.emu_model.specs.declared.packets.Origin.{Origin}
use Rattle.emu_model.specs.declared.packets.Origin.TheVariants as origins
use Rattle.emu_model.specs.contracts.packets.OriginPartialEq.TheImpl as origin_eq
use Rattle.emu_model.specs.declared.sources.SendSpec.{SendSpec}
use Rattle.emu_model.specs.contracts.sources.SendSpecPartialEq.TheImpl as send_eq
use Rattle.emu_model.specs.declared.sources.TrainSpec.{TrainSpec}
use Rattle.emu_model.specs.contracts.sources.TrainSpecPartialEq.TheImpl as train_eq
use Rattle.emu_model.specs.declared.sources.Timing.{Timing}
use Rattle.emu_model.specs.declared.sources.Timing.TheVariants as timings
use Rattle.emu_model.specs.contracts.sources.TimingPartialEq.TheImpl as timing_eq
use Rattle.emu_model.specs.declared.sources.FlowSpec.{FlowSpec}
use Rattle.emu_model.specs.contracts.sources.FlowSpecPartialEq.TheImpl as flow_eq
use Rattle.emu_model.specs.declared.commands.Command.{Command}
use Rattle.emu_model.specs.declared.commands.Command.TheVariants as commands
use Rattle.emu_model.specs.contracts.commands.CommandPartialEq.TheImpl as command_eq
use Rattle.emu_model.specs.declared.commands.Timed.{Timed}
use Rattle.emu_model.specs.contracts.commands.TimedPartialEq.TheImpl as timed_eq
use Rattle.emu_model.specs.declared.records.DropCause.{DropCause}
use Rattle.emu_model.specs.declared.records.DropCause.TheVariants as causes
use Rattle.emu_model.specs.contracts.records.DropCausePartialEq.TheImpl as cause_eq
use Rattle.emu_model.specs.declared.records.Refusal.{Refusal}
use Rattle.emu_model.specs.declared.records.Refusal.TheVariants as refusals
use Rattle.emu_model.specs.contracts.records.RefusalPartialEq.TheImpl as refusal_eq
use Rattle.emu_model.specs.declared.records.Record.{Record}
use Rattle.emu_model.specs.declared.records.Record.TheVariants as newss
use Rattle.emu_model.specs.contracts.records.RecordPartialEq.TheImpl as news_eq

pub action_decides : (a b : Action) → Decides ((action_eq.eq-value).it a b) (a ≡ b)
action_decides actions.Allow actions.Allow = search (rules)
action_decides actions.Allow _ = (λ e. cc, λ e. cc)
action_decides actions.Deny actions.Deny = search (rules)
action_decides actions.Deny _ = (λ e. cc, λ e. cc)
action_decides actions.Count actions.Count = search (rules)
action_decides actions.Count _ = (λ e. cc, λ e. cc)
action_decides (actions.SkipTo x0) (actions.SkipTo y0) = search (rules)
action_decides (actions.SkipTo x0) _ = (λ e. cc, λ e. cc)
action_decides (actions.Pipe x0) (actions.Pipe y0) = search (rules)
action_decides (actions.Pipe x0) _ = (λ e. cc, λ e. cc)

pub proto_match_decides : (a b : ProtocolMatch) → Decides ((proto_match_eq.eq-value).it a b) (a ≡ b)
proto_match_decides proto_matchs.AnyProtocol proto_matchs.AnyProtocol = search (rules)
proto_match_decides proto_matchs.AnyProtocol _ = (λ e. cc, λ e. cc)
proto_match_decides proto_matchs.OnlyTcp proto_matchs.OnlyTcp = search (rules)
proto_match_decides proto_matchs.OnlyTcp _ = (λ e. cc, λ e. cc)
proto_match_decides proto_matchs.OnlyUdp proto_matchs.OnlyUdp = search (rules)
proto_match_decides proto_matchs.OnlyUdp _ = (λ e. cc, λ e. cc)

pub prefix_decides : (a b : Prefix) → Decides ((prefix_eq.eq-value).it a b) (a ≡ b)
prefix_decides a b = search (rules)

pub ports_decides : (a b : PortRange) → Decides ((ports_eq.eq-value).it a b) (a ≡ b)
ports_decides a b = search (rules)

-- the same of options
option_decides : {A : Type 0} (eq : A → A → Bool) → ((a b : A) → Decides (eq a b) (a ≡ b)) → (a b : Option A) → Decides (option_eq eq a b) (a ≡ b)
option_decides eq each None None = (λ e. refl, λ e. refl)
option_decides eq each None (Some b) = (λ e. cc, λ e. cc)
option_decides eq each (Some a) None = (λ e. cc, λ e. cc)
option_decides eq each (Some a) (Some b) = let d = each a b in (λ e. ap (λ x. Some x) (d.0 e), λ e. d.1 (cc))

pub rule_decides : (a b : Rule) → Decides ((rule_eq.eq-value).it a b) (a ≡ b)
rule_decides a b =
    let some_ports = option_decides (ports_eq.eq-value).it ports_decides in
    Decides-like _ (λ h i. record { number = h.0 i; action = h.1.0 i; proto = h.1.1.0 i; src = h.1.1.1.0 i; sports = h.1.1.1.1.0 i; dst = h.1.1.1.1.1.0 i; dports = h.1.1.1.1.1.1 i }) (λ e. (cc, (cc, (cc, (cc, (cc, (cc, cc)))))))
    (Decides-and _ _ (Decides-eqb a.number b.number) (Decides-and _ _ (action_decides a.action b.action) (Decides-and _ _ (proto_match_decides a.proto b.proto) (Decides-and _ _ (prefix_decides a.src b.src) (Decides-and _ _ (some_ports a.sports b.sports) (Decides-and _ _ (prefix_decides a.dst b.dst) (some_ports a.dports b.dports)))))))

pub queue_decides : (a b : QueueLimit) → Decides ((queue_eq.eq-value).it a b) (a ≡ b)
queue_decides (queues.Slots x0) (queues.Slots y0) = search (rules)
queue_decides (queues.Slots x0) _ = (λ e. cc, λ e. cc)
queue_decides (queues.KBytes x0) (queues.KBytes y0) = search (rules)
queue_decides (queues.KBytes x0) _ = (λ e. cc, λ e. cc)

pub discipline_decides : (a b : Discipline) → Decides ((discipline_eq.eq-value).it a b) (a ≡ b)
discipline_decides disciplines.TailDrop disciplines.TailDrop = search (rules)
discipline_decides disciplines.TailDrop _ = (λ e. cc, λ e. cc)
discipline_decides (disciplines.ControlledDelay x0 x1) (disciplines.ControlledDelay y0 y1) = search (rules)
discipline_decides (disciplines.ControlledDelay x0 x1) _ = (λ e. cc, λ e. cc)

pub mask_decides : (a b : Mask) → Decides ((mask_eq.eq-value).it a b) (a ≡ b)
mask_decides a b = search (rules)

pub config_decides : (a b : PipeConfig) → Decides ((config_eq.eq-value).it a b) (a ≡ b)
config_decides a b =
    Decides-like _ (λ h i. record { bw = h.0 i; delay = h.1.0 i; queue = h.1.1.0 i; plr = h.1.1.1.0 i; mask = h.1.1.1.1.0 i; discipline = h.1.1.1.1.1 i }) (λ e. (cc, (cc, (cc, (cc, (cc, cc))))))
    (Decides-and _ _ (Decides-eqb a.bw b.bw) (Decides-and _ _ (Decides-eqb a.delay b.delay) (Decides-and _ _ (queue_decides a.queue b.queue) (Decides-and _ _ (Decides-eqb a.plr b.plr) (Decides-and _ _ (mask_decides a.mask b.mask) (discipline_decides a.discipline b.discipline))))))

pub proto_decides : (a b : Protocol) → Decides ((proto_eq.eq-value).it a b) (a ≡ b)
proto_decides protos.Tcp protos.Tcp = search (rules)
proto_decides protos.Tcp _ = (λ e. cc, λ e. cc)
proto_decides protos.Udp protos.Udp = search (rules)
proto_decides protos.Udp _ = (λ e. cc, λ e. cc)

pub load_decides : (a b : Load) → Decides ((load_eq.eq-value).it a b) (a ≡ b)
load_decides loads.Plain loads.Plain = search (rules)
load_decides loads.Plain _ = (λ e. cc, λ e. cc)
load_decides (loads.Seg x0 x1) (loads.Seg y0 y1) = search (rules)
load_decides (loads.Seg x0 x1) _ = (λ e. cc, λ e. cc)
load_decides (loads.Ack x0 x1) (loads.Ack y0 y1) = search (rules)
load_decides (loads.Ack x0 x1) _ = (λ e. cc, λ e. cc)

pub origin_decides : (a b : Origin) → Decides ((origin_eq.eq-value).it a b) (a ≡ b)
origin_decides (origins.ByCommand x0) (origins.ByCommand y0) = search (rules)
origin_decides (origins.ByCommand x0) _ = (λ e. cc, λ e. cc)
origin_decides (origins.ByTrain x0) (origins.ByTrain y0) = search (rules)
origin_decides (origins.ByTrain x0) _ = (λ e. cc, λ e. cc)
origin_decides (origins.BySender x0 x1) (origins.BySender y0 y1) = search (rules)
origin_decides (origins.BySender x0 x1) _ = (λ e. cc, λ e. cc)
origin_decides (origins.ByReceiver x0 x1) (origins.ByReceiver y0 y1) = search (rules)
origin_decides (origins.ByReceiver x0 x1) _ = (λ e. cc, λ e. cc)

pub send_decides : (a b : SendSpec) → Decides ((send_eq.eq-value).it a b) (a ≡ b)
send_decides a b = search (rules, proto_decides)

pub train_decides : (a b : TrainSpec) → Decides ((train_eq.eq-value).it a b) (a ≡ b)
train_decides a b = search (rules, send_decides)

pub timing_decides : (a b : Timing) → Decides ((timing_eq.eq-value).it a b) (a ≡ b)
timing_decides (timings.Fixed x0) (timings.Fixed y0) = search (rules)
timing_decides (timings.Fixed x0) _ = (λ e. cc, λ e. cc)
timing_decides timings.Adaptive timings.Adaptive = search (rules)
timing_decides timings.Adaptive _ = (λ e. cc, λ e. cc)

pub flow_decides : (a b : FlowSpec) → Decides ((flow_eq.eq-value).it a b) (a ≡ b)
flow_decides a b = search (rules, timing_decides)

pub command_decides : (a b : Command) → Decides ((command_eq.eq-value).it a b) (a ≡ b)
command_decides (commands.Add x0) (commands.Add y0) = search (rules, rule_decides, config_decides, send_decides, train_decides, flow_decides)
command_decides (commands.Add x0) _ = (λ e. cc, λ e. cc)
command_decides (commands.Delete x0) (commands.Delete y0) = search (rules, rule_decides, config_decides, send_decides, train_decides, flow_decides)
command_decides (commands.Delete x0) _ = (λ e. cc, λ e. cc)
command_decides (commands.Config x0 x1) (commands.Config y0 y1) = search (rules, rule_decides, config_decides, send_decides, train_decides, flow_decides)
command_decides (commands.Config x0 x1) _ = (λ e. cc, λ e. cc)
command_decides (commands.PipeDelete x0) (commands.PipeDelete y0) = search (rules, rule_decides, config_decides, send_decides, train_decides, flow_decides)
command_decides (commands.PipeDelete x0) _ = (λ e. cc, λ e. cc)
command_decides commands.PipeShow commands.PipeShow = search (rules, rule_decides, config_decides, send_decides, train_decides, flow_decides)
command_decides commands.PipeShow _ = (λ e. cc, λ e. cc)
command_decides commands.Show commands.Show = search (rules, rule_decides, config_decides, send_decides, train_decides, flow_decides)
command_decides commands.Show _ = (λ e. cc, λ e. cc)
command_decides (commands.Inject x0) (commands.Inject y0) = search (rules, rule_decides, config_decides, send_decides, train_decides, flow_decides)
command_decides (commands.Inject x0) _ = (λ e. cc, λ e. cc)
command_decides (commands.Train x0 x1) (commands.Train y0 y1) = search (rules, rule_decides, config_decides, send_decides, train_decides, flow_decides)
command_decides (commands.Train x0 x1) _ = (λ e. cc, λ e. cc)
command_decides (commands.Flow x0 x1) (commands.Flow y0 y1) = search (rules, rule_decides, config_decides, send_decides, train_decides, flow_decides)
command_decides (commands.Flow x0 x1) _ = (λ e. cc, λ e. cc)
command_decides (commands.Stop x0) (commands.Stop y0) = search (rules, rule_decides, config_decides, send_decides, train_decides, flow_decides)
command_decides (commands.Stop x0) _ = (λ e. cc, λ e. cc)
command_decides (commands.OnePass x0) (commands.OnePass y0) = search (rules, rule_decides, config_decides, send_decides, train_decides, flow_decides)
command_decides (commands.OnePass x0) _ = (λ e. cc, λ e. cc)
command_decides (commands.Trace x0) (commands.Trace y0) = search (rules, rule_decides, config_decides, send_decides, train_decides, flow_decides)
command_decides (commands.Trace x0) _ = (λ e. cc, λ e. cc)
command_decides commands.End commands.End = search (rules, rule_decides, config_decides, send_decides, train_decides, flow_decides)
command_decides commands.End _ = (λ e. cc, λ e. cc)

pub timed_decides : (a b : Timed) → Decides ((timed_eq.eq-value).it a b) (a ≡ b)
timed_decides a b = search (rules, command_decides)

pub cause_decides : (a b : DropCause) → Decides ((cause_eq.eq-value).it a b) (a ≡ b)
cause_decides causes.Denied causes.Denied = search (rules)
cause_decides causes.Denied _ = (λ e. cc, λ e. cc)
cause_decides causes.NoPipe causes.NoPipe = search (rules)
cause_decides causes.NoPipe _ = (λ e. cc, λ e. cc)
cause_decides causes.NoInstance causes.NoInstance = search (rules)
cause_decides causes.NoInstance _ = (λ e. cc, λ e. cc)
cause_decides causes.Lost causes.Lost = search (rules)
cause_decides causes.Lost _ = (λ e. cc, λ e. cc)
cause_decides causes.Full causes.Full = search (rules)
cause_decides causes.Full _ = (λ e. cc, λ e. cc)
cause_decides causes.Codel causes.Codel = search (rules)
cause_decides causes.Codel _ = (λ e. cc, λ e. cc)
cause_decides causes.Deleted causes.Deleted = search (rules)
cause_decides causes.Deleted _ = (λ e. cc, λ e. cc)
cause_decides causes.Budget causes.Budget = search (rules)
cause_decides causes.Budget _ = (λ e. cc, λ e. cc)

pub refusal_decides : (a b : Refusal) → Decides ((refusal_eq.eq-value).it a b) (a ≡ b)
refusal_decides refusals.BadNumber refusals.BadNumber = search (rules)
refusal_decides refusals.BadNumber _ = (λ e. cc, λ e. cc)
refusal_decides refusals.BadSkip refusals.BadSkip = search (rules)
refusal_decides refusals.BadSkip _ = (λ e. cc, λ e. cc)
refusal_decides refusals.RulesFull refusals.RulesFull = search (rules)
refusal_decides refusals.RulesFull _ = (λ e. cc, λ e. cc)
refusal_decides refusals.NoRule refusals.NoRule = search (rules)
refusal_decides refusals.NoRule _ = (λ e. cc, λ e. cc)
refusal_decides refusals.NoSuchPipe refusals.NoSuchPipe = search (rules)
refusal_decides refusals.NoSuchPipe _ = (λ e. cc, λ e. cc)
refusal_decides refusals.MaskFixed refusals.MaskFixed = search (rules)
refusal_decides refusals.MaskFixed _ = (λ e. cc, λ e. cc)
refusal_decides refusals.FlowThere refusals.FlowThere = search (rules)
refusal_decides refusals.FlowThere _ = (λ e. cc, λ e. cc)
refusal_decides refusals.NoFlow refusals.NoFlow = search (rules)
refusal_decides refusals.NoFlow _ = (λ e. cc, λ e. cc)
refusal_decides refusals.TooManyPipes refusals.TooManyPipes = search (rules)
refusal_decides refusals.TooManyPipes _ = (λ e. cc, λ e. cc)
refusal_decides refusals.TooManyFlows refusals.TooManyFlows = search (rules)
refusal_decides refusals.TooManyFlows _ = (λ e. cc, λ e. cc)

pub news_decides : (a b : Record) → Decides ((news_eq.eq-value).it a b) (a ≡ b)
news_decides (newss.CommandDone x0 x1) (newss.CommandDone y0 y1) = search (rules, refusal_decides, load_decides, cause_decides, rule_decides, config_decides)
news_decides (newss.CommandDone x0 x1) _ = (λ e. cc, λ e. cc)
news_decides (newss.CommandRefused x0 x1 x2) (newss.CommandRefused y0 y1 y2) = search (rules, refusal_decides, load_decides, cause_decides, rule_decides, config_decides)
news_decides (newss.CommandRefused x0 x1 x2) _ = (λ e. cc, λ e. cc)
news_decides (newss.PacketMade x0 x1 x2 x3 x4 x5 x6 x7 x8) (newss.PacketMade y0 y1 y2 y3 y4 y5 y6 y7 y8) =
    Decides-like _ (λ h. cc) (λ e. (cc, (cc, (cc, (cc, (cc, (cc, (cc, (cc, cc)))))))))
    (Decides-and _ _ (Decides-eqb x0 y0) (Decides-and _ _ (Decides-eqb x1 y1) (Decides-and _ _ (origin_decides x2 y2)
    (Decides-and _ _ (proto_decides x3 y3) (Decides-and _ _ (Decides-eqb x4 y4) (Decides-and _ _ (Decides-eqb x5 y5)
    (Decides-and _ _ (Decides-eqb x6 y6) (Decides-and _ _ (Decides-eqb x7 y7) (Decides-eqb x8 y8)))))))))
news_decides (newss.PacketMade x0 x1 x2 x3 x4 x5 x6 x7 x8) _ = (λ e. cc, λ e. cc)
news_decides (newss.PacketArrived x0 x1 x2 x3) (newss.PacketArrived y0 y1 y2 y3) = search (rules, refusal_decides, load_decides, cause_decides, rule_decides, config_decides)
news_decides (newss.PacketArrived x0 x1 x2 x3) _ = (λ e. cc, λ e. cc)
news_decides (newss.InstanceIdentified x0 x1 x2 x3 x4 x5 x6 x7) (newss.InstanceIdentified y0 y1 y2 y3 y4 y5 y6 y7) = search (rules, refusal_decides, load_decides, cause_decides, rule_decides, config_decides)
news_decides (newss.InstanceIdentified x0 x1 x2 x3 x4 x5 x6 x7) _ = (λ e. cc, λ e. cc)
news_decides (newss.PacketFinished x0 x1 x2 x3) (newss.PacketFinished y0 y1 y2 y3) = search (rules, refusal_decides, load_decides, cause_decides, rule_decides, config_decides)
news_decides (newss.PacketFinished x0 x1 x2 x3) _ = (λ e. cc, λ e. cc)
news_decides (newss.PacketDelivered x0 x1 x2) (newss.PacketDelivered y0 y1 y2) = search (rules, refusal_decides, load_decides, cause_decides, rule_decides, config_decides)
news_decides (newss.PacketDelivered x0 x1 x2) _ = (λ e. cc, λ e. cc)
news_decides (newss.PacketPassed x0 x1 x2 x3) (newss.PacketPassed y0 y1 y2 y3) = search (rules, refusal_decides, load_decides, cause_decides, rule_decides, config_decides)
news_decides (newss.PacketPassed x0 x1 x2 x3) _ = (λ e. cc, λ e. cc)
news_decides (newss.PacketDropped x0 x1 x2 x3) (newss.PacketDropped y0 y1 y2 y3) =
    Decides-like _ (λ h. cc) (λ e. (cc, (cc, (cc, cc))))
    (Decides-and _ _ (Decides-eqb x0 y0) (Decides-and _ _ (Decides-eqb x1 y1) (Decides-and _ _ (load_decides x2 y2) (cause_decides x3 y3))))
news_decides (newss.PacketDropped x0 x1 x2 x3) _ = (λ e. cc, λ e. cc)
news_decides (newss.AckTaken x0 x1 x2 x3) (newss.AckTaken y0 y1 y2 y3) = search (rules, refusal_decides, load_decides, cause_decides, rule_decides, config_decides)
news_decides (newss.AckTaken x0 x1 x2 x3) _ = (λ e. cc, λ e. cc)
news_decides (newss.TimerExpired x0 x1 x2 x3) (newss.TimerExpired y0 y1 y2 y3) = search (rules, refusal_decides, load_decides, cause_decides, rule_decides, config_decides)
news_decides (newss.TimerExpired x0 x1 x2 x3) _ = (λ e. cc, λ e. cc)
news_decides (newss.StepsSpent x0) (newss.StepsSpent y0) = search (rules, refusal_decides, load_decides, cause_decides, rule_decides, config_decides)
news_decides (newss.StepsSpent x0) _ = (λ e. cc, λ e. cc)
news_decides (newss.RuleLine x0 x1 x2) (newss.RuleLine y0 y1 y2) =
    Decides-like _ (λ h. cc) (λ e. (cc, (cc, cc)))
    (Decides-and _ _ (rule_decides x0 y0) (Decides-and _ _ (Decides-eqb x1 y1) (Decides-eqb x2 y2)))
news_decides (newss.RuleLine x0 x1 x2) _ = (λ e. cc, λ e. cc)
news_decides (newss.PipeLine x0 x1) (newss.PipeLine y0 y1) = search (rules, refusal_decides, load_decides, cause_decides, rule_decides, config_decides)
news_decides (newss.PipeLine x0 x1) _ = (λ e. cc, λ e. cc)
news_decides (newss.InstanceLine x0 x1 x2 x3 x4 x5 x6) (newss.InstanceLine y0 y1 y2 y3 y4 y5 y6) = search (rules, refusal_decides, load_decides, cause_decides, rule_decides, config_decides)
news_decides (newss.InstanceLine x0 x1 x2 x3 x4 x5 x6) _ = (λ e. cc, λ e. cc)
