-- The types of `emu_model` and their variants, passed on from one place. Declares nothing.
pub use Rattle.emu_model.specs.Spans.{AddressSpan, PortSpan, address_span}
pub use Rattle.emu_model.specs.declared.packets.Protocol.{Protocol}
pub use Rattle.emu_model.specs.declared.packets.Protocol.TheVariants.{Tcp, Udp}
pub use Rattle.emu_model.specs.declared.packets.Load.{Load}
pub use Rattle.emu_model.specs.declared.packets.Load.TheVariants.{Plain, Seg, Ack}
pub use Rattle.emu_model.specs.declared.packets.Origin.{Origin}
pub use Rattle.emu_model.specs.declared.packets.Origin.TheVariants.{ByCommand, ByTrain, BySender, ByReceiver}
pub use Rattle.emu_model.specs.declared.packets.Place.{Place}
pub use Rattle.emu_model.specs.declared.packets.Packet.{Packet}
pub use Rattle.emu_model.specs.declared.rules.Action.{Action}
pub use Rattle.emu_model.specs.declared.rules.Action.TheVariants.{Allow, Deny, Count, SkipTo, Pipe}
pub use Rattle.emu_model.specs.declared.rules.ProtocolMatch.{ProtocolMatch}
pub use Rattle.emu_model.specs.declared.rules.ProtocolMatch.TheVariants.{AnyProtocol, OnlyTcp, OnlyUdp}
pub use Rattle.emu_model.specs.declared.rules.Rule.{Rule}
pub use Rattle.emu_model.specs.declared.rules.Verdict.{Verdict}
pub use Rattle.emu_model.specs.declared.rules.Verdict.TheVariants.{OverTheLink, Dropped, IntoPipe}
pub use Rattle.emu_model.specs.declared.pipes.QueueLimit.{QueueLimit}
pub use Rattle.emu_model.specs.declared.pipes.QueueLimit.TheVariants.{Slots, KBytes}
pub use Rattle.emu_model.specs.declared.pipes.Discipline.{Discipline}
pub use Rattle.emu_model.specs.declared.pipes.Discipline.TheVariants.{TailDrop, ControlledDelay}
pub use Rattle.emu_model.specs.declared.pipes.Mask.{Mask}
pub use Rattle.emu_model.specs.declared.pipes.PipeConfig.{PipeConfig}
pub use Rattle.emu_model.specs.declared.sources.SendSpec.{SendSpec}
pub use Rattle.emu_model.specs.declared.sources.TrainSpec.{TrainSpec}
pub use Rattle.emu_model.specs.declared.sources.Timing.{Timing}
pub use Rattle.emu_model.specs.declared.sources.Timing.TheVariants.{Fixed, Adaptive}
pub use Rattle.emu_model.specs.declared.sources.FlowSpec.{FlowSpec}
pub use Rattle.emu_model.specs.declared.sources.Class.{Class}
pub use Rattle.emu_model.specs.declared.sources.Class.TheVariants.{NextCommand, Exit, Finish, Expiry, Emission}
pub use Rattle.emu_model.specs.declared.sources.Source.{Source}
pub use Rattle.emu_model.specs.declared.sources.Due.{Due}
pub use Rattle.emu_model.specs.declared.commands.Spec.{Spec}
pub use Rattle.emu_model.specs.declared.commands.Command.{Command}
pub use Rattle.emu_model.specs.declared.commands.Command.TheVariants.{Add, Delete, Config, PipeDelete, PipeShow, Show, Inject, Train, Flow, Stop, OnePass, Trace, End}
pub use Rattle.emu_model.specs.declared.commands.Timed.{Timed}
pub use Rattle.emu_model.specs.declared.records.DropCause.{DropCause}
pub use Rattle.emu_model.specs.declared.records.DropCause.TheVariants.{Denied, NoPipe, NoInstance, Lost, Full, Codel, Deleted, Budget}
pub use Rattle.emu_model.specs.declared.records.Refusal.{Refusal}
pub use Rattle.emu_model.specs.declared.records.Refusal.TheVariants.{BadNumber, BadSkip, RulesFull, NoRule, NoSuchPipe, MaskFixed, FlowThere, NoFlow, TooManyPipes, TooManyFlows}
pub use Rattle.emu_model.specs.declared.records.Record.{Record}
pub use Rattle.emu_model.specs.declared.records.Record.TheVariants.{CommandDone, CommandRefused, PacketMade, PacketArrived, InstanceIdentified, PacketFinished, PacketDelivered, PacketPassed, PacketDropped, AckTaken, TimerExpired, StepsSpent, RuleLine, PipeLine, InstanceLine}
pub use Rattle.emu_model.specs.declared.records.Counters.{Counters}
pub use Rattle.emu_model.specs.declared.records.Ending.{Ending}
pub use Rattle.emu_model.specs.declared.records.Ending.TheVariants.{Ended, Spent, Halted}
pub use Rattle.emu_model.specs.declared.commands.EventContext.{EventContext}
