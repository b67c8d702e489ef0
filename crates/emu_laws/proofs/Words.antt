-- The words of the definitions, passed on to the theorems.
pub use Rattle.std.specs.Prelude.{◌≡◌, refl, ℕ, ◌+◌, ◌*◌, List, [], ◌∷◌, ◌++◌, Some, None, true, false}
pub use Rattle.emu_model.specs.Spans.{address_span}
pub use Rattle.emu_model.specs.declared.packets.Load.TheVariants.{Plain, Seg, Ack}
pub use Rattle.emu_model.specs.declared.packets.Origin.TheVariants.{ByCommand, ByTrain, BySender, ByReceiver}
pub use Rattle.emu_model.specs.declared.packets.Protocol.TheVariants.{Tcp, Udp}
pub use Rattle.emu_model.specs.declared.rules.Action.TheVariants.{Allow, Deny, Count, SkipTo, Pipe}
pub use Rattle.emu_model.specs.declared.rules.ProtocolMatch.TheVariants.{AnyProtocol, OnlyTcp, OnlyUdp}
pub use Rattle.emu_model.specs.declared.pipes.QueueLimit.TheVariants.{Slots, KBytes}
pub use Rattle.emu_model.specs.declared.pipes.Discipline.TheVariants.{TailDrop, ControlledDelay}
pub use Rattle.emu_model.specs.declared.sources.Timing.TheVariants.{Fixed, Adaptive}
pub use Rattle.emu_model.specs.declared.commands.Timed.{Timed}
pub use Rattle.emu_model.specs.declared.commands.Command.TheVariants.{Add, Delete, Config, PipeDelete, PipeShow, Show, Inject, Train, Flow, Stop, OnePass, Trace, End}
pub use Rattle.emu_model.specs.declared.records.DropCause.TheVariants.{Denied, NoPipe, NoInstance, Lost, Full, Codel, Deleted, Budget}
pub use Rattle.emu_model.specs.declared.records.Refusal.TheVariants.{BadNumber, BadSkip, RulesFull, NoRule, NoSuchPipe, MaskFixed, FlowThere, NoFlow, TooManyPipes, TooManyFlows}
pub use Rattle.emu_model.specs.declared.records.Record.{Record}
pub use Rattle.emu_model.specs.declared.records.Record.TheVariants.{CommandDone, CommandRefused, PacketMade, PacketArrived, InstanceIdentified, PacketFinished, PacketDelivered, PacketPassed, PacketDropped, AckTaken, TimerExpired, StepsSpent, RuleLine, PipeLine, InstanceLine}
pub use Rattle.emu_model.specs.Alone.{alone, trace_of}
unfoldable pub use Rattle.emu_model.specs.Codel.{control_step}
unfoldable pub use Rattle.rand_chacha.specs.Block.{block_word, double_rounds, column_round, diagonal_round, quarter_round}
unfoldable pub use Rattle.rand_core.specs.Steps.{u32_at}
