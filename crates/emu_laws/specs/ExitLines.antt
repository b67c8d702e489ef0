-- A packet that leaves an instance is delivered or passed on at once (one_pass as in ipfw(8)), which is recorded first.
use Rattle.std.specs.Prelude.{◌≡◌, ℕ, Bool, if◌then◌else◌, Some, [], ◌∷◌, ◌++◌}
use Rattle.emu_model.specs.declared.commands.EventContext.{EventContext}
use Rattle.emu_model.specs.declared.packets.Packet.{Packet}
use Rattle.emu_model.specs.declared.records.Record.{Record}
use Rattle.emu_model.specs.declared.records.Record.TheVariants.{PacketDelivered, PacketPassed}
use Rattle.emu_model.specs.Pipes.{PipeState}
use Rattle.emu_model.specs.Net.{Net}
use Rattle.emu_model.specs.Events.{flying_in, pipe_exits}
use Rattle.emu_model.specs.RunLaws.{IsExtendedBy}

-- the record of a packet that leaves instance k of a pipe
abbrev pub exit_line : ℕ → ℕ → ℕ → Bool → Packet → Record
exit_line now pipe k one_pass q =
    if one_pass then PacketDelivered now q.number q.load else PacketPassed now q.number pipe k

-- the first record of an exit is this one
abbrev pub ExitsAreRecorded : Type 0
ExitsAreRecorded = (at : EventContext) (pipe k : ℕ) (n : Net) (p : PipeState) (q : Packet) → flying_in k p ≡ Some q →
    IsExtendedBy (n.records ++ exit_line at.now pipe k n.one_pass q ∷ []) (pipe_exits at pipe k n p).records
