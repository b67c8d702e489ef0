use Rattle.std.proofs.Common.{arith}
use Rattle.control_lines.proofs.PacketLine.{packet_entry}
use Rattle.control_lines.proofs.line.entry.Goals as goal

pub returns-in-Some : goal.returns-in-Some
returns-in-Some c = packet_entry c.args.line.now c.in-Some.command (omega arith) c.in-Some.ensures
