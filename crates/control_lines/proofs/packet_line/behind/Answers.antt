use Rattle.std.proofs.Common.{arith}
use Rattle.control_lines.proofs.PacketWords.{behind_is}
use Rattle.control_lines.proofs.packet_line.behind.Goals as goal

pub returns : goal.returns
returns c = behind_is c.args.text.now c.args.byte (grind arith) (grind arith)
