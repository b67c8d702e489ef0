use Rattle.std.proofs.Common.{arith}
use Rattle.control_lines.proofs.PacketWords.{moment_taken}
use Rattle.control_lines.proofs.packet_line.moment_word.Goals as goal

pub returns : goal.returns
returns c = (moment_taken c.args.text.now c.in_ok-digits.digits.now c.in_ok-n.rest.now c.in_ok-rest.rest.now c.in_ok-n.n c.in_ok-digits.ensures c.in_ok-n.ensures c.in_ok-rest.ensures, omega arith)
