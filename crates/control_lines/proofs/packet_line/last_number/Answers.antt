use Rattle.std.proofs.Common.{arith}
use Rattle.std.proofs.lemmas.List.{nil_from_length}
use Rattle.control_lines.proofs.PacketWords.{last_taken}
use Rattle.control_lines.proofs.packet_line.last_number.Goals as goal

pub returns : goal.returns
returns c = last_taken c.args.text.now c.in_ok-n.rest.now c.in_ok-n.n c.in_ok-n.ensures (nil_from_length _ (grind arith))
