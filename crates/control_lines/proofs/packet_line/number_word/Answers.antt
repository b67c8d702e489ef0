use Rattle.control_lines.proofs.PacketWords.{number_taken}
use Rattle.control_lines.proofs.packet_line.number_word.Goals as goal

pub returns : goal.returns
returns c = number_taken c.args.text.now c.in_ok-n.rest.now c.in_ok-rest.rest.now c.in_ok-n.n c.in_ok-n.ensures c.in_ok-rest.ensures
