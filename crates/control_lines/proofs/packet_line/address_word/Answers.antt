use Rattle.control_lines.proofs.PacketWords.{address_taken}
use Rattle.control_lines.proofs.packet_line.address_word.Goals as goal

pub returns : goal.returns
returns c = address_taken c.args.text.now c.in_ok-address.rest.now c.in_ok-rest.rest.now c.in_ok-address.address c.in_ok-address.ensures c.in_ok-rest.ensures
