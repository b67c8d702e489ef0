use Rattle.control_lines.proofs.PacketLine.{line_is}
use Rattle.control_lines.proofs.packet_line.packet_line.Goals as goal

pub returns : goal.returns
returns c = line_is c.args.line.now c.in_ok-moment.rest.now c.in_ok-rest.rest.now c.in_ok-moment.moment c.in_ok-packet.packet c.in_ok-moment.ensures.0 c.in_ok-moment.ensures.1 c.in_ok-rest.ensures.word c.in_ok-rest.ensures.printed c.in_ok-packet.ensures
