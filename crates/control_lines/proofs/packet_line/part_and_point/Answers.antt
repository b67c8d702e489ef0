use Rattle.control_lines.proofs.PacketWords.{point_follows}
use Rattle.control_lines.proofs.packet_line.part_and_point.Goals as goal

pub returns : goal.returns
returns c = (point_follows c.args.text.now c.in_ok-n.rest.now c.in_ok-rest.rest.now c.in_ok-n.n c.in_ok-n.ensures.0 c.in_ok-rest.ensures, c.in_ok-n.ensures.1)
