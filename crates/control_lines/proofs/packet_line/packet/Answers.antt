use Rattle.control_lines.proofs.PacketLine.{packet_is}
use Rattle.control_lines.proofs.packet_line.packet.Goals as goal

pub returns : goal.returns
returns c =
    packet_is c.args.text.now c.in_ok-proto.rest.now c.in_ok-src.rest.now c.in_ok-sport.rest.now c.in_ok-dst.rest.now c.in_ok-dport.rest.now c.in_ok-proto.proto c.in_ok-src.src c.in_ok-sport.sport
    c.in_ok-dst.dst c.in_ok-dport.dport c.in_ok-size.size c.in_ok-proto.ensures c.in_ok-src.ensures c.in_ok-sport.ensures.0 c.in_ok-sport.ensures.1 c.in_ok-dst.ensures c.in_ok-dport.ensures.0
    c.in_ok-dport.ensures.1 c.in_ok-size.ensures.0 c.in_ok-size.ensures.1 c.in_ok-size.ensures.2
