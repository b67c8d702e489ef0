use Rattle.control_lines.specs.PacketLine.{tcp, udp}
use Rattle.control_lines.proofs.PacketLine.{protocol_is, is_tcp, is_udp}
use Rattle.control_lines.proofs.packet_line.protocol_word.Goals as goal

pub returns-in-Some : goal.returns-in-Some
returns-in-Some c = protocol_is c.args.text.now udp c.in-Some.rest.now _ c.in-Some.ensures.word c.in-Some.ensures.printed is_udp

pub returns : goal.returns
returns c = protocol_is c.args.text.now tcp c.in_ok-rest.rest.now _ c.in_ok-rest.ensures.word c.in_ok-rest.ensures.printed is_tcp
