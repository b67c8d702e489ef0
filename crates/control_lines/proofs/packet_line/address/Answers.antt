use Rattle.std.proofs.Common.{refl}
use Rattle.control_lines.proofs.PacketWords.{address_leads}
use Rattle.control_lines.proofs.packet_line.address.Goals as goal

pub returns : goal.returns
returns c =
    address_leads c.args.text.now c.in_ok-first.rest.now c.in_ok-second.rest.now c.in_ok-third.rest.now c.in_ok-fourth.rest.now c.in_ok-first.first c.in_ok-second.second c.in_ok-third.third
    c.in_ok-fourth.fourth _ c.in_ok-first.ensures.0 c.in_ok-first.ensures.1 c.in_ok-second.ensures.0 c.in_ok-second.ensures.1 c.in_ok-third.ensures.0 c.in_ok-third.ensures.1
    c.in_ok-fourth.ensures.0 c.in_ok-fourth.ensures.1 refl
