use Rattle.std.proofs.Common.{arith}
use Rattle.control_lines.proofs.PacketParts.{one_digit, two_digits, three_digits}
use Rattle.control_lines.proofs.packet_line.part.Goals as goal

pub returns-in_default : goal.returns-in_default
returns-in_default c =
    let a = c.in_ok-first in
    (one_digit c.args.text.now a.behind_first.now a.first a.ensures.0 a.ensures.1, omega (arith, a.ensures.1))

pub returns-in_default-digit : goal.returns-in_default-digit
returns-in_default-digit c =
    let a = c.in_ok-first in
    let b = c.in-Some in (
      two_digits c.args.text.now a.behind_first.now b.behind_second.now a.first b.second a.ensures.0 (omega (arith, c.if-first-eq0.false)) a.ensures.1 b.ensures.1 b.ensures.0,
      omega (arith, a.ensures.1, b.ensures.1),
    )

pub returns : goal.returns
returns c =
    let a = c.in_ok-first in
    let b = c.in-Some in
    let d = c.in-Some-digit in (
      three_digits c.args.text.now a.behind_first.now b.behind_second.now a.first b.second a.ensures.0 (omega (arith, c.if-first-eq0.false)) a.ensures.1 b.ensures.1 d.behind_third.now d.third b.ensures.0 d.ensures.0 d.ensures.1,
      omega (arith, c.if-n-gt255.false),
    )
