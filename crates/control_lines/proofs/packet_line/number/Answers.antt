use Rattle.std.proofs.Common.{take, refl, sym, ◌∙◌, arith}
use Rattle.std.proofs.lemmas.List.{take_rest}
use Rattle.control_lines.proofs.PacketWords.{number_leads}
use Rattle.control_lines.proofs.packet_line.number.Goals as goal

pub returns : goal.returns
returns c =
    let count = c.digits_in_front-n.result.1 in
    number_leads c.args.text.now (take c.min.result c.args.text.now) _ c.min.result c.digits_in_front-n.result.0 count refl (omega (arith, c.min.ensures)) c.digits_in_front-n.ensures.within
    c.digits_in_front-n.ensures.value (omega (arith, c.if-count-eq0.false)) (sym c.has_leading_zero.ensures ∙ c.if-has_leading_zero.false) (take_rest c.args.text.now count)
