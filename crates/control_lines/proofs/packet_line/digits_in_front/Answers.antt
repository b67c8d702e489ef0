use Rattle.std.proofs.Common.{get_or, sym, ◌∙◌, arith}
use Rattle.control_lines.proofs.PacketWords.{digits_step, digit_bound, small, small_next}
use Rattle.control_lines.proofs.packet_line.digits_in_front.Goals as goal

pub overflow_mul-n : goal.overflow_mul-n
overflow_mul-n c = omega (arith, small c.loop-c.n c.loop-c.count c.loop-c.invariant.small (omega (arith, c.loop-c.invariant.index, c.requires)))

pub overflow_add-n : goal.overflow_add-n
overflow_add-n c =
    let digit = digit_bound (get_or c.args.text.now c.loop-c.c-index 0) (sym c.is_ascii_digit.ensures.value ∙ c.if-not-is_ascii_digit.false) in
    omega (arith, small c.loop-c.n c.loop-c.count c.loop-c.invariant.small (omega (arith, c.loop-c.invariant.index, c.requires)), digit.1, c.from.ensures)

pub loop-c-preserved : goal.loop-c-preserved
loop-c-preserved c =
    let is_digit = sym c.is_ascii_digit.ensures.value ∙ c.if-not-is_ascii_digit.false in
    let digit = digit_bound (get_or c.args.text.now c.loop-c.c-index 0) is_digit in
    record {
      index = omega (arith, c.loop-c.invariant.index);
      value = digits_step c.args.text.now c.loop-c.count c.loop-c.c-index c.loop-c.n c.from.result c.loop-c.invariant.index c.loop-c-test.true c.loop-c.invariant.value is_digit c.from.ensures;
      small = small_next c.loop-c.n c.loop-c.count c.from.result c.loop-c.invariant.small (omega (arith, digit.1, c.from.ensures));
    }
