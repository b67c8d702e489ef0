use Rattle.std.proofs.Common.{◌≡◌, ◌<◌, ◌^◌, take, Some}
use Rattle.control_words.specs.Numbers.{digits_after}
use Rattle.control_lines.proofs.packet_line.digits_in_front.Given as goal

abbrev pub invariant-loop-c : goal.invariant-loop-c
invariant-loop-c l = record {
  index : l.count ≡ l.c-index;
  value : digits_after 0 (take l.count l.text) ≡ Some l.n;
  small : l.n < 10 ^ l.count;
}
