use Rattle.std.proofs.Common.{◌≡◌, ◌<◌, ◌^◌, drop}
use Rattle.control_words.specs.Numbers.{hex_digits_after}
use Rattle.control_words.proofs.numbers.hex_digits.Given as goal

abbrev pub invariant-loop-c : goal.invariant-loop-c
invariant-loop-c l = record {
  value : hex_digits_after l.n (drop l.c-index l.word) ≡ hex_digits_after 0 l.word;
  small : l.n < 16 ^ l.c-index;
}
