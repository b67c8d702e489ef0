use Rattle.std.proofs.Common.{◌≡◌, ◌+◌, drop}
use Rattle.std.specs.List.{prefix_len}
use Rattle.std.specs.Char.{is_ascii_digit}
use Rattle.control_words.proofs.numbers.leading_digits.Given as goal

abbrev pub invariant-loop-c : goal.invariant-loop-c
invariant-loop-c l = record {
  index : l.count ≡ l.c-index;
  rest : l.count + prefix_len is_ascii_digit (drop l.c-index l.word) ≡ prefix_len is_ascii_digit l.word;
}
