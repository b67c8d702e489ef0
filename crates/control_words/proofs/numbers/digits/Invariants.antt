use Rattle.std.proofs.Common.{◌≡◌, ◌<◌, ◌^◌, drop}
use Rattle.control_words.specs.Numbers.{digits_after}
use Rattle.control_words.proofs.numbers.digits.Given as goal

abbrev pub invariant-loop-c : goal.invariant-loop-c
invariant-loop-c l = record {
  value : digits_after l.n (drop l.c-index l.word) ≡ digits_after 0 l.word;
  small : l.n < 10 ^ l.c-index;
}
