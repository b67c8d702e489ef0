use Rattle.std.proofs.Common.{◌≡◌, ◌≤◌, drop, length}
use Rattle.control_words.specs.Text.{words as words_of}
use Rattle.control.proofs.word_fault.words_behind.Given as goal

-- so many words were taken
abbrev pub invariant-loop-count : goal.invariant-loop-count
invariant-loop-count l = record {
  left : words_of l.words.rest.now ≡ drop l._count (words_of l.line);
  within : l._count ≤ length (words_of l.line);
}
