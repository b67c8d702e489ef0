use Rattle.std.proofs.Common.{◌≡◌, ◌+◌, ◌<◌, ◌^◌, length}
use Rattle.control_words.specs.Text.{words as words_of}
use Rattle.control.specs.Walk.{walk}
use Rattle.control.proofs.word_fault.walk.Given as goal

-- what is left, from here on, is all
abbrev pub invariant-loop-word : goal.invariant-loop-word
invariant-loop-word l = record {
  same : walk l.fn.check l.index l.expected (words_of l.words.rest.now) ≡ walk l.fn.check l.fn.index l.fn.expected (words_of l.fn.words.rest.now);
  early : l.index + length (words_of l.words.rest.now) < 2 ^ 64;
}

abbrev pub decreases-loop-word : goal.decreases-loop-word
decreases-loop-word l = length (words_of l.words.rest.now)
