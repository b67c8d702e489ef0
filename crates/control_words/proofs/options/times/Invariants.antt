use Rattle.std.proofs.Common.{◌≡◌, length}
use Rattle.control_words.specs.Text.{words as words_of}
use Rattle.control_words.specs.Options.{times_of}
use Rattle.control_words.proofs.options.times.Given as goal

-- what is left, with what is set so far, is all
abbrev pub invariant-loop-time : goal.invariant-loop-time
invariant-loop-time l = times_of l.codel (words_of l.words.rest.now) ≡ times_of l.fn.codel (words_of l.fn.words.rest.now)

abbrev pub decreases-loop-time : goal.decreases-loop-time
decreases-loop-time l = length (words_of l.words.rest.now)
