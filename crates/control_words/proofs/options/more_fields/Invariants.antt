use Rattle.std.proofs.Common.{◌≡◌, length}
use Rattle.control_words.specs.Text.{words as words_of}
use Rattle.control_words.specs.Options.{fields_of}
use Rattle.control_words.proofs.options.more_fields.Given as goal

-- what is left, with what is set so far, is all
abbrev pub invariant-loop-field : goal.invariant-loop-field
invariant-loop-field l = fields_of l.fields (words_of l.words.rest.now) ≡ fields_of l.fn.fields (words_of l.fn.words.rest.now)

abbrev pub decreases-loop-field : goal.decreases-loop-field
decreases-loop-field l = length (words_of l.words.rest.now)
