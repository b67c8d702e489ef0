use Rattle.std.proofs.Common.{◌≡◌, length}
use Rattle.control_words.specs.Text.{words as words_of}
use Rattle.control_words.specs.Phrases.{phrases}
use Rattle.control_words.specs.Options.{any_word, setting_at, put_setting, no_options}
use Rattle.control_words.proofs.options.pipe_options.Given as goal

-- what is left, with what is set so far, is all
abbrev pub invariant-loop-setting : goal.invariant-loop-setting
invariant-loop-setting l = phrases any_word setting_at put_setting l.config (words_of l.words.rest.now) ≡ phrases any_word setting_at put_setting no_options (words_of l.fn.words.rest.now)

abbrev pub decreases-loop-setting : goal.decreases-loop-setting
decreases-loop-setting l = length (words_of l.words.rest.now)
