use Rattle.std.proofs.Common.{◌≡◌, length}
use Rattle.control_words.specs.Text.{words as words_of}
use Rattle.control_words.specs.Phrases.{phrases}
use Rattle.control_words.specs.Options.{any_word, flow_setting_at, put_flow_setting, no_flow_options}
use Rattle.control_words.proofs.options.flow_options.Given as goal

-- what is left, with what is set so far, is all
abbrev pub invariant-loop-setting : goal.invariant-loop-setting
invariant-loop-setting l = phrases any_word flow_setting_at put_flow_setting l.options (words_of l.words.rest.now) ≡ phrases any_word flow_setting_at put_flow_setting no_flow_options (words_of l.fn.words.rest.now)

abbrev pub decreases-loop-setting : goal.decreases-loop-setting
decreases-loop-setting l = length (words_of l.words.rest.now)
