use Rattle.std.proofs.Common.{ap}
use Rattle.control_words.specs.Text.{words as words_of}
use Rattle.control_words.specs.Options.{any_word, options_of, put_setting, setting_at}
use Rattle.control_words.proofs.Phrases.{stopped, is_bad, is_refused, is_taken, is_fewer, firsts}
use Rattle.control_words.proofs.Settings.{setting_shrinks}
use Rattle.control_words.proofs.options.pipe_options.Goals as goal

pub returns-in_err-setting : goal.returns-in_err-setting
unfolding options_of
returns-in_err-setting c = rw c.from_residual.ensures (ap firsts (is_bad any_word setting_at put_setting setting_shrinks c.loop-setting.config (words_of c.loop-setting.words.rest.now) _ c.in_err-setting.ensures c.loop-setting.invariant))

pub returns-in_err-config : goal.returns-in_err-config
unfolding options_of
returns-in_err-config c = rw c.from_residual-in_err-config.ensures (ap firsts (is_refused any_word setting_at put_setting setting_shrinks c.loop-setting.config c.in_ok-setting.field-0 c.in-Some.setting (words_of c.loop-setting.words.rest.now) (words_of c.next_setting.new.words.rest.now) _ c.in-Some.is c.in_ok-setting.ensures c.in_err-config.ensures c.loop-setting.invariant))

pub loop-setting-smaller : goal.loop-setting-smaller
loop-setting-smaller c = is_fewer any_word setting_at setting_shrinks c.in_ok-setting.field-0 c.in-Some.setting (words_of c.loop-setting.words.rest.now) (words_of c.next_setting.new.words.rest.now) c.in-Some.is c.in_ok-setting.ensures

pub loop-setting-preserved : goal.loop-setting-preserved
loop-setting-preserved c = is_taken any_word setting_at put_setting setting_shrinks c.loop-setting.config c.in_ok-setting.field-0 c.in-Some.setting c.in_ok-config.config (words_of c.loop-setting.words.rest.now) (words_of c.next_setting.new.words.rest.now) _ c.in-Some.is c.in_ok-setting.ensures c.in_ok-config.ensures c.loop-setting.invariant

pub returns : goal.returns
unfolding options_of
returns c = ap firsts (stopped any_word setting_at put_setting setting_shrinks c.loop-setting.config c.in_ok-setting.field-0 (words_of c.loop-setting.words.rest.now) (words_of c.next_setting.new.words.rest.now) _ c.in_default.is c.in_ok-setting.ensures c.loop-setting.invariant)
