use Rattle.std.proofs.Common.{ap}
use Rattle.control_words.specs.Text.{words as words_of}
use Rattle.control_words.specs.Options.{any_word, flow_options_of, flow_setting_at, put_flow_setting}
use Rattle.control_words.proofs.Phrases.{stopped, is_bad, is_refused, is_taken, is_fewer, firsts}
use Rattle.control_words.proofs.PhraseKinds.{flow_setting_shrinks}
use Rattle.control_words.proofs.options.flow_options.Goals as goal

pub returns-in_err-setting : goal.returns-in_err-setting
unfolding flow_options_of
returns-in_err-setting c = rw c.from_residual.ensures (ap firsts (is_bad any_word flow_setting_at put_flow_setting flow_setting_shrinks c.loop-setting.options (words_of c.loop-setting.words.rest.now) _ c.in_err-setting.ensures c.loop-setting.invariant))

pub returns-in_err-options : goal.returns-in_err-options
unfolding flow_options_of
returns-in_err-options c = rw c.from_residual-in_err-options.ensures (ap firsts (is_refused any_word flow_setting_at put_flow_setting flow_setting_shrinks c.loop-setting.options c.in_ok-setting.field-0 c.in-Some.setting (words_of c.loop-setting.words.rest.now) (words_of c.next_flow_setting.new.words.rest.now) _ c.in-Some.is c.in_ok-setting.ensures c.in_err-options.ensures c.loop-setting.invariant))

pub loop-setting-smaller : goal.loop-setting-smaller
loop-setting-smaller c = is_fewer any_word flow_setting_at flow_setting_shrinks c.in_ok-setting.field-0 c.in-Some.setting (words_of c.loop-setting.words.rest.now) (words_of c.next_flow_setting.new.words.rest.now) c.in-Some.is c.in_ok-setting.ensures

pub loop-setting-preserved : goal.loop-setting-preserved
loop-setting-preserved c = is_taken any_word flow_setting_at put_flow_setting flow_setting_shrinks c.loop-setting.options c.in_ok-setting.field-0 c.in-Some.setting c.in_ok-options.options (words_of c.loop-setting.words.rest.now) (words_of c.next_flow_setting.new.words.rest.now) _ c.in-Some.is c.in_ok-setting.ensures c.in_ok-options.ensures c.loop-setting.invariant

pub returns : goal.returns
unfolding flow_options_of
returns c = ap firsts (stopped any_word flow_setting_at put_flow_setting flow_setting_shrinks c.loop-setting.options c.in_ok-setting.field-0 (words_of c.loop-setting.words.rest.now) (words_of c.next_flow_setting.new.words.rest.now) _ c.in_default.is c.in_ok-setting.ensures c.loop-setting.invariant)
