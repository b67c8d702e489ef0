use Rattle.control_words.specs.Text.{words as words_of}
use Rattle.control_words.specs.Options.{is_time, put_time, time_at}
use Rattle.control_words.proofs.Phrases.{stopped, is_bad, is_refused, is_taken, is_fewer}
use Rattle.control_words.proofs.PhraseKinds.{time_shrinks}
use Rattle.control_words.proofs.options.times.Goals as goal

pub returns-in_err-time : goal.returns-in_err-time
returns-in_err-time c = rw c.from_residual.ensures (is_bad is_time time_at put_time time_shrinks c.loop-time.codel (words_of c.loop-time.words.rest.now) _ c.in_err-time.ensures c.loop-time.invariant)

pub returns-in_err-codel : goal.returns-in_err-codel
returns-in_err-codel c = rw c.from_residual-in_err-codel.ensures (is_refused is_time time_at put_time time_shrinks c.loop-time.codel c.in_ok-time.field-0 c.in-Some.time (words_of c.loop-time.words.rest.now) (words_of c.next_time.new.words.rest.now) _ c.in-Some.is c.in_ok-time.ensures c.in_err-codel.ensures c.loop-time.invariant)

pub loop-time-smaller : goal.loop-time-smaller
loop-time-smaller c = is_fewer is_time time_at time_shrinks c.in_ok-time.field-0 c.in-Some.time (words_of c.loop-time.words.rest.now) (words_of c.next_time.new.words.rest.now) c.in-Some.is c.in_ok-time.ensures

pub loop-time-preserved : goal.loop-time-preserved
loop-time-preserved c = is_taken is_time time_at put_time time_shrinks c.loop-time.codel c.in_ok-time.field-0 c.in-Some.time c.in_ok-codel.codel (words_of c.loop-time.words.rest.now) (words_of c.next_time.new.words.rest.now) _ c.in-Some.is c.in_ok-time.ensures c.in_ok-codel.ensures c.loop-time.invariant

pub returns : goal.returns
returns c = stopped is_time time_at put_time time_shrinks c.loop-time.codel c.in_ok-time.field-0 (words_of c.loop-time.words.rest.now) (words_of c.next_time.new.words.rest.now) _ c.in_default.is c.in_ok-time.ensures c.loop-time.invariant
