use Rattle.control_words.specs.Text.{words as words_of}
use Rattle.control_words.specs.Options.{field_at, is_field, put_field}
use Rattle.control_words.proofs.Phrases.{stopped, is_bad, is_refused, is_taken, is_fewer}
use Rattle.control_words.proofs.PhraseKinds.{field_shrinks}
use Rattle.control_words.proofs.options.more_fields.Goals as goal

pub returns-in_err-field : goal.returns-in_err-field
returns-in_err-field c = rw c.from_residual.ensures (is_bad is_field field_at put_field field_shrinks c.loop-field.fields (words_of c.loop-field.words.rest.now) _ c.in_err-field.ensures c.loop-field.invariant)

pub returns-in_err-fields : goal.returns-in_err-fields
returns-in_err-fields c = rw c.from_residual-in_err-fields.ensures (is_refused is_field field_at put_field field_shrinks c.loop-field.fields c.in_ok-field.field-0 c.in-Some.field (words_of c.loop-field.words.rest.now) (words_of c.next_field.new.words.rest.now) _ c.in-Some.is c.in_ok-field.ensures c.in_err-fields.ensures c.loop-field.invariant)

pub loop-field-smaller : goal.loop-field-smaller
loop-field-smaller c = is_fewer is_field field_at field_shrinks c.in_ok-field.field-0 c.in-Some.field (words_of c.loop-field.words.rest.now) (words_of c.next_field.new.words.rest.now) c.in-Some.is c.in_ok-field.ensures

pub loop-field-preserved : goal.loop-field-preserved
loop-field-preserved c = is_taken is_field field_at put_field field_shrinks c.loop-field.fields c.in_ok-field.field-0 c.in-Some.field c.in_ok-fields.fields (words_of c.loop-field.words.rest.now) (words_of c.next_field.new.words.rest.now) _ c.in-Some.is c.in_ok-field.ensures c.in_ok-fields.ensures c.loop-field.invariant

pub returns : goal.returns
returns c = stopped is_field field_at put_field field_shrinks c.loop-field.fields c.in_ok-field.field-0 (words_of c.loop-field.words.rest.now) (words_of c.next_field.new.words.rest.now) _ c.in_default.is c.in_ok-field.ensures c.loop-field.invariant
