use Rattle.std.proofs.Common.{◌≡◌, ap, ◌∙◌, arith}
use Rattle.std.specs.List.{position_or_len}
use Rattle.std.proofs.lemmas.List.{drop-drop}
use Rattle.control_words.specs.Text.{words}
use Rattle.explain.proofs.FrontWords.{space, left_first, left_next, left_found}
use Rattle.explain.proofs.span.span_of_word.Goals as goal

pub loop-count-init : goal.loop-count-init
loop-count-init c = left_first c.args.line.now _ c.leading_spaces-start.ensures.value

pub loop-count-preserved : goal.loop-count-preserved
loop-count-preserved c =
    let line = c.args.line.now in
    let next = left_next line c.loop-count.start c.past_word-start.result _ c.loop-count.invariant c.past_word-start.ensures in
    rw (← drop-drop 1 c.loop-count._count (words line)) next

pub returns-clause-word : goal.returns-clause-word
returns-clause-word c =
    let all : c.loop-count._count ≡ c.args.index = omega arith in
    let end = c.word_end.ensures.value ∙ ap (position_or_len space) c.tail.ensures in
    rw (← all) (left_found c.args.line.now c.loop-count.start c.word_end.result _ c.loop-count.invariant end)

pub returns-clause-rest : goal.returns-clause-rest
returns-clause-rest c =
    let all : c.loop-count._count ≡ c.args.index = omega arith in
    rw (← all) c.loop-count.invariant.words_are
