use Rattle.std.proofs.Common.{◌≡◌, arith}
use Rattle.control_words.specs.Text.{words as words_of}
use Rattle.control.proofs.Taken.{more}
use Rattle.control.proofs.word_fault.words_behind.Goals as goal

pub loop-count-preserved : goal.loop-count-preserved
loop-count-preserved c =
    let next = more (words_of c.args.line.now) (words_of c.loop-count.words.rest.now) (words_of c.next_word.new.self.rest.now) c.loop-count._count _ c.loop-count.invariant.left c.in_ok-_word.ensures.value c.in_ok-_word.ensures.left in
    record { left = next.0; within = omega (arith, next.1) }

pub returns : goal.returns
returns c =
    let all : c.loop-count._count ≡ c.args.index = omega arith in
    let next = more (words_of c.args.line.now) (words_of c.loop-count.words.rest.now) (words_of c.next_word-2.new.self.rest.now) c.loop-count._count _ c.loop-count.invariant.left c.in_ok-_word-2.ensures.value c.in_ok-_word-2.ensures.left in
    rw (← all) (next.1, next.0)
