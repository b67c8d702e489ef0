use Rattle.std.proofs.Common.{◌+◌, ap, length, arith, length-drop}
use Rattle.control_words.specs.Text.{words as words_of}
use Rattle.control.proofs.Few.{few}
use Rattle.control.proofs.word_fault.blame_behind.Goals as goal

pub overflow_add-before : goal.overflow_add-before
overflow_add-before c = omega (arith, few c.args.line.now, (c.in-Some.ensures).0)

pub walk-requires : goal.walk-requires
walk-requires c =
    let ws = words_of c.args.line.now in
    omega (arith, few c.args.line.now, (c.in-Some.ensures).0, length-drop (c.args.before.now.index + 1) ws, ap length (c.in-Some.ensures).1)
