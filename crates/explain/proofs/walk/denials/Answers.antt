use Rattle.std.proofs.Common.{◌≡◌, ◌+◌, length, drop, sym, ◌∙◌, arith}
use Rattle.std.proofs.lemmas.List.{length-drop}
use Rattle.explain.specs.Walk.{Stand}
use Rattle.explain.proofs.Behind.{at_next, denials_next, denials_end}
use Rattle.explain.proofs.walk.denials.Goals as goal

pub loop-number-preserved : goal.loop-number-preserved
loop-number-preserved c =
    let cs = c.args.commands.now in
    let k = c.loop-number.number in
    let next = c.index-commands-number.result in
    let here = at_next cs k next c.loop-number-test.true c.index-commands-number.is in
    let from : Stand = record { book = c.loop-number.ahead; left = drop c.loop-number.taken cs } in
    let to : Stand = record { book = c.apply_until.new.rules; left = drop c.in_ok-taken.taken cs } in
    record {
      within = c.in_ok-taken.ensures.within;
      same = rw (c.in_ok-note_command.ensures, c.in_ok-apply.ensures) (denials_next c.args.flows k c.loop-number.rules from to (drop k cs) (drop (k + 1) cs) next c.loop-number.out.items here c.in_ok-taken.ensures.behind ∙ c.loop-number.invariant.same);
    }

pub returns : goal.returns
returns c =
    let cs = c.args.commands.now in
    let k = c.loop-number.number in
    let none : length (drop k cs) ≡ 0 = omega (arith, length-drop k cs) in
    sym (denials_end c.args.flows k c.loop-number.rules (record { book = c.loop-number.ahead; left = drop c.loop-number.taken cs }) (drop k cs) c.loop-number.out.items none) ∙ c.loop-number.invariant.same
