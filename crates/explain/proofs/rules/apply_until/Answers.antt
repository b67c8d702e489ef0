use Rattle.std.proofs.Common.{◌≡◌, ◌+◌, ◌≤◌, length, get_or, drop, sym, subst, ◌∙◌, arith}
use Rattle.std.proofs.lemmas.List.{length-drop}
use Rattle.emu_model.specs.declared.commands.Timed.{Timed}
use Rattle.explain.proofs.Behind.{at_read, behind_next, behind_stays, behind_ends}
use Rattle.explain.proofs.rules.apply_until.Goals as goal

pub loop-next-preserved : goal.loop-next-preserved
loop-next-preserved c =
    let cs = c.args.commands.now in
    let n = c.loop-next.next in
    let m = c.args.moment in
    let tested = get_or cs n c.index-commands-next.result in
    let taken = get_or cs n c.index-commands-next-in-loop-next.result in
    let seen = at_read cs n c.index-commands-next.result c.loop-next-test.true in
    let here = at_read cs n c.index-commands-next-in-loop-next.result c.loop-next-test.true in
    let same : tested ≡ taken = cc (sym seen ∙ here) in
    let early : taken.moment ≤ m = subst (λ (x : Timed). x.moment ≤ m) same c.if-commands-next.true in
    record {
      within = omega arith;
      same = rw c.in_ok-apply.ensures (sym (behind_next m c.loop-next.rules (drop n cs) (drop (n + 1) cs) taken here early) ∙ c.loop-next.invariant.same);
    }

pub returns-else-commands-next-clause-behind : goal.returns-else-commands-next-clause-behind
returns-else-commands-next-clause-behind c =
    let cs = c.args.commands.now in
    let n = c.loop-next.next in
    let here = at_read cs n c.index-commands-next.result c.loop-next-test.true in
    sym c.loop-next.invariant.same ∙ behind_stays c.args.moment c.loop-next.rules (drop n cs) (drop (n + 1) cs) (get_or cs n c.index-commands-next.result) here c.if-commands-next.false

pub returns-after-loop-next-clause-behind : goal.returns-after-loop-next-clause-behind
returns-after-loop-next-clause-behind c =
    let cs = c.args.commands.now in
    let n = c.loop-next.next in
    let none : length (drop n cs) ≡ 0 = omega (arith, length-drop n cs) in
    sym c.loop-next.invariant.same ∙ behind_ends c.args.moment c.loop-next.rules (drop n cs) none
