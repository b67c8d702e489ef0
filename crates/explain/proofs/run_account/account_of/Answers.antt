use Rattle.std.proofs.Common.{◌≡◌, ◌+◌, length, drop, arith}
use Rattle.std.proofs.lemmas.List.{length-drop}
use Rattle.explain.proofs.Accounting.{account_ends}
use Rattle.explain.proofs.run_account.account_of.Goals as goal

pub returns : goal.returns
returns c =
    let ts = c.args.reports.now in
    let k = c.loop-place.place in
    let none : length (drop k ts) ≡ 0 = omega (arith, length-drop k ts) in
    account_ends (k + 1) ts (drop k ts) c.loop-place.account.refusals c.loop-place.account.notes none c.loop-place.invariant
