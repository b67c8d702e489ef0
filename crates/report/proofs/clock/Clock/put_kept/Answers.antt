use Rattle.std.proofs.Common.{drop, arith, ap, sym, ◌∙◌}
use Rattle.std.specs.Prelude.{decimal}
use Rattle.report.proofs.Kept.{kept_put}
use Rattle.report.proofs.clock.Clock.put_kept.Goals as goal

pub returns-clause-items : goal.returns-clause-items
returns-clause-items c =
    let kept = c.self.inside in
    let holds = c.self.invariant in
    let now = holds.3 kept.moment holds.1 holds.2 in
    kept_put
    c.args.text.now
    c.put_bytes.new.text
    c.put_bytes-2.new.text
    c.put_bytes-3.new.text
    kept.digits
    _
    c.args.at
    kept.start
    (omega arith)
    (omega arith)
    (rw (c.put_bytes.ensures, c.eight_from.ensures))
    (rw (c.put_bytes-2.ensures, c.eight_from-2.ensures))
    (rw (c.put_bytes-3.ensures, c.eight_from-3.ensures))
    (ap decimal (sym c.self.view_is) ∙ now.2 ∙ ap (drop kept.start) (sym holds.4))
