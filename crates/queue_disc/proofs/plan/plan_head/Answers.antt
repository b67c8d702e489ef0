use Rattle.std.proofs.Common.{◌≡◌, ◌-◌, ◌∙◌, ap, sym, drop, arith}
use Rattle.std.specs.Prelude.{◌||◌, nat_lt, nat_le}
use Rattle.emu_model.specs.DropTail.{bytes_of}
use Rattle.queue_disc.proofs.Counted.{bytes_of-cons}
use Rattle.queue_disc.proofs.Judging.{judged_dropping}
use Rattle.queue_disc.proofs.plan.plan_head.Goals as goal

pub returns-then-is_dropping : goal.returns-then-is_dropping
returns-then-is_dropping g c =
    let rest = drop 1 c.args.queue.now.waiting in
    let e = c.in-Some.ensures.item in
    let behind : c.bytes.result - c.from.result ≡ bytes_of rest =
    omega (arith, c.bytes.ensures.bytes, ap bytes_of e, bytes_of-cons c.in-Some.head.now rest, c.from.ensures, c.get-2.ensures.value, ap (λ w. w.size) c.head.view_is) in
    let short = c.is_short-short.ensures ∙ ap (λ w. nat_lt (c.args.now - w.stamp) c.args.times.target || nat_le (c.bytes.result - c.from.result) 1500) c.head.view_is in
    c.plan_dropping.ensures ∙ judged_dropping _ _ _ c.in-Some.head.now _ rest _ _ _ _ e behind short c.examine-found.ensures c.look-seen.ensures (sym c.if-not-ok_to_drop.ensures) (sym c.if-is_dropping.ensures)
