use Rattle.std.proofs.Common.{◌≡◌, ◌+◌, ◌∷◌, ◌++◌, [], ℕ, length, length-append, ap, ◌∙◌, cond, arith}
use Rattle.std.specs.Prelude.{◌==◌}
use Rattle.std.proofs.lemmas.List.Sums.{sum_by_push}
use Rattle.bench.specs.declared.hand.Hand.{Hand}
use Rattle.bench.specs.declared.hand.Stamp.{Stamp}
use Rattle.bench.specs.Custody.{hand, stamp, times, named}
use Rattle.bench.specs.Ends.{deque_view}
use Rattle.bench.proofs.closing.drain.Goals as goal

pub loop-parcel-preserved : goal.loop-parcel-preserved
loop-parcel-preserved c =
    let was : Hand = deque_view c.loop-parcel.deque in
    let now : Hand = deque_view c.pop.new.self in
    let inv = c.loop-parcel.invariant in
    let name : ℕ = c.in-Some.parcel.name in
    let s : Stamp = stamp c.in-Some.parcel in
    let took : now ≡ hand was.pushed (was.taken ++ s ∷ []) = c.in-Some.ensures.taken.0 in
    let put : c.push_reserved.new.self.items ≡ c.loop-parcel.left.items ++ name ∷ [] =
    c.push_reserved.ensures.items ∙ ap (λ n. c.loop-parcel.left.items ++ n ∷ []) c.name_of.ensures in
    let pushed : now.pushed ≡ was.pushed = ap (λ (h : Hand). h.pushed) took in
    let longer : length now.taken ≡ length was.taken + 1 = ap (λ (h : Hand). length h.taken) took ∙ length-append was.taken (s ∷ []) in
    record {
      pushed = pushed ∙ inv.pushed;
      taken = λ x.
          let more : named x now.taken ≡ named x was.taken + cond (name == x) 1 0 =
          ap (λ (h : Hand). named x h.taken) took ∙ sum_by_push (λ (t : Stamp). cond (t.name == x) 1 0) was.taken s in
          let one : times x c.push_reserved.new.self.items ≡ times x c.loop-parcel.left.items + cond (name == x) 1 0 =
          ap (times x) put ∙ sum_by_push (λ y. cond (y == x) 1 0) c.loop-parcel.left.items name in
          omega (arith, more, one, inv.taken x);
      count = omega (arith, longer, c.push_reserved.ensures.len, inv.count);
      room = omega (arith, longer, ap length pushed, c.push_reserved.ensures.len, c.push_reserved.ensures.capacity, c.in-Some.ensures.few, inv.room);
    }
