use Rattle.std.proofs.Common.{◌≡◌, ℕ, ◌+◌, ◌++◌, [], ◌∷◌, count_by, List, Some, length, slice_get, sym, ap, subst, ◌∙◌, arith, length-append}
use Rattle.timer_wheel.specs.Stocks.{IsMore}
use Rattle.timer_wheel.proofs.StockFacts.{push_more, push_back, push_free, is_free}
use Rattle.timer_wheel.proofs.stock.grow.Goals as goal

pub returns-clause-grown : goal.returns-clause-grown
returns-clause-grown c =
    let e : c.add.new.self ≡ c.args.slots.now ++ 2050 ∷ [] = c.in_ok-add.ensures.ok in
    let n : length c.add.new.self ≡ length c.args.slots.now + 1 = ap length e ∙ length-append c.args.slots.now (2050 ∷ []) in
    let f : count_by is_free c.add.new.self ≡ count_by is_free c.args.slots.now + 1 = ap (count_by is_free) e ∙ push_free c.args.slots.now in
    record {
      entries_more = c.grow_entries.ensures.more;
      slots_more = subst (IsMore c.args.slots.now) (sym e) (push_more c.args.slots.now 2050);
      owners_more = c.grow_owners.ensures.more;
      slots_free = λ k p h ne. push_back c.args.slots.now k p (subst (λ (xs : List ℕ). slice_get xs k ≡ Some p) e h) ne;
      owners_free = c.grow_owners.ensures.free;
      entries_long = omega (arith, c.in_ok-grow_entries.ensures.ok);
      owners_long = omega (arith, c.in_ok-grow_owners.ensures.ok);
      free = omega arith;
    }
