use Rattle.std.proofs.Common.{[], sym, ap, subst, arith}
use Rattle.packet_store.specs.Own.{own_pocket}
use Rattle.experiment.specs.Kept.{IsHousedIn, last_moment}
use Rattle.session.proofs.RunFacts.{waiting_begins, not_ended}
use Rattle.session.proofs.run.Run.new.Goals as goal

pub returns-clause-at : goal.returns-clause-at
returns-clause-at c =
    let e = c.in_ok-new.field-0 in
    let given = c.in_ok-new.ensures.given in
    let p = own_pocket c.new-2.result in
    record {
      housed = subst (λ x. IsHousedIn x e) (sym c.new-2.ensures.own) (c.in_ok-new.ensures.housed c.args.spec.budget.packets (omega arith));
      counts = c.in_ok-new-2.ensures.counts;
      waits = waiting_begins c.waits_begin.ensures 0 [] p e given.1 (c.in_ok-new.ensures.alone p);
      latest = let same = ap (last_moment 0) given.2 in omega (arith, same);
      proper = record { few = let none = given.3 in omega (arith, none); ends = not_ended e given.4 };
    }

pub returns-clause-begins : goal.returns-clause-begins
returns-clause-begins c = c.in_ok-new.ensures.opening (own_pocket c.new-2.result)
