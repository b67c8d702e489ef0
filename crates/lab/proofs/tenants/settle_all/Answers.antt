use Rattle.std.proofs.Common.{rules, length, sym, ap, ◌∙◌, arith, add-one}
use Rattle.std.specs.Vec.Iter.{into_iter_items}
use Rattle.lab.specs.Joins.{SettlesNot}
use Rattle.lab.proofs.Servings.{collects}
use Rattle.lab.proofs.Settlings.{here, serves_at, ended_at, settles_not}
use Rattle.lab.proofs.tenants.settle_all.Goals as goal

pub settle_one-requires-clause-serves : goal.settle_one-requires-clause-serves
settle_one-requires-clause-serves c =
    serves_at c.args.tenants.items c.args.scenario.now c.loop-experiment.experiment-index c.in-Some.tenant (into_iter_items c.next.new.self) c.experiment-item.result
    (sym c.loop-experiment.invariant.tenants ∙ c.in-Some.ensures.items) c.requires.served.1 c.experiment-item.is

pub settle_one-requires-clause-ended : goal.settle_one-requires-clause-ended
settle_one-requires-clause-ended c =
    ended_at c.args.dossiers.items c.loop-experiment.experiment-index c.in-Some-next.dossier (into_iter_items c.next-in-loop-experiment.new.self)
    (sym c.loop-experiment.invariant.dossiers ∙ c.in-Some-next.ensures.items) c.requires.ended

pub returns-in_err-settle_one-clause-err : goal.returns-in_err-settle_one-clause-err
returns-in_err-settle_one-clause-err c =
    let strange = c.in_err-settle_one.ensures.strange in
    let not : SettlesNot c.args.tenants.items c.args.dossiers.items c.in_err-settle_one.field-0.0 =
    settles_not c.args.tenants.items (into_iter_items c.next.new.self) c.args.dossiers.items (into_iter_items c.next-in-loop-experiment.new.self) c.loop-experiment.experiment-index c.in-Some.tenant c.in-Some-next.dossier c.in_err-settle_one.field-0.0
    (sym c.loop-experiment.invariant.tenants ∙ c.in-Some.ensures.items) (sym c.loop-experiment.invariant.dossiers ∙ c.in-Some-next.ensures.items) strange.0 strange.1 in
    search (rules, not)

pub loop-experiment-preserved : goal.loop-experiment-preserved
loop-experiment-preserved c =
    let i = c.loop-experiment.invariant in
    let k = c.loop-experiment.experiment-index in
    let tenant = c.in-Some.ensures in
    let dossier = c.in-Some-next.ensures in
    record {
      tenants = rw add-one (sym (here c.args.tenants.items k c.in-Some.tenant (into_iter_items c.next.new.self) (sym i.tenants ∙ tenant.items)).after);
      tenants_len = omega (arith, i.tenants_len, tenant.len, ap length tenant.items);
      dossiers = rw add-one (sym (here c.args.dossiers.items k c.in-Some-next.dossier (into_iter_items c.next-in-loop-experiment.new.self) (sym i.dossiers ∙ dossier.items)).after);
      dossiers_len = omega (arith, i.dossiers_len, dossier.len, ap length dossier.items);
      made = collects k c.args.scenario.now c.experiment-item.result c.loop-experiment.all.items c.in_ok-settle_one.field-0 c.push_reserved.new.self.items c.loop-experiment-test.true c.experiment-item.is i.made c.in_ok-settle_one.ensures.ok c.push_reserved.ensures.items;
      count = omega (arith, i.count, ap length c.push_reserved.ensures.items);
      room = omega (arith, i.room, c.push_reserved.ensures.capacity);
    }
