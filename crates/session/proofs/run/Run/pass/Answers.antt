use Rattle.std.proofs.Common.{◌≡◌, min, ◌+◌, ◌^◌, ◌-◌, ap, List, length, sym, ◌∙◌, refl, drop, subst, arith}
use Rattle.emu_model.specs.declared.records.Record.{Record}
use Rattle.session.specs.Runs.{KeptRun, IsQuietAfter}
use Rattle.session.proofs.RunFacts.{can_write_at, goes-nowhere, stands, quiet-at, no-hold}
use Rattle.session.specs.declared.fates.Stop.TheVariants.{Moment}
use Rattle.session.specs.Stops.{Way, way_of, IsEvent}
use Rattle.session.proofs.StopFacts.{leads-none, leads-kept, leads-event, leads-end, event-goes, way-held, way-free, held-seen, held-last}
use Rattle.session.proofs.run.Run.pass.Goals as goal

pub loop-self-init : goal.loop-self-init
loop-self-init c = record {
  goes = goes-nowhere c.args.from c.args.self.now;
  since = omega arith;
  on = c.requires.on;
  within = omega arith;
  leads = λ earlier. leads-none (way_of c.args.self.now.mine c.args.stop c.args.from c.args.limit) c.args.self.now earlier;
  whole = λ moment. (moment, refl);
}

pub write_batch-requires : goal.write_batch-requires
write_batch-requires c =
    let at = stands c.args.from c.loop-self.reached c.args.self.now c.loop-self.self c.requires.at c.loop-self.invariant.goes in
    can_write_at c.packets_add_up.ensures c.loop-self.reached at.0 c.loop-self.self at.1

pub next_before-requires-clause-at : goal.next_before-requires-clause-at
next_before-requires-clause-at c =
    stands c.args.from c.loop-self.reached c.args.self.now c.write_batch.new.self c.requires.at
    (c.in_ok-write_batch.ensures.goes c.args.from c.loop-self.reached c.args.self.now c.loop-self.invariant.goes)

pub loop-self-preserved : goal.loop-self-preserved
loop-self-preserved c =
    let inv = c.loop-self.invariant in
    let made = c.in_ok-goes_on.ensures in
    record {
      goes = made.goes c.args.from c.args.self.now (c.in_ok-write_batch.ensures.goes c.args.from c.loop-self.reached c.args.self.now inv.goes);
      since = omega (arith, inv.since, made.between.0);
      on = omega (arith, made.between.1, c.min-last.ensures, c.max.ensures);
      within = omega (arith, inv.within, c.min-last.ensures);
      leads = λ earlier.
          let v = way_of c.args.self.now.mine c.args.stop c.args.from c.args.limit in
          let was : Way = way_of c.loop-self.self.mine c.loop-self.until c.loop-self.reached c.loop-self.last in
          let kept : KeptRun = c.write_batch.new.self in
          let made : KeptRun = c.next_before.new.self in
          let event = event-goes c.loop-self.reached c.loop-self.last c.in_ok-goes_on.now c.in_ok-goes_on.goes_on kept made c.if-not-goes_on.false c.in_ok-goes_on.ensures.event in
          let seen : c.records-seen.result.now ≡ kept.experiment.net.log.records = c.records-seen.ensures ∙ ap (λ (r : KeptRun). r.experiment.net.log.records) c.self.view_is in
          let ready = leads-kept v c.args.self.now was c.loop-self.self kept earlier (inv.leads earlier) c.in_ok-write_batch.ensures.keeps in
          leads-event v c.args.self.now was (way_of made.mine Moment c.in_ok-goes_on.now c.min-last.result) kept made earlier ready event.0 event.1
          (way-held c.loop-self.self made c.loop-self.until c.loop-self.reached c.loop-self.last c.in_ok-goes_on.now c.in-Some.hold c.min-last.result _ (event.0.mine ∙ c.in_ok-write_batch.ensures.keeps.mine)
          (held-seen c.loop-self.self.mine made.mine c.loop-self.until kept.experiment.net.log.records c.records-seen.result.now made.experiment.net.log.records seen
          (event.0.mine ∙ c.in_ok-write_batch.ensures.keeps.mine) ∙ sym c.hold_since.ensures ∙ c.in-Some.is) event.2
          (held-last c.loop-self.last c.in_ok-goes_on.now made.experiment.clock c.in-Some.hold c.saturating_add-after.result (2 ^ 64 - 1) c.min-last.result
          (c.saturating_add-after.ensures ∙ ap (λ n. min (n + c.in-Some.hold) (2 ^ 64 - 1)) (c.clock.ensures ∙ ap (λ (r : KeptRun). r.experiment.clock) c.self-in-loop-self.view_is)) (omega (arith, inv.within, c.requires.early)) (let max_is = c.max.ensures in let min_is = c.min-last.ensures in omega (arith, max_is, min_is))));
      whole = λ moment.
          let now : KeptRun = c.next_before.new.self in
          let fresh : List Record = drop (length c.records-seen.result.now) now.experiment.net.log.records in
          absurd (no-hold now.mine fresh c.loop-self.until c.in-Some.hold (inv.whole moment).0 (sym c.in-Some.is ∙ c.hold_since.ensures));
    }

pub loop-self-preserved-in-None : goal.loop-self-preserved-in-None
loop-self-preserved-in-None c =
    let inv = c.loop-self.invariant in
    let made = c.in_ok-goes_on.ensures in
    record {
      goes = made.goes c.args.from c.args.self.now (c.in_ok-write_batch.ensures.goes c.args.from c.loop-self.reached c.args.self.now inv.goes);
      since = omega (arith, inv.since, made.between.0);
      on = made.between.1;
      within = inv.within;
      leads = λ earlier.
          let v = way_of c.args.self.now.mine c.args.stop c.args.from c.args.limit in
          let was : Way = way_of c.loop-self.self.mine c.loop-self.until c.loop-self.reached c.loop-self.last in
          let kept : KeptRun = c.write_batch.new.self in
          let made : KeptRun = c.next_before.new.self in
          let event = event-goes c.loop-self.reached c.loop-self.last c.in_ok-goes_on.now c.in_ok-goes_on.goes_on kept made c.if-not-goes_on.false c.in_ok-goes_on.ensures.event in
          let seen : c.records-seen.result.now ≡ kept.experiment.net.log.records = c.records-seen.ensures ∙ ap (λ (r : KeptRun). r.experiment.net.log.records) c.self.view_is in
          let ready = leads-kept v c.args.self.now was c.loop-self.self kept earlier (inv.leads earlier) c.in_ok-write_batch.ensures.keeps in
          leads-event v c.args.self.now was (way_of made.mine c.loop-self.until c.in_ok-goes_on.now c.loop-self.last) kept made earlier ready event.0 event.1
          (way-free c.loop-self.self made c.loop-self.until c.loop-self.reached c.loop-self.last c.in_ok-goes_on.now _ (event.0.mine ∙ c.in_ok-write_batch.ensures.keeps.mine)
          (held-seen c.loop-self.self.mine made.mine c.loop-self.until kept.experiment.net.log.records c.records-seen.result.now made.experiment.net.log.records seen
          (event.0.mine ∙ c.in_ok-write_batch.ensures.keeps.mine) ∙ sym c.hold_since.ensures ∙ c.in-None.is) event.2);
      whole = inv.whole;
    }

pub returns-then-not-goes_on-clause-between : goal.returns-then-not-goes_on-clause-between
returns-then-not-goes_on-clause-between c =
    let inv = c.loop-self.invariant in
    let made = c.in_ok-goes_on.ensures in
    (omega (arith, inv.since, made.between.0), omega (arith, made.between.1, inv.within))

pub returns-then-not-goes_on-clause-goes : goal.returns-then-not-goes_on-clause-goes
returns-then-not-goes_on-clause-goes c =
    c.in_ok-goes_on.ensures.goes c.args.from c.args.self.now
    (c.in_ok-write_batch.ensures.goes c.args.from c.loop-self.reached c.args.self.now c.loop-self.invariant.goes)

pub returns-then-not-goes_on-clause-quiet : goal.returns-then-not-goes_on-clause-quiet
returns-then-not-goes_on-clause-quiet c none =
    (quiet-at c.loop-self.last c.in_ok-goes_on.now c.next_before.new.self
    (subst (λ b. IsQuietAfter c.loop-self.last (b, c.in_ok-goes_on.now) c.next_before.new.self) c.if-not-goes_on.true c.in_ok-goes_on.ensures.quiet) none).1

pub returns-then-not-goes_on-clause-whole : goal.returns-then-not-goes_on-clause-whole
returns-then-not-goes_on-clause-whole c none moment =
    (quiet-at c.loop-self.last c.in_ok-goes_on.now c.next_before.new.self
    (subst (λ b. IsQuietAfter c.loop-self.last (b, c.in_ok-goes_on.now) c.next_before.new.self) c.if-not-goes_on.true c.in_ok-goes_on.ensures.quiet) none).0
    ∙ (c.loop-self.invariant.whole moment).1

pub returns-then-not-goes_on-clause-stops : goal.returns-then-not-goes_on-clause-stops
returns-then-not-goes_on-clause-stops c earlier =
    let v = way_of c.args.self.now.mine c.args.stop c.args.from c.args.limit in
    let was : Way = way_of c.loop-self.self.mine c.loop-self.until c.loop-self.reached c.loop-self.last in
    leads-end v c.args.self.now was c.write_batch.new.self c.next_before.new.self earlier c.in_ok-goes_on.now
    (leads-kept v c.args.self.now was c.loop-self.self c.write_batch.new.self earlier (c.loop-self.invariant.leads earlier) c.in_ok-write_batch.ensures.keeps)
    (subst (λ b. IsEvent c.loop-self.reached c.loop-self.last (b, c.in_ok-goes_on.now) c.write_batch.new.self c.next_before.new.self) c.if-not-goes_on.true c.in_ok-goes_on.ensures.event)
