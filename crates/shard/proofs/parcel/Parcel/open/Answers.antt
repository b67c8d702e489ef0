use Rattle.std.proofs.Common.{◌≡◌, ◌≤◌, [], sym, ap, ◌∙◌, subst, arith}
use Rattle.emu_model.specs.declared.commands.Spec.{Spec}
use Rattle.packet_store.specs.Pocket.{Pocket}
use Rattle.packet_store.specs.Own.{own_pocket}
use Rattle.experiment.specs.Kept.{KeptExperiment, IsHousedIn}
use Rattle.shard.specs.Bodies.{Moved}
use Rattle.shard.specs.Kept.{IsGoing, stand_of}
use Rattle.shard.specs.Stand.{heard_from}
use Rattle.shard.proofs.parcel.Parcel.open.Goals as goal

pub invariant_of-result : goal.invariant_of-result
invariant_of-result g c =
    let e : KeptExperiment = c.in-Ok.experiment in
    let new = c.in-Ok.ensures in
    let shelf = own_pocket c.new-in-Ok-new.result in
    let packets : c.spec-packets.result.budget.packets ≡ e.spec.budget.packets = ap (λ (s : Spec). s.budget.packets) c.spec-packets.ensures in
    let given : c.args.spec.budget.packets ≡ e.spec.budget.packets = ap (λ (s : Spec). s.budget.packets) (sym new.spec_is) in
    let own = c.new-in-Ok-new.ensures.own in
    subst (λ (b : Moved _). IsGoing g.M.Mail.seen shelf b.experiment b.published b.mail) (sym (c.in-Ok-new.ensures.ok ∙ c.new.ensures))
    (record {
      kept = record {
        housed = subst (λ (p : Pocket). IsHousedIn p e) (sym own) (new.housed c.spec-packets.result.budget.packets (omega (arith, packets, given)));
        budget = ap (λ (p : Pocket). p.budget) own ∙ packets;
        some = omega (arith, packets, c.get-packets.ensures.value, c.get-packets.ensures.low);
        alone = new.alone shelf;
        told = c.requires.letters;
        short = omega arith;
        heard = new.consumed ∙ ap (heard_from []) (sym c.requires.given);
        few = subst (λ s. s ≤ e.spec.budget.steps) (sym new.steps) (omega arith);
      };
      going = new.going;
    })

pub returns-in-Ok-new : goal.returns-in-Ok-new
returns-in-Ok-new g c =
    let new = c.in-Ok.ensures in
    let shelf = own_pocket c.new-in-Ok-new.result in
    ap (λ (b : Moved _). stand_of shelf b.name b.experiment b.published b.mail) (c.in-Ok-new.ensures.ok ∙ c.new.ensures)
    ∙ (λ i. record {
      name = c.args.name;
      spec = new.spec_is i;
      consumed = new.consumed i;
      state = new.shown shelf i;
      published = 0;
      mail = c.args.mail;
    })
