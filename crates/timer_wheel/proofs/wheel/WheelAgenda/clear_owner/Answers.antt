use Rattle.std.proofs.lemmas.Bool.{cases_eq}
use Rattle.std.proofs.Common.{◌≡◌, inl, inr, Some, None, sym, ap, ◌∙◌}
use Rattle.timer_wheel.specs.Stocks.{due_of}
use Rattle.timer_wheel.proofs.WheelFacts.{fewer_wheel}
use Rattle.timer_wheel.proofs.wheel.WheelAgenda.clear_owner.Goals as goal

pub invariant_of-self : goal.invariant_of-self
invariant_of-self c = fewer_wheel c.self.inside.clock c.self.inside.stock c.remove_owner.new.self c.remove_owner.ensures.holds
    (λ o s d h. elim (cases_eq o c.args.owner) [
      | inl same ↦ let bad : None ≡ Some d = sym (ap (λ x. due_of c.remove_owner.new.self x s) same ∙ c.remove_owner.ensures.none s) ∙ h in cc
      | inr ne ↦ sym (c.remove_owner.ensures.others o s ne) ∙ h
    ]) c.self.inside.ties c.self.invariant
