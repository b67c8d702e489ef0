use Rattle.std.proofs.Common.{◌≡◌, ℕ, ◌++◌, ◌∷◌, [], subst, sym, ap, ◌∙◌, Some, List, arith}
use Rattle.std.specs.Prelude.{◌-◌, vec_len, vec_capacity}
use Rattle.emu_model.specs.declared.commands.Timed.{Timed}
use Rattle.experiment.specs.Kept.{KeptExperiment, IsSound}
use Rattle.experiment.proofs.ApplyFacts.{is_none, sound-apply}
use Rattle.experiment.proofs.experiment.Experiment.apply.Goals as goal

pub invariant_of-self-2 : goal.invariant_of-self-2
invariant_of-self-2 c =
    let s = c.self.inside in
    let e : KeptExperiment = record {
      spec = s.spec;
      net = s.net;
      next = s.next;
      consumed = s.consumed.items;
      taken = s.taken;
      clock = s.clock;
      steps = s.steps;
      ending = s.ending;
      noted = s.noted.items;
      spare = vec_capacity s.consumed - vec_len s.consumed;
    } in
    let items : c.push_reserved.new.self.items ≡ s.consumed.items ++ c.args.command.now ∷ [] =
    c.push_reserved.ensures.items ∙ ap (λ l. l ++ c.args.command.now ∷ []) c.reserve.ensures.items in
    let spare : ℕ = vec_capacity c.push_reserved.new.self - vec_len c.push_reserved.new.self in
    subst (λ (l : List Timed). IsSound (record e { next = Some c.args.command.now; consumed = l; spare = spare }) c.args.command.now.moment s.held) (sym items)
    (sound-apply e s.latest s.held spare c.args.command.now c.self.invariant (is_none s.next (sym c.is_some-2.ensures ∙ c.if-is_some-2.false)) c.requires c.command_in_range.ensures (omega arith))
