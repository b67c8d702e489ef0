use Rattle.std.proofs.Common.{◌≡◌, ◌++◌, sym, ◌∙◌, ap, subst}
use Rattle.std.specs.Prelude.{Some, option_to_list}
use Rattle.std.specs.List.{best_of, flat_map}
use Rattle.std.proofs.lemmas.Option.{same_Some}
use Rattle.emu_model.specs.Net.{Net}
use Rattle.emu_model.specs.Dues.{is_before, train_dues}
use Rattle.due_index.specs.Least.{least_of}
use Rattle.sources.specs.Kept.{with_traffic}
use Rattle.sources.specs.Leaves.{AreIndexed}
use Rattle.sources.specs.Sends.{source_dues}
use Rattle.sources.proofs.DueFacts.{kept_dues, dues_are, moment_is, allowed_is, numbered_is}
use Rattle.sources.proofs.sources.Traffic.earliest.Goals as goal

pub returns : goal.returns
returns c =
    let clock = c.args.clock in
    let t = c.args.self.now in
    let fs = c.self.inside.flows.items in
    let ts = c.self.inside.trains.items in
    let index = c.self.inside.index in
    let b = c.args.best in
    let d = c.some.result in
    let value = c.deref.ensures.value in
    let e : (n : Net) → d ≡ best_of is_before b (source_dues clock (with_traffic t n)) =
    λ n. same_Some _ _ (sym c.some.ensures
    ∙ c.earliest-least.ensures ts (subst (λ fs. AreIndexed fs ts index) (sym value) c.self.invariant.1)
    ∙ ap (λ fs. least_of (option_to_list c.at-first.result ++ (flat_map (kept_dues clock) fs ++ flat_map train_dues ts))) value
    ∙ ap (λ o. least_of (option_to_list o ++ (flat_map (kept_dues clock) fs ++ flat_map train_dues ts))) c.at-first.ensures
    ∙ ap (λ ds. Some (best_of is_before b ds)) (dues_are clock t fs ts c.self.view_is n)) in
    record {
      least = e;
      moment = moment_is clock t fs ts c.self.view_is b d e;
      allowed = allowed_is clock t fs ts c.self.view_is b d c.self.invariant.0 e;
      numbered = numbered_is clock t fs ts c.self.view_is b d c.self.invariant.0 e;
    }
