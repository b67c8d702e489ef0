use Rattle.std.proofs.Common.{◌≡◌, ◌++◌, refl, sym, ◌∙◌, ap, subst}
use Rattle.std.specs.Prelude.{option_to_list}
use Rattle.std.specs.List.{best_of, flat_map}
use Rattle.emu_model.specs.Net.{Net, initial_net}
use Rattle.emu_model.specs.Dues.{is_before, train_dues}
use Rattle.due_index.specs.Least.{least_of}
use Rattle.sources.specs.Kept.{with_traffic}
use Rattle.sources.specs.Leaves.{AreIndexed}
use Rattle.sources.specs.Sends.{IsAllowed, IsNumbered, source_dues}
use Rattle.sources.proofs.DueFacts.{kept_dues, dues_are, allowed_is, numbered_is, least_has, least_moment}
use Rattle.sources.proofs.sources.Traffic.next_due.Goals as goal

least : (c : goal.After-next_due) (n : Net) →
    c.next_due.result ≡ least_of (option_to_list c.args.best ++ source_dues c.args.clock (with_traffic c.args.self.now n))
least c n =
    let clock = c.args.clock in
    let fs = c.self.inside.flows.items in
    let ts = c.self.inside.trains.items in
    let before = option_to_list c.args.best in
    let index = c.self.inside.index in
    let value = c.deref.ensures.value in
    c.next_due.ensures.least ts (subst (λ fs. AreIndexed fs ts index) (sym value) c.self.invariant.1)
    ∙ ap (λ fs. least_of (before ++ (flat_map (kept_dues clock) fs ++ flat_map train_dues ts))) value
    ∙ ap (λ ds. least_of (before ++ ds)) (dues_are clock c.args.self.now fs ts c.self.view_is n)

pub returns-clause-least : goal.returns-clause-least
returns-clause-least c = least c

pub returns-clause-moment : goal.returns-clause-moment
returns-clause-moment c =
    least_moment c.args.best c.next_due.result (source_dues c.args.clock (with_traffic c.args.self.now initial_net))
    (least c initial_net)

pub returns-clause-allowed : goal.returns-clause-allowed
returns-clause-allowed c =
    let clock = c.args.clock in
    let t = c.args.self.now in
    let ds = source_dues clock (with_traffic t initial_net) in
    least_has (IsAllowed t) (IsAllowed t) c.args.best c.next_due.result ds (least c initial_net)
    (λ b. allowed_is clock t c.self.inside.flows.items c.self.inside.trains.items c.self.view_is b (best_of is_before b ds)
    c.self.invariant.0 (λ n. refl))

pub returns-clause-numbered : goal.returns-clause-numbered
returns-clause-numbered c =
    let clock = c.args.clock in
    let t = c.args.self.now in
    let ds = source_dues clock (with_traffic t initial_net) in
    least_has IsNumbered IsNumbered c.args.best c.next_due.result ds (least c initial_net)
    (λ b. numbered_is clock t c.self.inside.flows.items c.self.inside.trains.items c.self.view_is b (best_of is_before b ds)
    c.self.invariant.0 (λ n. refl))
