use Rattle.std.specs.Prelude.{is_some, option_map, slice_get, None}
use Rattle.std.proofs.Common.{◌≡◌, List, length, ◌∷◌, ◌++◌, [], sym, ap, ◌∙◌, subst}
use Rattle.packet_store.specs.Own.{own_pocket}
use Rattle.experiment.specs.Kept.{KeptExperiment}
use Rattle.emu_model.specs.declared.commands.Command.{Command}
use Rattle.emu_model.specs.declared.records.Record.{Record}
use Rattle.experiment.specs.Kept.{view, IsHousedIn}
use Rattle.session.specs.Fates.{MarkedBy, refusal_in, taken_by}
use Rattle.emu_model.specs.Step.{State, step}
use Rattle.emu_model.specs.RunLaws.{with_more}
use Rattle.session.specs.Runs.{KeptRun, IsAt, state_of, made_of}
use Rattle.session.specs.contracts.run.Run.{the_view}
use Rattle.session.proofs.RunFacts.{takes-all, applied-is, comes-next, read-at}
use Rattle.session.proofs.run.Run.take.Goals as goal

pub returns-clause-takes : goal.returns-clause-takes
returns-clause-takes c =
    let before : KeptRun = the_view c.self.inside in
    let after : KeptRun = record before { experiment = c.obey.new.experiment; shelf = c.obey.new.shelf; mine = c.mark_injected.new.mine } in
    takes-all c.waits_begin.ensures c.args.command.now c.args.self.now after
    (c.in_ok-obey.ensures.spec ∙ ap (λ (e : KeptExperiment). e.spec) c.in-Ok.ensures.ok ∙ ap (λ (r : KeptRun). r.experiment.spec) c.self.view_is)
    (c.in_ok-obey.ensures.consumed ∙ ap (λ (e : KeptExperiment). e.consumed) c.in-Ok.ensures.ok ∙ ap (λ (r : KeptRun). r.experiment.consumed ++ c.args.command.now ∷ []) c.self.view_is)
    (ap (λ (r : KeptRun). r.shows_all) c.self.view_is)
    (ap (λ (r : KeptRun). r.report) c.self.view_is)
    (λ t earlier now up.
    let at : IsAt t earlier before = subst (IsAt t earlier) (sym c.self.view_is) now in
    record {
      housed = c.in_ok-obey.ensures.housed;
      counts = at.counts;
      proper = c.in_ok-obey.ensures.proper;
      alone = c.in_ok-obey.ensures.after earlier (c.in-Ok.ensures.waited t earlier (own_pocket before.shelf) up at.waits);
    })
    c.in_ok-obey.ensures.done

pub returns-clause-steps : goal.returns-clause-steps
returns-clause-steps c quiet =
    let before : KeptRun = the_view c.self.inside in
    let command = c.args.command.now in
    let at = c.requires.at in
    let ready : KeptExperiment = c.apply.new.self in
    let none : before.experiment.next ≡ None = ap (λ (r : KeptRun). r.experiment.next) c.self.view_is ∙ at.2.waits.none in
    let given : view (own_pocket before.shelf) ready ≡ with_more (command ∷ []) (state_of c.args.self.now) =
    applied-is (own_pocket before.shelf) before.experiment ready command none c.in-Ok.ensures.ok
    ∙ ap (λ (r : KeptRun). with_more (command ∷ []) (state_of r)) c.self.view_is in
    let left : (step (view (own_pocket before.shelf) ready)).left ≡ [] =
    ap (λ (s : State). (step s).left) given
    ∙ comes-next c.commands_go_on.ensures c.records_are_not_read.ensures at.0 at.1 c.args.self.now command at.2 c.requires.going at.3 quiet in
    c.in_ok-obey.ensures.once
    (ap (λ (e : KeptExperiment). e.ending) c.in-Ok.ensures.ok ∙ ap (λ (r : KeptRun). r.experiment.ending) c.self.view_is ∙ c.requires.going)
    (ap (λ (e : KeptExperiment). is_some e.next) c.in-Ok.ensures.ok) left
    ∙ ap step given

pub returns-clause-marked : goal.returns-clause-marked
returns-clause-marked c =
    let before : KeptRun = the_view c.self.inside in
    let command : Command = c.args.command.now.command in
    let housed : IsHousedIn (own_pocket before.shelf) before.experiment =
    subst (λ (r : KeptRun). IsHousedIn (own_pocket r.shelf) r.experiment) (sym c.self.view_is) c.requires.at.2.housed in
    let made : c.made_count-number.result ≡ made_of before = c.made_count-number.ensures (own_pocket before.shelf) housed in
    subst (λ (r : KeptRun). MarkedBy command (made_of r) r.mine c.mark_injected.new.mine) c.self.view_is
    (subst (λ n. MarkedBy command n before.mine c.mark_injected.new.mine) made c.in_ok-mark_injected.ensures)

pub returns-clause-taken : goal.returns-clause-taken
returns-clause-taken c =
    let before : KeptRun = the_view c.self.inside in
    let command : Command = c.args.command.now.command in
    let housed : IsHousedIn (own_pocket before.shelf) before.experiment =
    subst (λ (r : KeptRun). IsHousedIn (own_pocket r.shelf) r.experiment) (sym c.self.view_is) c.requires.at.2.housed in
    let made : c.made_count-number.result ≡ made_of c.args.self.now = c.made_count-number.ensures (own_pocket before.shelf) housed ∙ ap made_of c.self.view_is in
    let records : List Record = c.obey.new.experiment.net.log.records in
    let seen : length c.records-seen.result.now ≡ length c.args.self.now.experiment.net.log.records =
    ap length (c.records-seen.ensures ∙ ap (λ (r : KeptRun). r.experiment.net.log.records) c.self.view_is) in
    c.taken_by.ensures
    ∙ ap (λ n. taken_by command n (refusal_in (option_map (λ r. r.now) c.get.result))) made
    ∙ ap (λ o. taken_by command (made_of c.args.self.now) (refusal_in o))
    (read-at (λ r. r.now) c.get.result c.records.result.now (length c.records-seen.result.now) c.get.ensures.lookup.0 c.get.ensures.lookup.1
    ∙ ap (λ (l : List Record). slice_get l (length c.records-seen.result.now)) c.records.ensures ∙ ap (λ n. slice_get records n) seen)
