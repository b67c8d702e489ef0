use Rattle.std.proofs.Common.{◌≡◌, Bool, ℕ, ◌+◌, ◌≤◌, ◌<◌, max, sym, ap, ◌∙◌, subst, refl, arith}
use Rattle.std.specs.Prelude.{Result, IfOk}
use Rattle.std.specs.declared.alloc.AllocError.{AllocError}
use Rattle.experiment.specs.declared.experiment.Event.{Event}
use Rattle.packet_store.specs.Own.{own_pocket}
use Rattle.experiment.specs.Moves.{IsPast, Passes}
use Rattle.session.specs.Runs.{KeptRun, Goes, IsQuietAfter}
use Rattle.session.specs.contracts.run.Run.{the_view}
use Rattle.session.proofs.RunFacts.{IsNoHalt, goes-event, proper-passed, quiet-still, quiet-ended}
use Rattle.std.proofs.Common.{List, inr, true, false}
use Rattle.emu_model.specs.declared.records.Record.{Record}
use Rattle.experiment.specs.Kept.{shown_ending}
use Rattle.experiment.specs.Moves.{IsPassed}
use Rattle.session.specs.Runs.{IsAt}
use Rattle.session.specs.Stops.{IsMade, IsEvent}
use Rattle.session.proofs.StopFacts.{made-by, event-still}
use Rattle.session.proofs.run.Run.next_before.Goals as goal
use Rattle.session.proofs.run.Run.next_before.Goals.{in-Halted, in-Still, in-Ran, in-Ended}

pub returns-clause-goes : goal.returns-clause-goes
returns-clause-goes c =
    let before : KeptRun = the_view c.self.inside in
    let after : KeptRun = record before { experiment = c.event_before-event.new.self; shelf = c.event_before-event.new.shelf } in
    let made = c.event_before-event.ensures in
    let went : (v : ℕ) → c.args.reached ≤ v → v ≤ c.args.limit → IsPast c.event_before-event.result c.event_before-event.new.self.clock v →
    IsNoHalt c.event_before-event.result →
    (t : ℕ) (was : KeptRun) → Goes t c.args.reached was c.args.self.now → Goes t v was after =
    λ v up within past well t was g.
    goes-event t c.args.reached v was before after (subst (λ (r : KeptRun). Goes t c.args.reached was r) (sym c.self.view_is) g) up
    refl refl refl made.spec made.consumed made.housed
    (λ h. proper-passed c.args.limit c.event_before-event.result _ _ before.experiment after.experiment well made.passes made.steps h)
    (λ earlier w. made.waits c.args.reached v earlier up within past w) in
    let says : Result (Bool × ℕ) AllocError → Type 0 =
    λ x. IfOk x (λ r. (t : ℕ) (was : KeptRun) → Goes t c.args.reached was c.args.self.now → Goes t r.1 was after) in
    elim c.match-event.branch [
      | in-Halted w ↦ subst says (sym w.result-is) tt
      | in-Still w ↦ subst says (sym w.result-is) (went c.args.limit c.requires.on (omega arith) made.past (subst IsNoHalt (sym w.in-Still.is) tt))
      | in-Ran w ↦
          let past : c.event_before-event.new.self.clock < c.args.limit = subst (λ e. IsPast e c.event_before-event.new.self.clock c.args.limit) w.in-Ran.is made.past in
          let now : w.max.result ≡ max c.args.reached (c.event_before-event.new.self.clock + 1) = w.max.ensures ∙ ap (λ n. max c.args.reached (n + 1)) w.clock.ensures in
          subst says (sym w.result-is) (went w.max.result (omega (arith, now)) (omega (arith, now, past, c.requires.on))
          (subst (λ e. IsPast e c.event_before-event.new.self.clock w.max.result) (sym w.in-Ran.is) (omega (arith, now))) (subst IsNoHalt (sym w.in-Ran.is) tt))
      | in-Ended w ↦
          let past : c.event_before-event.new.self.clock < c.args.limit = subst (λ e. IsPast e c.event_before-event.new.self.clock c.args.limit) w.in-Ended.is made.past in
          let now : w.max-in-Ended.result ≡ max c.args.reached (c.event_before-event.new.self.clock + 1) = w.max-in-Ended.ensures ∙ ap (λ n. max c.args.reached (n + 1)) w.clock-in-Ended.ensures in
          subst says (sym w.result-is) (went w.max-in-Ended.result (omega (arith, now)) (omega (arith, now, past, c.requires.on))
          (subst (λ e. IsPast e c.event_before-event.new.self.clock w.max-in-Ended.result) (sym w.in-Ended.is) (omega (arith, now))) (subst IsNoHalt (sym w.in-Ended.is) tt))
    ]

pub returns-clause-quiet : goal.returns-clause-quiet
returns-clause-quiet c =
    let before : KeptRun = the_view c.self.inside in
    let after : KeptRun = record before { experiment = c.event_before-event.new.self; shelf = c.event_before-event.new.shelf } in
    let made = c.event_before-event.ensures.passes in
    let passes : Event → Type 0 = λ e. Passes c.args.limit e (own_pocket before.shelf) before.experiment (own_pocket after.shelf) after.experiment in
    let says : Result (Bool × ℕ) AllocError → Type 0 = λ x. IfOk x (λ r. IsQuietAfter c.args.limit r after) in
    elim c.match-event.branch [
      | in-Halted w ↦ subst says (sym w.result-is) tt
      | in-Still w ↦ subst says (sym w.result-is) (quiet-still c.args.limit c.args.limit after (own_pocket before.shelf) before.experiment refl (subst passes w.in-Still.is made))
      | in-Ran w ↦ subst says (sym w.result-is) tt
      | in-Ended w ↦ subst says (sym w.result-is) (quiet-ended c.args.limit w.max-in-Ended.result after (own_pocket before.shelf) before.experiment (subst passes w.in-Ended.is made))
    ]

pub returns-clause-event : goal.returns-clause-event
returns-clause-event c =
    let before : KeptRun = the_view c.self.inside in
    let after : KeptRun = record before { experiment = c.event_before-event.new.self; shelf = c.event_before-event.new.shelf } in
    let at = subst (λ (r : KeptRun). (earlier : List Record) × IsAt c.args.reached earlier r) (sym c.self.view_is) c.requires.at in
    let made = c.event_before-event.ensures.passes in
    let passes : Event → Type 0 = λ e. Passes c.args.limit e (own_pocket before.shelf) before.experiment (own_pocket after.shelf) after.experiment in
    let event : (v : ℕ) → IsPassed c.args.limit (own_pocket before.shelf) before.experiment (own_pocket after.shelf) after.experiment → IsMade c.args.limit before after =
    λ v p. made-by c.waits_read_no_records.ensures c.args.limit before after at.1.waits.none p refl refl refl in
    let moment : (m k : ℕ) → m ≡ max c.args.reached (k + 1) → k ≡ after.experiment.clock → m ≡ max c.args.reached (after.experiment.clock + 1) =
    λ m k is clock. is ∙ ap (λ n. max c.args.reached (n + 1)) clock in
    let turned : (r : Bool × ℕ) → IsEvent c.args.reached c.args.limit r before after → IsEvent c.args.reached c.args.limit r c.args.self.now after =
    λ r. subst (λ (q : KeptRun). IsEvent c.args.reached c.args.limit r q after) c.self.view_is in
    let says : Result (Bool × ℕ) AllocError → Type 0 = λ x. IfOk x (λ r. IsEvent c.args.reached c.args.limit r c.args.self.now after) in
    elim c.match-event.branch [
      | in-Halted w ↦ subst says (sym w.result-is) tt
      | in-Still w ↦ subst says (sym w.result-is) (turned (false, c.args.limit) (event-still c.args.reached c.args.limit c.args.limit before after at.1.proper refl refl (subst passes w.in-Still.is made)))
      | in-Ran w ↦ let p = subst passes w.in-Ran.is made in
          subst says (sym w.result-is) (turned (true, w.max.result) (event 0 p.0, ap shown_ending p.1, moment w.max.result w.clock.result w.max.ensures w.clock.ensures))
      | in-Ended w ↦ let p = subst passes w.in-Ended.is made in
          subst says (sym w.result-is) (turned (false, w.max-in-Ended.result) (inr (event 0 p.0, p.1, moment w.max-in-Ended.result w.clock-in-Ended.result w.max-in-Ended.ensures w.clock-in-Ended.ensures)))
    ]
