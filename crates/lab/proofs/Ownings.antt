-- What a tenant's own dossier says of its experiment.
use Rattle.std.proofs.Common.{◌≡◌, ◌≢◌, ◌≤◌, List, ◌++◌, length, take, drop, Some, IsSome, refl, sym, ap, subst, ◌∙◌}
use Rattle.std.proofs.lemmas.List.{take-append-drop, append_assoc}
use Rattle.std.proofs.Math.Seq.{take-append_seam, take-length}
use Rattle.emu_model.specs.declared.commands.Spec.{Spec}
use Rattle.emu_model.specs.declared.commands.Timed.{Timed}
use Rattle.emu_model.specs.declared.records.Ending.{Ending}
use Rattle.emu_model.specs.declared.records.Ending.TheVariants.{Ended, Spent, Halted}
use Rattle.emu_model.specs.Net.{counters_of}
use Rattle.emu_model.specs.Alone.{alone, trace_of}
use Rattle.emu_model.specs.RunLaws.{TakesSteps, LaterCommandsWait}
use Rattle.experiment.specs.Kept.{shown_ending}
use Rattle.control.specs.declared.scenario.Experiment.{Experiment}
use Rattle.shard.specs.Stand.{Final}
use Rattle.bench.specs.declared.mail.RingMail.{RingMail}
use Rattle.bench.specs.declared.tenant.Tenant.{Tenant}
use Rattle.bench.specs.Commands.{BeginsWith, Took}
use Rattle.bench.specs.Tenants.{posted, Fits}
use Rattle.bench.specs.Outcomes.{Settled, settled}
use Rattle.alone.specs.Reports.{trace_alone}
use Rattle.lab.specs.Serving.{Serves}
use Rattle.alone.proofs.Settled.{ended_alone}

begins_again : (all middle first : List Timed) → BeginsWith all middle → BeginsWith middle first → BeginsWith all first
begins_again all middle first a b =
    let inner : middle ≡ first ++ drop (length first) middle
    = sym (take-append-drop (length first) middle) ∙ ap (λ (l : List Timed). l ++ drop (length first) middle) b in
    let outer : all ≡ middle ++ drop (length middle) all
    = sym (take-append-drop (length middle) all) ∙ ap (λ (l : List Timed). l ++ drop (length middle) all) a in
    let whole : all ≡ first ++ (drop (length first) middle ++ drop (length middle) all)
    = outer ∙ ap (λ (l : List Timed). l ++ drop (length middle) all) inner
    ∙ append_assoc first (drop (length first) middle) (drop (length middle) all) in
    ap (take (length first)) whole ∙ take-append_seam first (drop (length first) middle ++ drop (length middle) all)

begins_posted : (ending : Ending) (posted commands : List Timed) → Took ending posted commands → BeginsWith posted commands
begins_posted Ended posted commands took = subst (λ (l : List Timed). take (length l) posted ≡ l) (sym took) (take-length posted)
begins_posted Spent posted commands took = took
begins_posted Halted posted commands took = took

-- what an outcome keeps
pub record IsTraced (o : Settled) : Type 0 where
  pub records : o.records ≡ (alone o.spec o.commands o.events).net.records
  pub counters : o.counters ≡ counters_of (alone o.spec o.commands o.events).net
  pub ending : shown_ending (Some o.ending) ≡ (alone o.spec o.commands o.events).ending
  pub few : o.events ≤ o.spec.budget.steps
  pub made : TakesSteps o.spec o.commands o.events

-- it leaves what its experiment leaves by itself
pub settled_alone : LaterCommandsWait → (t : Tenant) (d : Final RingMail) (o : Settled) (e : Experiment) → Fits t d → o ≡ settled d → Serves t e → IsTraced o → IsSome (shown_ending (Some o.ending)) →
    record { records = o.records; counters = o.counters } ≡ trace_alone e
settled_alone wait t d o e fits is serves traced ended =
    let spec : o.spec ≡ e.spec = ap (λ (x : Settled). x.spec) is ∙ fits.spec ∙ serves.0 in
    let took : BeginsWith (posted t) o.commands = subst (λ (l : List Timed). BeginsWith (posted t) l) (sym (ap (λ (x : Settled). x.commands) is)) (begins_posted d.ending (posted t) d.commands fits.took) in
    let begins : BeginsWith e.commands o.commands = begins_again e.commands (posted t) o.commands serves.1 took in
    let over : IsSome (alone o.spec o.commands o.events).ending = subst IsSome traced.ending ended in
    let same : record { records = o.records; counters = o.counters } ≡ trace_of (alone o.spec o.commands o.events)
    = λ i. record { records = traced.records i; counters = traced.counters i } in
    same
    ∙ sym (ended_alone wait o.spec e.commands o.commands o.events begins traced.made traced.few over)
    ∙ ap (λ (s : Spec). trace_of (alone s e.commands s.budget.steps)) spec

-- an ending that isn't for want of memory is shown
shown-ended : (e : Ending) → e ≢ Halted → IsSome (shown_ending (Some e))
shown-ended Ended ended = refl
shown-ended Spent ended = refl
shown-ended Halted ended = absurd (ended refl)

pub is_shown : (d : Final RingMail) (o : Settled) → o ≡ settled d → d.ending ≢ Halted → IsSome (shown_ending (Some o.ending))
is_shown d o is ended = shown-ended o.ending (λ halted. ended (sym (ap (λ (x : Settled). x.ending) is) ∙ halted))
