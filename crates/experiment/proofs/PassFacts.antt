-- An event that is made before the next command is known.
use Rattle.std.proofs.Common.{◌≡◌, ◌≢◌, ℕ, ◌≤◌, ◌<◌, refl, sym, ap, ◌∙◌, subst, List, [], ◌∷◌, ◌++◌, Some, None}
use Rattle.std.proofs.lemmas.List.{append-nil}
use Rattle.std.specs.Prelude.{is_some, if◌then◌else◌, option_to_list}
use Rattle.emu_model.specs.declared.commands.Spec.{Spec}
use Rattle.emu_model.specs.declared.commands.Timed.{Timed}
use Rattle.emu_model.specs.declared.sources.Due.{Due}
use Rattle.emu_model.specs.declared.sources.Class.{Class}
use Rattle.emu_model.specs.declared.sources.Class.TheVariants.{NextCommand, Exit, Finish, Expiry, Emission}
use Rattle.emu_model.specs.declared.records.Record.{Record}
use Rattle.emu_model.specs.Dues.{dues_of, least_due}
use Rattle.emu_model.specs.Step.{State, take_event, count_step}
use Rattle.emu_model.specs.RunLaws.{with_earlier}
use Rattle.experiment.specs.Waits.{event_of_class, event_at, step_before, IsAloneUntil, StepsBeforeWait, WaitsAgree, WaitsRise, WaitsReadNoRecords}
use Rattle.packet_store.specs.Pocket.{Pocket}
use Rattle.network.specs.Kept.{net_of}
use Rattle.experiment.specs.Kept.{KeptExperiment, view, shown_ending, IsWaiting, IsAloneAfter}
use Rattle.experiment.specs.Moves.{Steps, IsPassed}
use Rattle.experiment.proofs.StepFacts.{event-class}

event-of-class : (k : Class) (d : Due) (s : State) → k ≢ NextCommand →
    event_of_class k d s ≡ count_step (take_event d.moment k d.source.number s)
event-of-class NextCommand d s other = absurd (other refl)
event-of-class Exit d s other = refl
event-of-class Finish d s other = refl
event-of-class Expiry d s other = refl
event-of-class Emission d s other = refl

-- a step whose event isn't a command's is that event
pub is_passed : (t : ℕ) (p q : Pocket) (old new : KeptExperiment) (d : Due) (c : Timed) →
    d ≡ least_due t (dues_of old.clock (net_of p old.net)) → d.source.class ≢ NextCommand → old.ending ≡ None →
    Steps d c p old q new → IsPassed t p old q new
is_passed t p q old new d c is other going s = record {
  passed =
      s.stepped
      ∙ ap count_step (event-class d.source.class d c [] (view p old) other)
      ∙ sym (event-of-class d.source.class d (view p old) other)
      ∙ ap (λ (e : Due). event_at e (view p old)) is
      ∙ sym (λ i. if is_some (shown_ending (going i)) then view p old else event_at (least_due t (dues_of old.clock (net_of p old.net))) (view p old));
  counted = s.counted;
  going = going;
}

-- the same experiment waits in a state that waits
waiting_in : (t : ℕ) (rs : List Record) (q : Pocket) (old new : KeptExperiment) (s : State) → view q new ≡ s →
    new.spec ≡ old.spec → new.consumed ≡ old.consumed → new.next ≡ None →
    IsAloneUntil t old.spec old.consumed (with_earlier rs s) → IsWaiting t rs q new
waiting_in t rs q old new s is spec consumed none alone = record {
  none = none;
  alone = subst (λ (x : State). IsAloneUntil t new.spec new.consumed (with_earlier rs x)) (sym is)
      (subst (λ (x : Spec). IsAloneUntil t x new.consumed (with_earlier rs s)) (sym spec)
      (subst (λ (x : List Timed). IsAloneUntil t old.spec x (with_earlier rs s)) (sym consumed) alone));
}

-- it waits behind such an event, from any moment past it on
pub waiting_passed : StepsBeforeWait → WaitsAgree → WaitsReadNoRecords → WaitsRise → (t u limit : ℕ) (rs : List Record) (p q : Pocket)
    (old new : KeptExperiment) (d : Due) → d ≡ least_due limit (dues_of old.clock (net_of p old.net)) → t ≤ u → u ≤ limit → d.moment < u →
    view q new ≡ step_before limit (view p old) → new.spec ≡ old.spec → new.consumed ≡ old.consumed → new.next ≡ None →
    IsWaiting t rs p old → IsWaiting u rs q new
waiting_passed steps agree reads rise t u limit rs p q old new d is up within past passed spec consumed none w =
    let s : State = view p old in
    let left : s.left ≡ [] = ap option_to_list w.none in
    waiting_in u rs q old new (step_before u s)
    (passed ∙ sym (agree limit u s within (subst (λ (e : Due). e.moment < u) is past))) spec consumed none
    (subst (IsAloneUntil u old.spec old.consumed) (reads u rs s left)
    (steps u old.spec old.consumed (with_earlier rs s) left
    (rise t u old.spec old.consumed (with_earlier rs s) up w.alone)))

-- and where nothing happened
pub waiting_still : WaitsRise → (t u : ℕ) (rs : List Record) (p q : Pocket) (old new : KeptExperiment) → t ≤ u →
    view q new ≡ view p old → new.spec ≡ old.spec → new.consumed ≡ old.consumed → new.next ≡ None →
    IsWaiting t rs p old → IsWaiting u rs q new
waiting_still rise t u rs p q old new up same spec consumed none w =
    waiting_in u rs q old new (view p old) same spec consumed none
    (rise t u old.spec old.consumed (with_earlier rs (view p old)) up w.alone)

-- a command that comes finds it alone
pub waited-applied : (t : ℕ) (rs : List Record) (p : Pocket) (e : KeptExperiment) (c : Timed) (spare : ℕ) → t ≤ c.moment →
    IsWaiting t rs p e → IsAloneAfter rs p (record e { next = Some c; consumed = e.consumed ++ c ∷ []; spare = spare })
waited-applied t rs p e c spare h w =
    (λ i. with_earlier rs (record (view p e) { left = option_to_list (sym w.none i) ++ c ∷ [] }))
    ∙ w.alone c [] h

-- the records are forgotten, and stand before those to come
pub waits_forgotten : (t : ℕ) (rs : List Record) (p : Pocket) (old new : KeptExperiment) →
    new ≡ record old { net = record old.net { log = new.net.log } } → new.net.log.records ≡ [] →
    IsWaiting t rs p old → IsWaiting t (rs ++ old.net.log.records) p new
waits_forgotten t rs p old new rest none w =
    let all : List Record = rs ++ old.net.log.records in
    let kept : view p new ≡ record (view p old) { net = record (view p old).net { records = new.net.log.records } } =
    ap (view p) rest in
    let same : with_earlier all (view p new) ≡ with_earlier rs (view p old) =
    ap (with_earlier all) kept
    ∙ ap (λ qs. record (view p old) { net = record (view p old).net { records = all ++ qs } }) none
    ∙ ap (λ qs. record (view p old) { net = record (view p old).net { records = qs } }) (append-nil all) in
    record {
      none = ap (λ (e : KeptExperiment). e.next) rest ∙ w.none;
      alone = subst (λ (s : State). IsAloneUntil t new.spec new.consumed s) (sym same)
          (subst (λ (e : KeptExperiment). IsAloneUntil t e.spec e.consumed (with_earlier rs (view p old))) (sym rest) w.alone);
    }
