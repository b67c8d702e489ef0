-- A session, deed by deed.
use Rattle.std.proofs.Common.{◌≡◌, ◌≢◌, Option, Some, None, IsSome, ℕ, zero, suc, ◌+◌, ◌≤◌, ◌<◌, List, [], ◌∷◌, ◌++◌, Bool, true, false, refl, sym, ◌∙◌, ap, arith, subst, inl, inr}
use Rattle.std.specs.Prelude.{if◌then◌else◌, is_some, nat_lt, ◌⊎◌}
use Rattle.std.proofs.lemmas.Bool.{ltb-true, ltb-false}
use Rattle.emu_model.specs.declared.commands.Spec.{Spec}
use Rattle.emu_model.specs.declared.commands.Timed.{Timed}
use Rattle.emu_model.specs.declared.sources.Due.{Due}
use Rattle.emu_model.specs.declared.sources.Class.{Class}
use Rattle.emu_model.specs.declared.sources.Class.TheVariants.{NextCommand, Exit, Finish, Expiry, Emission}
use Rattle.emu_model.specs.declared.records.Ending.{Ending}
use Rattle.emu_model.specs.Dues.{dues_of, least_due}
use Rattle.emu_model.specs.Step.{State, take_event, step, step_with}
use Rattle.emu_model.specs.Alone.{alone, trace_of}
use Rattle.emu_model.specs.RunLaws.{with_more, LaterCommandsWait}
use Rattle.experiment.specs.Waits.{event_of_class, event_at, step_before, IsAloneUntil, GoesOn}
use Rattle.experiment.specs.Sessions.{Deed, Passes, Comes, Stand, beginning, does, IsAllowed, AreAllowed, done, SessionsAreAlone, EndedSessionsAreWhole, TranscriptsAreWhole, EndedStatesAreWhole}
use Rattle.experiment.proofs.WaitLaws.{event-left, steps_before_wait, commands_go_on, waits_rise}

either-left : (b : Bool) (x y : State) → y.left ≡ x.left → (if b then x else y).left ≡ x.left
either-left true x y p = refl
either-left false x y p = p

before-left : (t : ℕ) (s : State) → (step_before t s).left ≡ s.left
before-left t s =
    let d : Due = least_due t (dues_of s.clock s.net) in
    either-left (is_some s.ending) s (event_at d s) (event-left d.source.class d s)

record Waits (spec : Spec) (x : Stand) : Type 0 where
  none : x.state.left ≡ []
  waits : IsAloneUntil x.reached spec x.came x.state

goes : LaterCommandsWait → (spec : Spec) (c : Timed) (x : Stand) → Waits spec x → IsAllowed (Comes c) x →
    GoesOn spec x.came c (step (with_more (c ∷ []) x.state))
goes law spec c x w a = commands_go_on law x.reached spec x.came x.state c w.none a.1 a.0 a.2 w.waits

going : LaterCommandsWait → (spec : Spec) (ds : List Deed) (x : Stand) → Waits spec x → AreAllowed ds x → Waits spec (done ds x)
going law spec [] x w a = w
going law spec (Passes t ∷ ds) x w a =
    going law spec ds (does (Passes t) x) (record {
      none = before-left t x.state ∙ w.none;
      waits = steps_before_wait t spec x.came x.state w.none (waits_rise x.reached t spec x.came x.state a.0 w.waits);
    }) a.1
going law spec (Comes c ∷ ds) x w a =
    let g = goes law spec c x w a.0 in
    going law spec ds (does (Comes c) x) (record { none = g.none; waits = g.waits }) a.1

begun : (spec : Spec) → Waits spec (beginning spec)
begun spec = record { none = refl; waits = λ c rest h. refl }

pub sessions_are_alone : LaterCommandsWait → SessionsAreAlone
sessions_are_alone law spec ds a = (going law spec ds (beginning spec) (begun spec) a).waits

some-true : (e : Option Ending) → IsSome e → is_some e ≡ true
some-true None h = absurd (cc)
some-true (Some x) h = refl

-- an ended state stands still
stays : (spec : Spec) (cs : List Timed) (n k : ℕ) → IsSome (alone spec cs n).ending → n ≤ k → alone spec cs k ≡ alone spec cs n
stays spec cs n zero h le = let z : zero ≡ n = omega (arith, le) in ap (alone spec cs) z
stays spec cs n (suc k) h le = go (nat_lt k n) refl (λ l. stays spec cs n k h l)
  where
    still : (s : State) → is_some s.ending ≡ true → step s ≡ s
    still s e = (λ i. if e i then s else step_with s.left s)

    go : (b : Bool) → nat_lt k n ≡ b → (n ≤ k → alone spec cs k ≡ alone spec cs n) → alone spec cs (suc k) ≡ alone spec cs n
    go true e again =
        let l : k < n = ltb-true k n e in
        let z : suc k ≡ n = omega (arith, le, l) in ap (alone spec cs) z
    go false e again =
        let l : n ≤ k = ltb-false k n e in
        ap step (again l) ∙ still (alone spec cs n) (some-true (alone spec cs n).ending h)

-- what an ended state shows is the whole trace
whole : (spec : Spec) (cs d : List Timed) (s : State) (n : ℕ) → IsSome s.ending → with_more d s ≡ alone spec cs s.steps → s.steps ≤ n →
    trace_of (alone spec cs n) ≡ trace_of s
whole spec cs d s n h is le =
    ap trace_of (stays spec cs s.steps n (subst (λ (x : State). IsSome x.ending) is h) le) ∙ sym (ap trace_of is)

pub ended_sessions_are_whole : LaterCommandsWait → EndedSessionsAreWhole
ended_sessions_are_whole law spec ds a h c rest n late_enough le =
    let x = done ds (beginning spec) in
    whole spec (x.came ++ c ∷ rest) (c ∷ rest) x.state n h (sessions_are_alone law spec ds a c rest late_enough) le

pub transcripts_are_whole : LaterCommandsWait → TranscriptsAreWhole
transcripts_are_whole law spec ds c a allowed h n le =
    let y = done ds (beginning spec) in
    let g = goes law spec c y (going law spec ds (beginning spec) (begun spec) a) allowed in
    let s = step (with_more (c ∷ []) y.state) in
    ap trace_of (stays spec (y.came ++ c ∷ []) s.steps n (subst (λ (x : State). IsSome x.ending) g.alone_is h) le)
    ∙ sym (ap trace_of g.alone_is)

pub ended_states_are_whole : EndedStatesAreWhole
ended_states_are_whole spec commands rest s n h is le = whole spec commands rest s n h is le
