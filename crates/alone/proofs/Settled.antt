-- A run that has ended, or has no more commands, stands as it will after all its steps.
use Rattle.std.proofs.Common.{◌≡◌, ℕ, zero, suc, ◌≤◌, inl, inr, Bool, true, false, ltb, refl, sym, ap, subst, ◌∙◌, List, [], ◌++◌, length, take, drop, Option, Some, None, IsSome, arith}
use Rattle.std.specs.Prelude.{if◌then◌else◌, is_some, option_to_list}
use Rattle.std.proofs.lemmas.Bool.{ltb-true, ltb-false}
use Rattle.std.proofs.lemmas.List.{take-append-drop}
use Rattle.emu_model.specs.declared.commands.Spec.{Spec}
use Rattle.emu_model.specs.declared.commands.Timed.{Timed}
use Rattle.emu_model.specs.declared.records.Record.{Record}
use Rattle.emu_model.specs.declared.records.Ending.{Ending}
use Rattle.emu_model.specs.Step.{State, initial_state, step, step_with}
use Rattle.emu_model.specs.Alone.{after_steps, alone, trace_of}
use Rattle.emu_model.specs.RunLaws.{with_more, with_earlier, TakesSteps, LaterCommandsWait}
use Rattle.packet_store.specs.Pocket.{Pocket}
use Rattle.experiment.specs.Kept.{KeptExperiment, view, IsAloneAfter}
use Rattle.alone.specs.Runs.{IsOver}

-- a state that stands still stands so after any steps
still : (m n : ℕ) (s : State) → step (after_steps n s) ≡ after_steps n s → n ≤ m → after_steps m s ≡ after_steps n s
still zero n s same few =
    let none : n ≡ zero = omega (arith, few) in
    sym (ap (λ k. after_steps k s) none)
still (suc m) n s same few = by (still m n s same) (ltb m n) refl
  where
    by : (n ≤ m → after_steps m s ≡ after_steps n s) → (b : Bool) → ltb m n ≡ b → after_steps (suc m) s ≡ after_steps n s
    by before true e =
        let here : n ≡ suc m = omega (arith, few, ltb-true m n e) in
        sym (ap (λ k. after_steps k s) here)
    by before false e = ap step (before (ltb-false m n e)) ∙ same

-- one that has ended stands still, and one without commands
ended-still : (s : State) → IsSome s.ending → step s ≡ s
ended-still s some = go s.ending refl some
  where
    go : (o : Option Ending) → s.ending ≡ o → IsSome o → step s ≡ s
    go (Some x) is some = ap (λ (o : Option Ending). if is_some o then s else step_with s.left s) is
    go None is some = absurd (cc)

idle-still : (s : State) → s.left ≡ [] → step s ≡ s
idle-still s none = go s.ending refl
  where
    go : (o : Option Ending) → s.ending ≡ o → step s ≡ s
    go (Some x) is = ap (λ (o : Option Ending). if is_some o then s else step_with s.left s) is
    go None is = ap (λ (o : Option Ending). if is_some o then s else step_with s.left s) is ∙ ap (λ l. step_with l s) none

-- the state that is shown, behind what was forgotten of it
abbrev shown : List Record → Pocket → KeptExperiment → State
shown rs p e = with_earlier rs (view p e)

at-end : (rs : List Record) (p : Pocket) (e : KeptExperiment) (rest : List Timed) → IsOver e rest →
    step (with_more rest (shown rs p e)) ≡ with_more rest (shown rs p e)
at-end rs p e rest (inl ended) = ended-still (with_more rest (shown rs p e)) ended
at-end rs p e rest (inr idle) = idle-still (with_more rest (shown rs p e)) ((λ i. option_to_list (idle.0 i) ++ idle.1 i))

settled : LaterCommandsWait → (rs : List Record) (p : Pocket) (e : KeptExperiment) (rest : List Timed) → IsAloneAfter rs p e →
    e.steps ≤ e.spec.budget.steps → IsOver e rest →
    trace_of (alone e.spec (e.consumed ++ rest) e.spec.budget.steps) ≡ trace_of (shown rs p e)
settled wait rs p e rest same few over =
    let takes : TakesSteps e.spec e.consumed e.steps = ap (λ s. s.steps) (sym same) in
    let now : alone e.spec (e.consumed ++ rest) e.steps ≡ with_more rest (shown rs p e)
    = wait e.spec e.consumed rest e.steps takes ∙ ap (with_more rest) (sym same) in
    let stands : step (alone e.spec (e.consumed ++ rest) e.steps) ≡ alone e.spec (e.consumed ++ rest) e.steps
    = ap step now ∙ at-end rs p e rest over ∙ sym now in
    ap trace_of (still e.spec.budget.steps e.steps (initial_state e.spec (e.consumed ++ rest)) stands few ∙ now)

-- what was played is what the definitions say
pub left_alone : LaterCommandsWait → (spec : Spec) (commands : List Timed) (rs : List Record) (q : Pocket) (new : KeptExperiment) →
    new.spec ≡ spec → IsAloneAfter rs q new → (rest : List Timed) → commands ≡ new.consumed ++ rest → IsOver new rest →
    new.steps ≤ new.spec.budget.steps → trace_of (shown rs q new) ≡ trace_of (alone spec commands spec.budget.steps)
left_alone wait spec commands rs q new same is rest all over few =
    sym (settled wait rs q new rest is few over)
    ∙ ap (λ (cs : List Timed). trace_of (alone new.spec cs new.spec.budget.steps)) (sym all)
    ∙ ap (λ (s : Spec). trace_of (alone s commands s.budget.steps)) same

-- the same where what was played was told and forgotten since
pub left_told : LaterCommandsWait → (spec : Spec) (commands : List Timed) (rs : List Record) (q : Pocket) (old new : KeptExperiment) →
    new ≡ record old { net = record old.net { log = new.net.log } } → old.spec ≡ spec → IsAloneAfter rs q new →
    (rest : List Timed) → commands ≡ old.consumed ++ rest → IsOver old rest → old.steps ≤ old.spec.budget.steps →
    trace_of (shown rs q new) ≡ trace_of (alone spec commands spec.budget.steps)
left_told wait spec commands rs q old new same of is rest all over few =
    left_alone wait spec commands rs q new (ap (λ (e : KeptExperiment). e.spec) same ∙ of) is rest
    (all ∙ ap (λ (e : KeptExperiment). e.consumed ++ rest) (sym same))
    (subst (λ (e : KeptExperiment). IsOver e rest) (sym same) over)
    (subst (λ (e : KeptExperiment). e.steps ≤ e.spec.budget.steps) (sym same) few)

-- one that has ended leaves what running it alone on these commands, and any after them, leaves
pub ended_alone : LaterCommandsWait → (spec : Spec) (all commands : List Timed) (n : ℕ) → take (length commands) all ≡ commands → TakesSteps spec commands n →
    n ≤ spec.budget.steps → IsSome (alone spec commands n).ending → trace_of (alone spec all spec.budget.steps) ≡ trace_of (alone spec commands n)
ended_alone wait spec all commands n begins takes few ended =
    let rest : List Timed = drop (length commands) all in
    let whole : all ≡ commands ++ rest = sym (take-append-drop (length commands) all) ∙ ap (λ (l : List Timed). l ++ rest) begins in
    let now : alone spec (commands ++ rest) n ≡ with_more rest (alone spec commands n) = wait spec commands rest n takes in
    let stands : step (alone spec (commands ++ rest) n) ≡ alone spec (commands ++ rest) n
    = ap step now ∙ ended-still (with_more rest (alone spec commands n)) ended ∙ sym now in
    ap (λ (l : List Timed). trace_of (alone spec l spec.budget.steps)) whole
    ∙ ap trace_of (still spec.budget.steps n (initial_state spec (commands ++ rest)) stands few ∙ now)
