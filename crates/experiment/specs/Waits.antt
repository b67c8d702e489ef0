-- An experiment whose next command is not known yet (our choice).
use Rattle.std.specs.Prelude.{◌≡◌, ◌≢◌, ℕ, ◌≤◌, ◌<◌, if◌then◌else◌, is_some, None, List, [], ◌∷◌, ◌++◌}
use Rattle.emu_model.specs.declared.commands.Spec.{Spec}
use Rattle.emu_model.specs.declared.commands.Timed.{Timed}
use Rattle.emu_model.specs.declared.sources.Due.{Due}
use Rattle.emu_model.specs.declared.sources.Class.{Class}
use Rattle.emu_model.specs.declared.sources.Class.TheVariants.{NextCommand}
use Rattle.emu_model.specs.Dues.{due, dues_of, least_due}
use Rattle.emu_model.specs.Step.{State, take_event, count_step, step}
use Rattle.emu_model.specs.Alone.{alone}
use Rattle.emu_model.specs.declared.records.Record.{Record}
use Rattle.emu_model.specs.RunLaws.{with_more, with_earlier, TakesSteps}

-- the event of a due; none if the due is that of a command
abbrev pub event_of_class : Class → Due → State → State
event_of_class NextCommand d s = s
event_of_class class d s = count_step (take_event d.moment class d.source.number s)

abbrev pub event_at : Due → State → State
event_at d s = event_of_class d.source.class d s

-- the first event that is due occurs, if it is due before a time
abbrev pub step_before : ℕ → State → State
step_before t s = if is_some s.ending then s else event_at (least_due t (dues_of s.clock s.net)) s

-- whatever comes next at `t` or later, the state is that of running it alone
abbrev pub IsAloneUntil : ℕ → Spec → List Timed → State → Type 0
IsAloneUntil t spec came s = (c : Timed) (rest : List Timed) → t ≤ c.moment →
    with_more (c ∷ rest) s ≡ alone spec (came ++ c ∷ rest) s.steps

abbrev pub WaitsBegin : Type 0
WaitsBegin = (spec : Spec) (came : List Timed) (n t : ℕ) → TakesSteps spec came n →
    IsAloneUntil t spec came (alone spec came n)

abbrev pub StepsBeforeWait : Type 0
StepsBeforeWait = (t : ℕ) (spec : Spec) (came : List Timed) (s : State) → s.left ≡ [] →
    IsAloneUntil t spec came s → IsAloneUntil t spec came (step_before t s)

abbrev pub CommandsComeAlone : Type 0
CommandsComeAlone = (t : ℕ) (spec : Spec) (came : List Timed) (s : State) (c : Timed) → t ≤ c.moment →
    IsAloneUntil t spec came s → with_more (c ∷ []) s ≡ alone spec (came ++ c ∷ []) s.steps

-- waits to different times have the same result if both are past the event that is due first
abbrev pub WaitsAgree : Type 0
WaitsAgree = (t u : ℕ) (s : State) → u ≤ t → (least_due t (dues_of s.clock s.net)).moment < u →
    step_before u s ≡ step_before t s

-- a due that is the first and is not that of a command is before the time that is waited for
abbrev pub WaitsPassEvents : Type 0
WaitsPassEvents = (t : ℕ) (ds : List Due) → (least_due t ds).source.class ≢ NextCommand → (least_due t ds).moment < t

-- earlier records do not affect such an event, and are preserved
abbrev pub WaitsReadNoRecords : Type 0
WaitsReadNoRecords = (t : ℕ) (rs : List Record) (s : State) → s.left ≡ [] →
    step_before t (with_earlier rs s) ≡ with_earlier rs (step_before t s)

-- nothing is due before a time
abbrev pub IsSettled : ℕ → State → Type 0
IsSettled t s = least_due t (dues_of s.clock s.net) ≡ due NextCommand 0 t

-- if no event is the first that is due before a time, none is due before it
abbrev pub WaitsSettle : Type 0
WaitsSettle = (t : ℕ) (s : State) → (least_due t (dues_of s.clock s.net)).source.class ≡ NextCommand → IsSettled t s

-- a state that waits from a time on also waits from any later time on
abbrev pub WaitsRise : Type 0
WaitsRise = (t u : ℕ) (spec : Spec) (came : List Timed) (s : State) → t ≤ u →
    IsAloneUntil t spec came s → IsAloneUntil u spec came s

-- if nothing is due before it, a command that comes is taken next, and the state waits again from the command's time on
pub record GoesOn (spec : Spec) (came : List Timed) (c : Timed) (s : State) : Type 0 where
  pub none : s.left ≡ []
  pub waits : IsAloneUntil c.moment spec (came ++ c ∷ []) s
  pub alone_is : s ≡ alone spec (came ++ c ∷ []) s.steps

abbrev pub CommandsGoOn : Type 0
CommandsGoOn = (t : ℕ) (spec : Spec) (came : List Timed) (s : State) (c : Timed) → s.left ≡ [] → s.ending ≡ None →
    t ≤ c.moment → IsSettled c.moment s → IsAloneUntil t spec came s →
    GoesOn spec came c (step (with_more (c ∷ []) s))
