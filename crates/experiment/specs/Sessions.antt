-- A session (our choice): time passes, and commands come one by one.
use Rattle.std.specs.Prelude.{◌≡◌, ℕ, ◌≤◌, IsSome, Option, None, List, [], ◌∷◌, ◌++◌}
use Rattle.emu_model.specs.declared.commands.Spec.{Spec}
use Rattle.emu_model.specs.declared.commands.Timed.{Timed}
use Rattle.emu_model.specs.Step.{State, initial_state, step}
use Rattle.emu_model.specs.Alone.{alone, trace_of}
use Rattle.emu_model.specs.RunLaws.{with_more}
use Rattle.experiment.specs.Waits.{step_before, IsAloneUntil, IsSettled}

-- an action of a session: the first event that is due before a time occurs, or a command comes
pub data Deed : Type 0 where
  Passes : ℕ → Deed
  Comes : Timed → Deed

-- the commands that came, the time that was reached, and the state
pub record Stand : Type 0 where
  pub came : List Timed
  pub reached : ℕ
  pub state : State

abbrev pub beginning : Spec → Stand
beginning spec = record { came = []; reached = 0; state = initial_state spec [] }

abbrev pub does : Deed → Stand → Stand
does (Passes t) x = record { came = x.came; reached = t; state = step_before t x.state }
does (Comes c) x = record {
  came = x.came ++ c ∷ [];
  reached = c.moment;
  state = step (with_more (c ∷ []) x.state);
}

-- time never goes back, and a command comes only if nothing is due before it and the experiment has not ended
abbrev pub IsAllowed : Deed → Stand → Type 0
IsAllowed (Passes t) x = x.reached ≤ t
IsAllowed (Comes c) x = (x.reached ≤ c.moment) × (x.state.ending ≡ None) × IsSettled c.moment x.state

abbrev pub AreAllowed : List Deed → Stand → Type 0
AreAllowed [] x = Unit {0}
AreAllowed (d ∷ ds) x = IsAllowed d x × AreAllowed ds (does d x)

abbrev pub done : List Deed → Stand → Stand
done [] x = x
done (d ∷ ds) x = done ds (does d x)

-- a session shows the state of running alone on the commands that came, whatever comes at the time reached or later
abbrev pub SessionsAreAlone : Type 0
SessionsAreAlone = (spec : Spec) (ds : List Deed) → AreAllowed ds (beginning spec) →
    let x = done ds (beginning spec) in IsAloneUntil x.reached spec x.came x.state

-- a session that has ended has shown the whole trace of every transcript that continues from there
abbrev pub EndedSessionsAreWhole : Type 0
EndedSessionsAreWhole = (spec : Spec) (ds : List Deed) → AreAllowed ds (beginning spec) →
    let x = done ds (beginning spec) in IsSome x.state.ending →
    (c : Timed) (rest : List Timed) (n : ℕ) → x.reached ≤ c.moment → x.state.steps ≤ n →
    trace_of (alone spec (x.came ++ c ∷ rest) n) ≡ trace_of x.state

-- if a command ended it, a session has shown the whole trace of the transcript itself
abbrev pub TranscriptsAreWhole : Type 0
TranscriptsAreWhole = (spec : Spec) (ds : List Deed) (c : Timed) → AreAllowed ds (beginning spec) →
    IsAllowed (Comes c) (done ds (beginning spec)) →
    let x = does (Comes c) (done ds (beginning spec)) in IsSome x.state.ending →
    (n : ℕ) → x.state.steps ≤ n → trace_of (alone spec x.came n) ≡ trace_of x.state

-- a state that has ended, and shows what running alone shows except for commands that never come, has the whole trace
abbrev pub EndedStatesAreWhole : Type 0
EndedStatesAreWhole = (spec : Spec) (commands rest : List Timed) (s : State) (n : ℕ) → IsSome s.ending →
    with_more rest s ≡ alone spec commands s.steps → s.steps ≤ n → trace_of (alone spec commands n) ≡ trace_of s
