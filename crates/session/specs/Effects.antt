-- The effect of an accepted line on a session (our choice).
use Rattle.std.specs.Prelude.{◌≡◌, ℕ, ◌<◌, ◌*◌, ◌^◌, Bool, true, false, List, [], ◌∷◌, ◌++◌, length, ◌&&◌, Option, Some, None, Ok, set, slice_get, codes, MatchOption, ◌⊎◌}
use Rattle.emu_model.specs.declared.commands.Spec.{Spec}
use Rattle.emu_model.specs.declared.commands.Timed.{Timed}
use Rattle.emu_model.specs.declared.records.Ending.{Ending}
use Rattle.emu_model.specs.Commands.{is_end}
use Rattle.emu_model.specs.Step.{initial_state, step}
use Rattle.emu_model.specs.RunLaws.{with_more}
use Rattle.control_lines.specs.Entries.{Entry, Nothing, Begins, Does, IsEntry}
use Rattle.report.specs.Lines.{heading_of}
use Rattle.experiment.specs.Written.{Counts}
use Rattle.session.specs.declared.answer.Answer.{Answer}
use Rattle.session.specs.declared.answer.Answer.TheVariants as answers
use Rattle.session.specs.declared.open.Phase.{Phase}
use Rattle.session.specs.declared.open.Phase.TheVariants as phases
use Rattle.session.specs.declared.fates.Stop.{Stop}
use Rattle.session.specs.declared.fates.Stop.TheVariants as stops
use Rattle.session.specs.declared.fates.Taken.{Taken}
use Rattle.session.specs.declared.fates.Taken.TheVariants as taken
use Rattle.session.specs.Fates.{refusal_in, taken_by, MarkedBy}
use Rattle.session.specs.Runs.{KeptRun, Forgets, Takes, IsQuiet, state_of, made_of, closing_of, first_moment}
use Rattle.session.specs.Stops.{StopsAt}
use Rattle.session.specs.Opens.{KeptOpen, stand_of}
use Rattle.session.specs.Lines.{answer_with, help_lines}
use Rattle.session.specs.Requests.{Asked, Until, UntilMine, UntilAny, Next, AddNext, Use, Show, Trace, Help, asked_of, request_of}
use Rattle.session.specs.Tracing.{spec_as, command_as}
use Rattle.session.specs.Sessions.{KeptSession}
use Rattle.session.specs.Faults.{current_of, left_after, place_named}

-- the answer to a command with this outcome
abbrev pub answer_of : Taken → Answer
answer_of taken.Done = answers.Done
answer_of (taken.Packet number) = answers.Packet number
answer_of (taken.Refused code) = answers.Refused code

-- ---- an experiment of the session
-- a command arrives at a running experiment after everything that is due before its time, and is the next step
pub record Comes (c : Timed) (t : Taken) (before after : KeptRun) : Type 0 where
  pub going : (state_of before).ending ≡ None
  pub quiet : IsQuiet c.moment before
  pub takes : Takes c before after
  pub steps : state_of after ≡ step (with_more (c ∷ []) (state_of before))
  pub marks : MarkedBy c.command (made_of before) before.mine after.mine
  pub taken : t ≡ taken_by c.command (made_of before) (refusal_in (slice_get after.experiment.net.log.records (length before.experiment.net.log.records)))

-- the phase of an experiment, by its ending
abbrev pub phase_of : Option Ending → Phase
phase_of None = phases.Going
phase_of (Some e) = phases.Over

-- the line of the counters if the experiment is over, and otherwise nothing
abbrev pub closing_in : Phase → KeptRun → List ℕ
closing_in phases.Going r = []
closing_in phases.Over r = closing_of r
closing_in phases.Lost r = []

-- which records are reported, and which packets were injected, does not change
pub record ShowsSame (old new : KeptRun) : Type 0 where
  pub shows : new.shows_all ≡ old.shows_all
  pub mine : new.mine ≡ old.mine

-- time passes in a running experiment until it stops, and the new records are reported;
-- if the experiment still runs, nothing is due before the time reached
pub record IsPassed (limit : ℕ) (stop : Stop) (bytes : List ℕ) (o p : KeptOpen) : Type 0 where
  pub clean : o.run.report.text ≡ []
  pub ran : KeptRun
  pub stopped : StopsAt stop o.reached limit p.reached o.run ran
  pub same : ShowsSame o.run ran
  pub phase : p.phase ≡ phase_of (state_of ran).ending
  pub wrote : KeptRun
  pub forgets : Forgets ran wrote
  pub is : p ≡ record o { reached = p.reached; phase = p.phase; run = record wrote { report = record wrote.report { text = [] } } }
  pub told : bytes ≡ wrote.report.text ++ closing_in p.phase wrote
  pub quiet : p.phase ≡ phases.Going → IsQuiet p.reached p.run
  pub whole : p.phase ≡ phases.Going → stop ≡ stops.Moment → p.reached ≡ limit

-- a command arrives at a running experiment after time has reached its `moment`, and the new records are reported
pub record Commanded (c : Timed) (t : Taken) (bytes : List ℕ) (o p : KeptOpen) : Type 0 where
  pub clean : o.run.report.text ≡ []
  pub before : KeptRun
  pub stopped : StopsAt stops.Moment o.reached c.moment c.moment o.run before
  pub same : ShowsSame o.run before
  pub after : KeptRun
  pub comes : Comes c t before after
  pub phase : p.phase ≡ phase_of (state_of after).ending
  pub wrote : KeptRun
  pub forgets : Forgets after wrote
  pub is : p ≡ record o { reached = c.moment; phase = p.phase; run = record wrote { report = record wrote.report { text = [] } } }
  pub told : bytes ≡ wrote.report.text ++ closing_in p.phase wrote

-- whether the experiment's `end` has arrived, and the answer, by the phase after the command
abbrev pub closes_in : Phase → Timed → Bool
closes_in phases.Going c = false
closes_in phases.Over c = is_end c.command
closes_in phases.Lost c = false

abbrev pub said_in : Phase → Timed → Taken → Answer
said_in phases.Going c t = answer_of t
said_in phases.Over c t = answers.Over c.moment
said_in phases.Lost c t = answers.Over c.moment

-- the experiment was over before the command's time, or the command was processed
abbrev pub IsObeyed : Timed → List ℕ → Answer → KeptOpen → KeptOpen → Type 0
IsObeyed c bytes a o p = (q : KeptOpen) × (p ≡ record q { reached = c.moment; is_closed = closes_in q.phase c }) × (
    (IsPassed c.moment stops.Moment bytes o q × (q.phase ≡ phases.Over) × (a ≡ answers.Over c.moment))
    ⊎ ((t : Taken) × Commanded c t bytes o q × (a ≡ said_in q.phase c t)))

abbrev pub ObeysIn : Phase → Timed → List ℕ → Answer → KeptOpen → KeptOpen → Type 0
ObeysIn phases.Going c bytes a o p = IsObeyed c bytes a o p
ObeysIn phases.Over c bytes a o p = (p ≡ record o { reached = c.moment; is_closed = is_end c.command }) × (bytes ≡ []) × (a ≡ answers.Over c.moment)
ObeysIn phases.Lost c bytes a o p = ⊥

-- the answer reports the state of the experiment afterwards
abbrev pub PassesIn : Phase → ℕ → Stop → List ℕ → Answer → KeptOpen → KeptOpen → Type 0
PassesIn phases.Going limit stop bytes a o p = (a ≡ stand_of p) × IsPassed limit stop bytes o p
PassesIn phases.Over limit stop bytes a o p = (a ≡ answers.Over o.reached) × (p ≡ o) × (bytes ≡ [])
PassesIn phases.Lost limit stop bytes a o p = ⊥

-- the time of the next event, if there is one: every event is due before 2 * 10^15 ns
abbrev pub IsNext : KeptOpen → Option ℕ → Type 0
IsNext o m = MatchOption m (IsQuiet (2 * 10 ^ 15) o.run) (λ n. (n ≡ first_moment o.run) × (n < 2 * 10 ^ 15))

abbrev pub NextIn : Phase → Answer → KeptOpen → Type 0
NextIn phases.Going a o = (m : Option ℕ) × (a ≡ answers.Next m) × IsNext o m
NextIn phases.Over a o = a ≡ answers.Over o.reached
NextIn phases.Lost a o = a ≡ answers.Over o.reached

-- the answer to `next` can be added to this answer; the other answers already report the state of the experiment
abbrev pub can_add : Answer → Bool
can_add answers.Done = true
can_add (answers.Packet number) = true
can_add (answers.Refused code) = true
can_add (answers.Now moment) = true
can_add (answers.Next moment) = false
can_add (answers.Over moment) = false
can_add (answers.Fault cause) = false

-- the answer to `next` is added if this is true, and otherwise nothing
abbrev pub IsAddedIf : Bool → KeptOpen → Option Answer → Type 0
IsAddedIf true o more = (b : Answer) × (more ≡ Some b) × NextIn o.phase b o
IsAddedIf false o more = more ≡ None

-- the answer to `next` is added if the current experiment after the line has `adds_next`, and the answer allows it
abbrev pub IsAdded : Option KeptOpen → Answer → Option Answer → Type 0
IsAdded (Some o) a more = IsAddedIf (o.adds_next && can_add a) o more
IsAdded None a more = more ≡ None

-- ---- the session
-- the current experiment changes as `P` requires, and the others do not change
pub record Moves (P : Answer → KeptOpen → KeptOpen → Type 0) (a : Answer) (old new : KeptSession) : Type 0 where
  pub before : KeptOpen
  pub after : KeptOpen
  pub current : current_of old ≡ Some before
  pub moved : new ≡ record old { opened = set old.opened old.current after }
  pub by : P a before after

-- the effect of a request: the bytes that precede the answer, and the answer
abbrev pub Obeys : Asked → List ℕ → Answer → KeptSession → KeptSession → Type 0
Obeys (Until limit) bytes a old new = Moves (λ a o p. PassesIn o.phase limit stops.Moment bytes a o p) a old new
Obeys (UntilMine limit hold) bytes a old new = Moves (λ a o p. PassesIn o.phase limit (stops.Mine hold) bytes a o p) a old new
Obeys (UntilAny limit hold) bytes a old new = Moves (λ a o p. PassesIn o.phase limit (stops.Any hold) bytes a o p) a old new
Obeys Next bytes a old new = (o : KeptOpen) × (current_of old ≡ Some o) × (new ≡ old) × (bytes ≡ []) × NextIn o.phase a o
Obeys (AddNext on) bytes a old new = (bytes ≡ []) × Moves (λ a o p. (p ≡ record o { adds_next = on }) × (a ≡ answers.Done)) a old new
Obeys (Show all) bytes a old new = (bytes ≡ []) × Moves (λ a o p. (p ≡ record o { run = record o.run { shows_all = all } }) × (a ≡ answers.Done)) a old new
Obeys (Use name) bytes a old new = (place : ℕ) × (place_named name old.opened ≡ Some place) × (new ≡ record old { current = place }) × (bytes ≡ codes "#: " ++ name ++ codes "\n") × (a ≡ answers.Done)
Obeys (Trace on) bytes a old new = (bytes ≡ []) × (new ≡ record old { traces = on }) × (a ≡ answers.Done)
Obeys Help bytes a old new = (new ≡ old) × (bytes ≡ help_lines) × (a ≡ answers.Done)

-- an experiment begins: nothing has happened in it, and all records will be reported; it runs traced if tracing is on
pub record IsBegun (name : List ℕ) (spec : Spec) (bytes : List ℕ) (a : Answer) (old new : KeptSession) : Type 0 where
  pub opened : KeptOpen
  pub name_is : opened.name ≡ name
  pub traced_is : opened.traced ≡ old.traces
  pub spec_is : opened.run.experiment.spec ≡ spec_as old.traces spec
  pub state : state_of opened.run ≡ initial_state (spec_as old.traces spec) []
  pub counts : Counts [] opened.run.report
  pub shows : opened.run.shows_all ≡ true
  pub mine : opened.run.mine ≡ []
  pub unclosed : opened.is_closed ≡ false
  pub adds_not : opened.adds_next ≡ false
  pub reached : opened.reached ≡ 0
  pub phase : opened.phase ≡ phases.Going
  pub told : bytes ≡ heading_of name
  pub answer : a ≡ answers.Done
  pub is : new ≡ record { opened = old.opened ++ opened ∷ []; current = length old.opened; left = left_after old.left spec.budget.steps; traces = old.traces }

abbrev pub Follows : Entry → List ℕ → Answer → KeptSession → KeptSession → Type 0
Follows Nothing bytes a old new = ⊥
Follows (Begins name spec) bytes a old new = IsBegun name spec bytes a old new
Follows (Does c) bytes a old new = Moves (λ a o p. ObeysIn o.phase (command_as o.traced c) bytes a o p) a old new

-- the output for an accepted line: what happened, and then the answer; a blank line or a comment has no output
abbrev pub IsSaid : List ℕ → KeptSession → (List ℕ → Answer → Type 0) → Type 0
IsSaid said new P =
    (bytes : List ℕ) × (a : Answer) × (more : Option Answer) × (said ≡ bytes ++ answer_with a more)
    × IsAdded (current_of new) a more × P bytes a

abbrev pub DoesBy : Option (List ℕ) → List ℕ → List ℕ → KeptSession → KeptSession → Type 0
DoesBy (Some asked) line said old new = IsSaid said new (λ bytes a. (q : Asked) × (request_of asked ≡ Ok q) × Obeys q bytes a old new)
DoesBy None line said old new =
    (IsEntry line Nothing × (said ≡ []) × (new ≡ old))
    ⊎ IsSaid said new (λ bytes a. (e : Entry) × IsEntry line e × Follows e bytes a old new)

abbrev pub LineDoes : List ℕ → List ℕ → KeptSession → KeptSession → Type 0
LineDoes line said old new = DoesBy (asked_of line) line said old new
