-- The report of an experiment of a session that has ended (our choice).
use Rattle.std.specs.Prelude.{◌≡◌, ℕ, ◌+◌, max, ◌≤◌, ◌<◌, IsSome, None, List, [], ◌∷◌, ◌++◌, flat_map}
use Rattle.emu_model.specs.declared.commands.Spec.{Spec}
use Rattle.emu_model.specs.declared.commands.Timed.{Timed}
use Rattle.emu_model.specs.declared.records.Record.{Record}
use Rattle.emu_model.specs.Alone.{Trace, alone, trace_of}
use Rattle.emu_model.specs.Step.{step}
use Rattle.emu_model.specs.RunLaws.{with_more}
use Rattle.experiment.specs.Waits.{step_before}
use Rattle.experiment.specs.Kept.{shown_ending}
use Rattle.report.specs.Lines.{heading_of, line_of, report_of}
use Rattle.session.specs.Runs.{KeptRun, IsAt, IsAfter, state_of, closing_of}

-- the report of an experiment that runs alone on these commands
abbrev pub report_of_commands : List ℕ → Spec → List Timed → List ℕ
report_of_commands name spec commands =
    let t : Trace = trace_of (alone spec commands spec.budget.steps) in report_of name t.records t.counters

-- the whole report of a run: its name, its records, and its counters
abbrev pub told_of : List ℕ → List Record → KeptRun → List ℕ
told_of name earlier r = heading_of name ++ flat_map line_of earlier ++ closing_of r

pub record IsDone (r : KeptRun) : Type 0 where
  pub ended : IsSome (shown_ending r.experiment.ending)
  pub told : r.experiment.net.log.records ≡ []
  pub few : r.experiment.steps ≤ r.experiment.spec.budget.steps

-- if a command was its last step, this is the report of running alone the commands that arrived and any that follow
abbrev pub EndedRunsAreReports : Type 0
EndedRunsAreReports = (name : List ℕ) (earlier : List Record) (r : KeptRun) (rest : List Timed) → IsAfter earlier r → IsDone r →
    told_of name earlier r ≡ report_of_commands name r.experiment.spec (r.experiment.consumed ++ rest)

-- if it ended while time passed, this is the report of the commands that arrived and any that arrive at that time or later
abbrev pub SpentRunsAreReports : Type 0
SpentRunsAreReports = (name : List ℕ) (t : ℕ) (earlier : List Record) (r : KeptRun) (c : Timed) (rest : List Timed) → IsAt t earlier r → IsDone r →
    t ≤ c.moment → told_of name earlier r ≡ report_of_commands name r.experiment.spec (r.experiment.consumed ++ c ∷ rest)

-- the time reached is the minimum: a command before the time that the next event would reach is processed in place of that event
abbrev pub EarlierCommandsCome : Type 0
EarlierCommandsCome = (t limit : ℕ) (earlier : List Record) (r : KeptRun) (c : Timed) → IsAt t earlier r → r.experiment.ending ≡ None →
    t ≤ c.moment → c.moment ≤ limit → c.moment < max t ((step_before limit (state_of r)).clock + 1) →
    (step (with_more (c ∷ []) (state_of r))).left ≡ []
