-- The warnings of an experiment.
use Rattle.std.specs.Prelude.{ℕ, Bool, true, false, not, ◌==◌, if◌then◌else◌, List, [], ◌∷◌, ◌++◌, take, Option, Some, None, nat_le, slice_get}
use Rattle.emu_model.specs.declared.commands.Command.{Command}
use Rattle.emu_model.specs.declared.commands.Command.TheVariants.{Flow}
use Rattle.emu_model.specs.declared.commands.Timed.{Timed}
use Rattle.emu_model.specs.Rules.{RuleBook}
use Rattle.explain.specs.declared.notes.Note.{Note}
use Rattle.explain.specs.declared.notes.Subject.{Subject}
use Rattle.explain.specs.declared.notes.Subject.TheVariants as subjects
use Rattle.explain.specs.declared.ends.Ends.{Ends}
use Rattle.explain.specs.declared.warning.Warning.{Warning}
use Rattle.explain.specs.declared.warning.Sent.{Sent}
use Rattle.explain.specs.declared.warning.Sent.TheVariants.{Packets, Segments, Acks}
use Rattle.explain.specs.declared.warning.Concern.{Concern}
use Rattle.explain.specs.declared.warning.Concern.TheVariants.{Spent, OverBudget, PipeGone, Denied, UnusedSeed, NoWay}
use Rattle.explain.specs.Ways.{segment_ends, turned, is_denied}
use Rattle.explain.specs.Walk.{behind, start, denials}
use Rattle.explain.specs.Survey.{has_loss, pipes_missing, flow_place, last_moment}

-- a flow's segments, or its acknowledgements, which go the other way
abbrev pub way_of : Sent → Ends → Ends
way_of Packets e = e
way_of Segments e = e
way_of Acks e = turned e

-- so many packets of a flow were denied; whether a rule stands for the other direction
abbrev pub no_way_of : RuleBook → ℕ → Sent → ℕ → Command → List Warning
no_way_of b k sent count (Flow n f) = record {
  command = Some k;
  concern = NoWay (way_of sent (segment_ends f)) sent (Some count) (not (is_denied b (turned (way_of sent (segment_ends f)))));
} ∷ []
no_way_of b k sent count _ = []

-- by the rules behind all commands of the flow's moment
abbrev pub at_command : List Timed → ℕ → Sent → ℕ → Option Timed → List Warning
at_command cs k sent count None = []
at_command cs k sent count (Some c) = no_way_of (behind c.moment (start cs)).book k sent count c.command

abbrev pub at_place : List Timed → Sent → ℕ → Option ℕ → List Warning
at_place cs sent count None = []
at_place cs sent count (Some k) = at_command cs k sent count (slice_get cs k)

-- of a flow, by its number
abbrev pub flow_denied : List Timed → Sent → ℕ → ℕ → List Warning
flow_denied cs sent count n = at_place cs sent count (flow_place n cs)

abbrev pub whole : Concern → List Warning
whole concern = record { command = None; concern = concern } ∷ []

-- what a note of the report says
abbrev pub of_subject : List Timed → ℕ → ℕ → Subject → List Warning
of_subject cs first count subjects.Spent = whole (Spent first (last_moment cs))
of_subject cs first count subjects.OverBudget = whole (OverBudget first count)
of_subject cs first count subjects.NoPipe = whole (PipeGone first count)
of_subject cs first count subjects.DeniedPlain = whole (Denied first count)
of_subject cs first count (subjects.DeniedData n) = flow_denied cs Segments count n
of_subject cs first count (subjects.DeniedAck n) = flow_denied cs Acks count n

-- what the notes of the experiment with this number say
abbrev pub of_notes : ℕ → List Timed → List Note → List Warning
of_notes number cs [] = []
of_notes number cs (n ∷ ns) = (if n.experiment == number then of_subject cs n.first n.count n.subject else []) ++ of_notes number cs ns

-- a seed other than 0 and 1, which people write who need none, where no pipe has losses
abbrev pub of_seed : ℕ → List Timed → List Warning
of_seed seed cs = if nat_le seed 1 then [] else (if has_loss cs then [] else whole UnusedSeed)

-- what is seen from the commands alone, of a kind the first ten; of flows only where no run has counted their packets
abbrev pub of_commands : Bool → ℕ → List Timed → List Warning
of_commands flows seed cs = of_seed seed cs ++ take 10 (pipes_missing cs) ++ take 10 (denials flows cs)

-- behind a run, whose notes are given, or without one
abbrev pub warnings_of : ℕ → ℕ → List Timed → Option (List Note) → List Warning
warnings_of number seed cs None = of_commands true seed cs
warnings_of number seed cs (Some notes) = of_notes number cs notes ++ of_commands false seed cs
