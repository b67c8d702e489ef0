-- When bytes spell a scenario, and the fault of bytes that spell none.
use Rattle.std.specs.Prelude.{◌≡◌, ℕ, ◌+◌, ◌<◌, ◌≤◌, Bool, true, false, List, [], ◌∷◌, ◌++◌, length, Option, Some, None, option_map, ◌⊎◌}
use Rattle.std.specs.List.{list_any}
use Rattle.std.specs.Str.{bytes_eq}
use Rattle.emu_model.specs.declared.commands.Spec.{Spec}
use Rattle.emu_model.specs.declared.commands.Timed.{Timed}
use Rattle.emu_model.specs.Commands.{has_end}
use Rattle.control_words.specs.Text.{lines}
use Rattle.control_lines.specs.Entries.{Entry, Nothing, Begins, Does, Says, StandsAlone}
use Rattle.control_lines.specs.declared.line.LineFault.TheVariants as alone
use Rattle.control.specs.declared.fault.Cause.{Cause}
use Rattle.control.specs.declared.fault.Cause.TheVariants.{TooBig, Cut, TooLong, BadByte, BadWord, OutOfRange, NoEnd, TooMany, SameName, NoExperiment, AfterEnd, Backwards}
use Rattle.control.specs.declared.fault.Fault.{Fault}
use Rattle.control.specs.declared.scenario.Experiment.{Experiment}

-- the names in the entries of the previous lines, and the commands of the experiment that began last, both from the latest
abbrev pub names : List Entry → List (List ℕ)
names [] = []
names (Begins name spec ∷ before) = name ∷ names before
names (_ ∷ before) = names before

abbrev pub commands : List Entry → Option (List Timed)
commands [] = None
commands (Begins name spec ∷ before) = Some []
commands (Does c ∷ before) = option_map (λ cs. c ∷ cs) (commands before)
commands (Nothing ∷ before) = commands before

-- an experiment has begun and has no end
abbrev pub IsRunning : List Entry → Type 0
IsRunning before = (cs : List Timed) × (commands before ≡ Some cs) × (has_end cs ≡ false)

-- the causes that depend on the previous lines: for the line of an experiment, and for a command
abbrev pub FaultsBegin : Cause → List Entry → List ℕ → Type 0
FaultsBegin NoEnd before name = IsRunning before
FaultsBegin TooMany before name = 256 ≤ length (names before)
FaultsBegin SameName before name = list_any (λ other. bytes_eq other name) (names before) ≡ true
FaultsBegin _ before name = ⊥

abbrev pub FaultsDo : Cause → List Entry → Timed → Type 0
FaultsDo NoExperiment before c = commands before ≡ None
FaultsDo AfterEnd before c = (cs : List Timed) × (commands before ≡ Some cs) × (has_end cs ≡ true)
FaultsDo Backwards before c = (last : Timed) × (cs : List Timed) × (commands before ≡ Some (last ∷ cs)) × (c.moment < last.moment)
FaultsDo _ before c = ⊥

abbrev pub FaultsEntry : Cause → List Entry → Entry → Type 0
FaultsEntry cause before Nothing = ⊥
FaultsEntry cause before (Begins name spec) = FaultsBegin cause before name
FaultsEntry cause before (Does c) = FaultsDo cause before c

-- the entry of the line is faulty for this cause
abbrev pub IsOutOfOrder : Cause → List Entry → List ℕ → Type 0
IsOutOfOrder cause before line = (e : Entry) × Says line e × FaultsEntry cause before e

-- the table of causes: whether a cause applies to the line, after the lines before it
abbrev pub Stands : Cause → List Entry → List ℕ → Type 0
Stands TooBig before line = ⊥
Stands Cut before line = ⊥
Stands TooLong before line = StandsAlone alone.TooLong line
Stands BadByte before line = StandsAlone alone.BadByte line
Stands BadWord before line = StandsAlone alone.BadWord line
Stands OutOfRange before line = StandsAlone alone.OutOfRange line
Stands NoEnd before line = IsOutOfOrder NoEnd before line
Stands TooMany before line = IsOutOfOrder TooMany before line
Stands SameName before line = IsOutOfOrder SameName before line
Stands NoExperiment before line = IsOutOfOrder NoExperiment before line
Stands AfterEnd before line = IsOutOfOrder AfterEnd before line
Stands Backwards before line = IsOutOfOrder Backwards before line

-- the place of a cause in the table
abbrev pub rank : Cause → ℕ
rank TooBig = 0
rank Cut = 1
rank TooLong = 2
rank BadByte = 3
rank BadWord = 4
rank OutOfRange = 5
rank NoEnd = 6
rank TooMany = 7
rank SameName = 8
rank NoExperiment = 9
rank AfterEnd = 10
rank Backwards = 11

-- the first cause that applies
abbrev pub IsFirst : Cause → List Entry → List ℕ → Type 0
IsFirst cause before line = Stands cause before line × ((other : Cause) → rank other < rank cause → Stands other before line → ⊥)

-- no cause applies
abbrev pub IsFine : List Entry → List ℕ → Type 0
IsFine before line = (cause : Cause) → Stands cause before line → ⊥

-- ---- faults
-- the fault of the lines from number n on, after the lines before them; the last item is what follows the last line feed
abbrev pub IsFault : ℕ → List Entry → List (List ℕ) → Fault → Type 0
IsFault n before [] f = ⊥
IsFault n before (line ∷ []) f = ((line ≡ []) × IsRunning before × (f ≡ record { line = n; cause = NoEnd })) ⊎ ((0 < length line) × (f ≡ record { line = n; cause = Cut }))
IsFault n before (line ∷ more ∷ rest) f = ((f.line ≡ n) × IsFirst f.cause before line) ⊎ ((e : Entry) × IsFine before line × Says line e × IsFault (n + 1) (e ∷ before) (more ∷ rest) f)

abbrev pub HasFault : List ℕ → Fault → Type 0
HasFault bytes f = ((16777216 < length bytes) × (f ≡ record { line = 0; cause = TooBig })) ⊎ ((length bytes ≤ 16777216) × IsFault 1 [] (lines bytes) f)

-- ---- scenarios
abbrev pub begun : List ℕ → Spec → Experiment
begun name spec = record { name = name; spec = spec; commands = [] }

abbrev pub with_command : Experiment → Timed → Experiment
with_command e c = record e { commands = e.commands ++ c ∷ [] }

-- a command belongs to the last experiment
abbrev pub with_last : List Experiment → Timed → List Experiment
with_last [] c = []
with_last (e ∷ []) c = with_command e c ∷ []
with_last (e ∷ f ∷ more) c = e ∷ with_last (f ∷ more) c

-- the experiments of the previous lines
abbrev pub experiments : List Entry → List Experiment
experiments [] = []
experiments (Nothing ∷ before) = experiments before
experiments (Begins name spec ∷ before) = experiments before ++ begun name spec ∷ []
experiments (Does c ∷ before) = with_last (experiments before) c

-- the lines spell these experiments, after the lines before them: none of them is faulty, each has an entry, and the last
-- experiment has its end
abbrev pub AreSpelled : List Entry → List (List ℕ) → List Experiment → Type 0
AreSpelled before [] s = ⊥
AreSpelled before (line ∷ []) s = (line ≡ []) × (IsRunning before → ⊥) × (experiments before ≡ s)
AreSpelled before (line ∷ more ∷ rest) s = (e : Entry) × IsFine before line × Says line e × AreSpelled (e ∷ before) (more ∷ rest) s

abbrev pub Spells : List ℕ → List Experiment → Type 0
Spells bytes s = (length bytes ≤ 16777216) × AreSpelled [] (lines bytes) s

-- ---- memory
-- the entry must be stored
abbrev pub Grows : Entry → Type 0
Grows Nothing = ⊥
Grows (Begins name spec) = Unit {0}
Grows (Does c) = Unit {0}

-- a line without a fault, after lines without faults, has an entry that must be stored
abbrev pub NeedRoom : List Entry → List (List ℕ) → Type 0
NeedRoom before [] = ⊥
NeedRoom before (line ∷ []) = ⊥
NeedRoom before (line ∷ more ∷ rest) = (e : Entry) × IsFine before line × Says line e × (Grows e ⊎ NeedRoom (e ∷ before) (more ∷ rest))

abbrev pub NeedsRoom : List ℕ → Type 0
NeedsRoom bytes = (length bytes ≤ 16777216) × NeedRoom [] (lines bytes)
