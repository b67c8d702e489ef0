-- What the calls of the program read and write.
use Rattle.std.specs.Prelude.{◌≡◌, ◌≢◌, IfErr, ℕ, List, ◌++◌, length, map, sum, flat_map, codes, decimal, Option, IfSome, Result, Ok, Err, Bool, true, false}
use Rattle.std.specs.Io.KnownBytes.{Appends, Keeps}
use Rattle.emu_model.specs.Alone.{Trace, alone, trace_of}
use Rattle.report.specs.Lines.{report_of, heading_of}
use Rattle.experiment.specs.Written.{KeptReport, kept_report, npy_of, texts_of}
use Rattle.control.specs.declared.scenario.Experiment.{Experiment}
use Rattle.control.specs.Scenario.{Spells, HasFault}
use Rattle.control.specs.Traced.{traced}
use Rattle.alone.specs.declared.fault.RunFault.{RunFault}
use Rattle.alone.specs.declared.fault.RunFault.TheVariants as faults
use Rattle.alone.specs.declared.limits.Format.{Format}
use Rattle.alone.specs.declared.limits.Format.TheVariants.{Text, TracedText, Npy}
use Rattle.alone.specs.declared.whole.Tally.{Tally}
use Rattle.alone.specs.Bytes.{IsCut, TakesFew}

-- the trace of an experiment that runs alone, after all steps of its budget
abbrev pub trace_alone : Experiment → Trace
trace_alone e = trace_of (alone e.spec e.commands e.spec.budget.steps)

abbrev pub report_with : Experiment → Trace → List ℕ
report_with e t = report_of e.name t.records t.counters

-- the report of an experiment that runs alone, and the reports of several, in their order
abbrev pub report_alone : Experiment → List ℕ
report_alone e = report_with e (trace_alone e)

abbrev pub reports : List Experiment → List ℕ
reports es = flat_map report_alone es

-- the report of an experiment that runs alone, before it is written
abbrev pub made_alone : Experiment → KeptReport
made_alone e = kept_report (heading_of e.name) (trace_alone e)

-- the format with all packets traced
abbrev pub traced_format : Format → Format
traced_format Text = TracedText
traced_format TracedText = TracedText
traced_format Npy = Npy

-- the experiments that run for those of a scenario
abbrev pub scenario_as : Format → List Experiment → List Experiment
scenario_as Text es = es
scenario_as TracedText es = map traced es
scenario_as Npy es = map traced es

-- the output for reports in a format, and for the experiments of a scenario
abbrev pub bytes_as : Format → List KeptReport → List ℕ
bytes_as Text rs = texts_of rs
bytes_as TracedText rs = texts_of rs
bytes_as Npy rs = npy_of rs

abbrev pub output_as : Format → List Experiment → List ℕ
output_as Text es = reports es
output_as TracedText es = reports (map traced es)
output_as Npy es = npy_of (map made_alone (map traced es))

-- the numbers of experiments and commands, and the line that `check` writes for them
abbrev pub tally_of : List Experiment → Tally
tally_of es = record { experiments = length es; commands = sum (map (λ e. length e.commands) es) }

abbrev pub tally_line : Tally → List ℕ
tally_line t = codes "ok " ++ decimal t.experiments ++ codes " " ++ decimal t.commands ++ codes "\n"

abbrev pub tally : List Experiment → List ℕ
tally es = tally_line (tally_of es)

-- the text that was read spells a scenario, and what `says` returns for it was written
abbrev pub Writes : (List Experiment → List ℕ) → Option (List ℕ) → Option (List ℕ) → Option (List ℕ) → Type 0
Writes says read old new = (es : List Experiment) × IfSome read (λ text. Spells text es) × Appends old new (says es)

-- like `Writes`, with a prefix written
abbrev pub WritesCut : (List Experiment → List ℕ) → Option (List ℕ) → Option (List ℕ) → Option (List ℕ) → Type 0
WritesCut says read old new = (es : List Experiment) × IfSome read (λ text. Spells text es) × IsCut old new (says es)

-- a call that reads a scenario and writes what `says` returns for it: `read` was left to read, `old` was
-- written before it and `new` is after it
abbrev pub Calls : (List Experiment → List ℕ) → Option (List ℕ) → Option (List ℕ) → Option (List ℕ) → Result (Unit {0}) RunFault → Type 0
Calls says read old new (Ok _) = Writes says read old new
Calls says read old new (Err (faults.Scenario f)) = IfSome read (λ text. HasFault text f) × Keeps old new
Calls says read old new (Err faults.Read) = Keeps old new
Calls says read old new (Err faults.Write) = WritesCut says read old new
Calls says read old new (Err faults.Memory) = Keeps old new
Calls says read old new (Err faults.Strange) = Keeps old new
Calls says read old new (Err faults.Gate) = Keeps old new

-- whether the reader has failed after a call with this result
abbrev pub reader_failed : {T : Type 0} → Result T RunFault → Bool
reader_failed (Err faults.Read) = true
reader_failed _ = false

-- whether the writer has failed after a call with this result; `old` is whether it had failed before
abbrev pub writer_failed : {T : Type 0} → Bool → Result T RunFault → Bool
writer_failed old (Ok _) = false
writer_failed old (Err faults.Write) = true
writer_failed old (Err _) = old

-- what a call does to its reader and writer: it reads at most one byte past the longest text, each has failed exactly if
-- the result shows it, and the writer is unchanged after any fault other than `Write`
pub record Ends {A : Type 0} (result : Result (Unit {0}) RunFault) (unread rest : Option (List ℕ)) (reading writing written : Bool) (before after : A) : Type 0 where
  pub taken : TakesFew unread rest
  pub read : reading ≡ reader_failed result
  pub write : written ≡ writer_failed writing result
  pub untouched : IfErr result (λ e. e ≢ faults.Write → after ≡ before)

-- the faults that can occur while a text is read
abbrev pub IsInputFault : RunFault → Type 0
IsInputFault faults.Read = Unit {0}
IsInputFault faults.Memory = Unit {0}
IsInputFault _ = ⊥

-- the text that was read spells these experiments
abbrev pub Reads : Option (List ℕ) → List Experiment → Type 0
Reads read es = IfSome read (λ text. Spells text es)

abbrev pub ReadsFault : Option (List ℕ) → RunFault → Type 0
ReadsFault read (faults.Scenario f) = IfSome read (λ text. HasFault text f)
ReadsFault read faults.Read = Unit {0}
ReadsFault read faults.Write = ⊥
ReadsFault read faults.Memory = Unit {0}
ReadsFault read faults.Strange = ⊥
ReadsFault read faults.Gate = ⊥

-- the faults that a text can have by itself: the fault of its scenario, or a failed allocation
abbrev pub IsTextFault : List ℕ → RunFault → Type 0
IsTextFault text (faults.Scenario f) = HasFault text f
IsTextFault text faults.Memory = Unit {0}
IsTextFault text _ = ⊥

-- the faults that do not involve workers
abbrev pub IsOwnFault : RunFault → Type 0
IsOwnFault faults.Strange = ⊥
IsOwnFault faults.Gate = ⊥
IsOwnFault _ = Unit {0}
