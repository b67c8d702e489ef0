-- How a call ends: what was written, of what the text says.
use Rattle.std.proofs.Common.{◌≡◌, ◌≢◌, ℕ, Bool, false, List, [], ◌++◌, map, Option, None, Result, Ok, Err, refl, sym, ap, subst, ◌∙◌, append-nil}
use Rattle.std.specs.Io.KnownBytes.{Appends, Keeps}
use Rattle.control.specs.declared.scenario.Experiment.{Experiment}
use Rattle.alone.specs.Bytes.{IsCut, Puts, Stops, TakesFew}
use Rattle.std.specs.Prelude.{flat_map, IfErr}
use Rattle.alone.specs.declared.whole.Tally.{Tally}
use Rattle.experiment.specs.Written.{KeptReport, texts_of}
use Rattle.alone.specs.declared.limits.Format.{Format}
use Rattle.alone.specs.declared.limits.Format.TheVariants.{Text}
use Rattle.alone.specs.Reports.{bytes_as, made_alone, output_as, scenario_as, reports, tally, tally_of, tally_line, Reads, Writes, WritesCut, Ends, writer_failed}
use Rattle.alone.specs.declared.fault.RunFault.TheVariants.{Scenario, Read, Write, Memory, Strange, Gate}
use Rattle.alone.specs.declared.limits.Limits.{Limits}
use Rattle.alone.specs.declared.limits.Stop.{Stop}
use Rattle.alone.specs.declared.limits.Stop.TheVariants.{Fault, Steps, Output}
use Rattle.alone.specs.Within.{CallsWithin, IsOwnStop, MakesWithin, WritesOut, leaves}
use Rattle.alone.proofs.Writing.{writing_none, writing_done, appends_kept, puts_both, stops_behind}
use Rattle.alone.proofs.Reporting.{made_as}

cut-all : (a b : Option (List ℕ)) (kept bytes : List ℕ) → kept ≡ [] → Stops a kept b bytes → IsCut a b bytes
unfolding Stops
cut-all a b kept bytes none f = subst (λ k. Stops a k b bytes) none f a [] (writing_none a)

all-written : (a b : Option (List ℕ)) (kept bytes : List ℕ) → kept ≡ [] → Puts a kept b [] bytes → Appends a b bytes
unfolding Puts
all-written a b kept bytes none f = writing_done a b bytes (subst (λ k. Puts a k b [] bytes) none f a [] (writing_none a))

-- reports that were made before
pub same-output : (format : Format) (es plans : List Experiment) (rs : List KeptReport) → plans ≡ scenario_as format es → rs ≡ map made_alone plans → bytes_as format rs ≡ output_as format es
same-output format es plans rs are made = ap (bytes_as format) (made ∙ ap (map made_alone) are) ∙ made_as format es

pub same-texts : (es plans : List Experiment) (rs : List KeptReport) → plans ≡ es → rs ≡ map made_alone plans → texts_of rs ≡ reports es
same-texts es plans rs are made = same-output Text es plans rs are made

-- what is written out by way of a buffer
pub out_cut : (a b : Option (List ℕ)) (kept bytes text : List ℕ) → kept ≡ [] → bytes ≡ text → Stops a kept b bytes → WritesOut a b text (Err (Fault Write))
out_cut a b kept bytes text none is f = subst (IsCut a b) is (cut-all a b kept bytes none f)

pub out_cut_after : (a b c : Option (List ℕ)) (kept l bytes text : List ℕ) → kept ≡ [] → bytes ≡ text → Puts a kept b l bytes → Stops b l c [] →
    WritesOut a c text (Err (Fault Write))
out_cut_after a b c kept l bytes text none is f g =
    out_cut a c kept bytes text none is (subst (Stops a kept c) (append-nil bytes) (stops_behind a b c kept l bytes [] f g))

pub out_written : (a b c : Option (List ℕ)) (kept l bytes text : List ℕ) → kept ≡ [] → bytes ≡ text → Puts a kept b l bytes → Puts b l c [] [] →
    WritesOut a c text (Ok tt)
out_written a b c kept l bytes text none is f g =
    subst (Appends a c) (append-nil bytes ∙ is) (all-written a c kept (bytes ++ []) none (puts_both a b c kept l [] bytes [] f g))

-- how a call ends that writes out reports
pub out_own : (a b : Option (List ℕ)) (text : List ℕ) (result : Result (Unit {0}) Stop) → WritesOut a b text result → IfErr result IsOwnStop
out_own a b text (Ok x) out = tt
out_own a b text (Err (Fault (Scenario f))) out = absurd out
out_own a b text (Err (Fault Read)) out = absurd out
out_own a b text (Err (Fault Write)) out = tt
out_own a b text (Err (Fault Memory)) out = tt
out_own a b text (Err (Fault Strange)) out = absurd out
out_own a b text (Err (Fault Gate)) out = absurd out
out_own a b text (Err (Steps number total)) out = tt
out_own a b text (Err (Output bytes)) out = tt

-- the line of `check`
pub written : (read a b c : Option (List ℕ)) (line : List ℕ) (t : Tally) → ((es : List Experiment) × Reads read es × (t ≡ tally_of es)) → line ≡ tally_line t → Appends a b line → Keeps b c → Writes tally read a c
written read a b c line t (es, reads, are) is f g = (es, reads, subst (Appends a c) (is ∙ ap tally_line are) (appends_kept a b c line f g))

pub cut : (read a b : Option (List ℕ)) (line : List ℕ) (t : Tally) → ((es : List Experiment) × Reads read es × (t ≡ tally_of es)) → line ≡ tally_line t → IsCut a b line → WritesCut tally read a b
cut read a b line t (es, reads, are) is f = (es, reads, subst (IsCut a b) (is ∙ ap tally_line are) f)

pub cut_after : (read a b c : Option (List ℕ)) (line : List ℕ) (t : Tally) → ((es : List Experiment) × Reads read es × (t ≡ tally_of es)) → line ≡ tally_line t → Appends a b line → Keeps b c → WritesCut tally read a c
unfolding IsCut
cut_after read a b c line t (es, reads, are) is f g =
    (es, reads, (tally es, [], subst (Appends a c) (is ∙ ap tally_line are) (appends_kept a b c line f g), sym (append-nil (tally es))))
