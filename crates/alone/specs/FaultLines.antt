-- The line for a fault.
use Rattle.std.specs.Prelude.{◌≡◌, ℕ, Bool, false, List, ◌++◌, codes, decimal, Option}
use Rattle.std.specs.Io.KnownBytes.{Appends}
use Rattle.control.specs.declared.fault.Fault.{Fault}
use Rattle.session.specs.Lines.{cause_word}
use Rattle.alone.specs.declared.fault.RunFault.{RunFault}
use Rattle.alone.specs.declared.fault.RunFault.TheVariants as faults
use Rattle.alone.specs.Bytes.{IsCut}

abbrev pub scenario_line : Fault → List ℕ
scenario_line f = codes "line " ++ (decimal f.line ++ (codes ": " ++ (cause_word f.cause ++ codes "\n")))

abbrev pub fault_line : RunFault → List ℕ
fault_line (faults.Scenario f) = scenario_line f
fault_line faults.Read = codes "read\n"
fault_line faults.Write = codes "write\n"
fault_line faults.Memory = codes "memory\n"
fault_line faults.Strange = codes "strange\n"
fault_line faults.Gate = codes "gate\n"

-- a text was given to a writer that can fail: it wrote a prefix of the text, and the whole text unless it has failed
pub record IsSaid (text : List ℕ) (old new : Option (List ℕ)) (failed : Bool) : Type 0 where
  pub some : IsCut old new text
  pub all : failed ≡ false → Appends old new text
