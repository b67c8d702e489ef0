-- What a session did, as a task has it.
use Rattle.std.proofs.Common.{◌≡◌, ℕ, Bool, false, List, [], Option, Some, None, Result, Ok, Err, refl}
use Rattle.std.specs.Prelude.{IfErr, flat_map}
use Rattle.std.specs.List.{AllByRecursion}
use Rattle.std.specs.Io.KnownBytes.{Appends, Consumes}
use Rattle.std.proofs.KnownBytes.{Appends-nil}
use Rattle.control.specs.Scenario.{Spells}
use Rattle.control.specs.declared.scenario.Experiment.{Experiment as Script}
use Rattle.control_words.specs.Text.{lines}
use Rattle.session.specs.Sessions.{Piece, IsPlain, told, written}
use Rattle.session.specs.Tracing.{run_all_as}
use Rattle.alone.specs.declared.fault.RunFault.{RunFault}
use Rattle.alone.specs.declared.fault.RunFault.TheVariants.{Scenario, Read, Write, Memory, Strange, Gate}
use Rattle.alone.specs.Bytes.{IsCut}
use Rattle.alone.specs.FaultLines.{IsSaid}
use Rattle.alone.specs.Conversations.{Converses, IsEnded, Leaves}
use Rattle.alone.specs.Reports.{IsOwnFault, reports}
use Rattle.alone.specs.Talks.{AsksForAll}
use Rattle.command_line.specs.Tasks.{IsReadOf, Talks}

ended : (text rest : List ℕ) (failed : Bool) (r : Result (Unit {0}) RunFault) → Leaves text (Some rest) failed r → IsEnded r → rest ≡ []
ended text rest failed (Ok x) left end = left.0
ended text rest failed (Err (Scenario f)) left end = left.0
ended text rest failed (Err Read) left end = absurd end
ended text rest failed (Err Write) left end = absurd end
ended text rest failed (Err Memory) left end = absurd end
ended text rest failed (Err Strange) left end = absurd end
ended text rest failed (Err Gate) left end = absurd end

was_read : (read rest : Option (List ℕ)) (text : List ℕ) (failed : Bool) (r : Result (Unit {0}) RunFault) → Consumes read rest text → Leaves text rest failed r → IsReadOf read text r
was_read None rest text failed r took left = tt
was_read (Some all) None text failed r took left = absurd took
was_read (Some all) (Some rest) text failed r took left = (rest, took, ended text rest failed r left)

pub talks : (explain : Bool) (steps : Option ℕ) (given : List ℕ → Type 0) (read rest old new : Option (List ℕ)) (failed : Bool) (r : Result (Unit {0}) RunFault) → IfErr r IsOwnFault →
    ((text : List ℕ) × given text × Consumes read rest text × Converses (λ line cause hint. explain ≡ false → hint ≡ []) steps text old new r × Leaves text rest failed r) →
    ((all : List ℕ) → read ≡ Some all → r ≡ Ok tt → (ps : List Piece) × Appends old new (flat_map written ps)
    × ((es : List Script) (on : Bool) → Spells all es → AsksForAll on (lines all) → AllByRecursion IsPlain ps → flat_map told ps ≡ reports (run_all_as on es))) →
    Talks explain steps given read old new r
talks explain steps given read rest old new failed r own (text, gave, took, converses, left) tells =
    record { own = own; text = text; given_is = gave; read_is = was_read read rest text failed r took left; converses = converses; tells = tells }

-- nothing is said
pub said_none : (a : Option (List ℕ)) (failed : Bool) → IsSaid [] a a failed
unfolding IsCut
said_none a failed = record { some = ([], [], Appends-nil a, refl); all = λ sound. Appends-nil a }
