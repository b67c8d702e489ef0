-- What a report says besides its refusals.
use Rattle.std.specs.Prelude.{ℕ, ◌+◌, List, [], ◌∷◌, ◌++◌, Option, Some, None, Bool, true, false, min, position, slice_get, slice_set, ◌==◌}
use Rattle.emu_model.specs.declared.packets.Load.{Load}
use Rattle.emu_model.specs.declared.packets.Load.TheVariants.{Plain, Seg, Ack}
use Rattle.emu_model.specs.declared.records.DropCause.{DropCause}
use Rattle.emu_model.specs.declared.records.DropCause.TheVariants as causes
use Rattle.emu_model.specs.declared.records.Record.{Record}
use Rattle.emu_model.specs.declared.records.Record.TheVariants.{PacketDropped, StepsSpent}
use Rattle.explain.specs.declared.notes.Note.{Note}
use Rattle.explain.specs.declared.notes.Subject.{Subject}
use Rattle.explain.specs.declared.notes.Subject.TheVariants.{Spent, OverBudget, NoPipe, DeniedPlain, DeniedData, DeniedAck}

-- a packet with this load that the rules denied
abbrev pub denied : Load → Subject
denied Plain = DeniedPlain
denied (Seg flow first) = DeniedData flow
denied (Ack flow upto) = DeniedAck flow

-- of drops, those by the rules, for the budget and for want of a pipe are counted
abbrev pub dropped : DropCause → Load → Option Subject
dropped causes.Denied load = Some (denied load)
dropped causes.Budget load = Some OverBudget
dropped causes.NoPipe load = Some NoPipe
dropped _ load = None

abbrev pub is_same : Subject → Subject → Bool
is_same Spent Spent = true
is_same OverBudget OverBudget = true
is_same NoPipe NoPipe = true
is_same DeniedPlain DeniedPlain = true
is_same (DeniedData f) (DeniedData g) = f == g
is_same (DeniedAck f) (DeniedAck g) = f == g
is_same _ _ = false

-- once more
abbrev pub once_more : Note → Note
once_more n = record n { count = min (n.count + 1) 18446744073709551615 }

abbrev pub more_at : List Note → ℕ → Option Note → List Note
more_at ns k None = ns
more_at ns k (Some n) = slice_set ns k (once_more n)

abbrev pub counted : ℕ → ℕ → Subject → List Note → Option ℕ → List Note
counted e m s ns None = ns ++ record { experiment = e; subject = s; first = m; count = 1 } ∷ []
counted e m s ns (Some k) = more_at ns k (slice_get ns k)

-- counted once more where it is there, else it stands last
abbrev pub noted : ℕ → ℕ → Subject → List Note → List Note
noted e m s ns = counted e m s ns (position (λ n. is_same s n.subject) ns)

abbrev pub noted_if : ℕ → ℕ → Option Subject → List Note → List Note
noted_if e m None ns = ns
noted_if e m (Some s) ns = noted e m s ns

-- what a record of the experiment with this number says is counted
abbrev pub noted_by : ℕ → Record → List Note → List Note
noted_by e (StepsSpent m) ns = noted e m Spent ns
noted_by e (PacketDropped m packet load cause) ns = noted_if e m (dropped cause load) ns
noted_by e _ ns = ns

-- one record after the other, behind these notes
abbrev pub notes_from : ℕ → List Record → List Note → List Note
notes_from e [] ns = ns
notes_from e (r ∷ rs) ns = notes_from e rs (noted_by e r ns)

abbrev pub notes_of : ℕ → List Record → List Note
notes_of e rs = notes_from e rs []
