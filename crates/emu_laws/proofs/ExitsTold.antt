-- What an exit records first.
use Rattle.std.proofs.Common.{ℕ, [], ◌∷◌, ◌++◌, Bool, true, false, sym, subst, append-nil}
use Rattle.std.specs.Prelude.{if◌then◌else◌}
use Rattle.emu_laws.proofs.Types.{Record, PacketDelivered, PacketPassed}
use Rattle.emu_model.specs.Pipes.{pipe_exit}
use Rattle.emu_model.specs.Rules.{start_behind}
use Rattle.emu_model.specs.Net.{Net, note, put_pipe, deliver, reinject}
use Rattle.emu_model.specs.Events.{leave_pipe_some}
use Rattle.emu_model.specs.RunLaws.{IsExtendedBy}
use Rattle.emu_laws.specs.ExitLines.{exit_line, ExitsAreRecorded}
use Rattle.emu_laws.proofs.EventWalks.{pass_rules_from-walks, take_load-walks}
use Rattle.emu_laws.proofs.RecordsInOrder.{Adds, adds-keeps}
use Rattle.emu_laws.proofs.StepHistory.{AnyLine, AnyNet, AnyCommand}

-- behind a line that is told first
behind : (now : ℕ) (r : Record) (n m : Net) → Adds now (note r n) m → IsExtendedBy (n.records ++ r ∷ []) m.records
behind now r n m a = (a.more, a.records)

nothing-yet : (now : ℕ) (n : Net) → Adds now n n
nothing-yet now n = record { more = []; records = sym (append-nil n.records); moments = tt }

pub exits_are_recorded : ExitsAreRecorded
exits_are_recorded at pipe k n p q e =
    subst (λ o. IsExtendedBy (n.records ++ exit_line at.now pipe k n.one_pass q ∷ [])
    (leave_pipe_some at pipe k o (put_pipe pipe (pipe_exit k p) n)).records) (sym e) (go n.one_pass)
  where
    there : Net
    there = put_pipe pipe (pipe_exit k p) n

    delivery : Record
    delivery = PacketDelivered at.now q.number q.load

    pass : Record
    pass = PacketPassed at.now q.number pipe k

    go : (b : Bool) → IsExtendedBy (n.records ++ exit_line at.now pipe k b q ∷ [])
        (if b then deliver at q there else reinject at q (note pass there)).records
    go true =
        behind at.now delivery there (deliver at q there)
        (take_load-walks at AnyLine AnyNet AnyCommand (λ o m. Adds at.now (note delivery there) m)
        (adds-keeps at (note delivery there)) q.load (note delivery there) (nothing-yet at.now (note delivery there)))
    go false =
        behind at.now pass there (reinject at q (note pass there))
        (pass_rules_from-walks at AnyLine AnyNet AnyCommand (λ o m. Adds at.now (note pass there) m)
        (adds-keeps at (note pass there)) (start_behind q.place n.book.rules) q (note pass there)
        (nothing-yet at.now (note pass there)))
