use Rattle.std.proofs.Common.{◌≡◌, ℕ}
use Rattle.packet_store.specs.Pocket.{Pocket}
use Rattle.shard.specs.Seats.{IsShard, HasBegun}
use Rattle.shard.proofs.shard.begin_all_anew.Given as goal

abbrev pub invariant-loop-slot : goal.invariant-loop-slot
invariant-loop-slot g l =
    ((pockets : ℕ → Pocket) (clock : ℕ) → IsShard g.M.Mail.seen pockets (g.A.Agenda.entries l.initial.agenda) clock l.initial.slots.items → HasBegun g.M.Mail.seen pockets (g.A.Agenda.entries l.agenda) clock l.initial.slots.items l.slots.items l.slot)
    × (g.A.Agenda.time l.agenda ≡ 0)
