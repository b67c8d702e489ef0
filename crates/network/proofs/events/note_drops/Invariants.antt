use Rattle.std.proofs.Common.{map, take}
use Rattle.emu_model.specs.Net.{drop_record}
use Rattle.network.specs.Changes.{NotesIn}
use Rattle.network.proofs.events.note_drops.Given as goal

abbrev pub invariant-loop-packet : goal.invariant-loop-packet
invariant-loop-packet l =
    NotesIn (map (drop_record l.now) (map (λ p. record { packet = p; cause = l.cause }) (take l.packet-index l.packets))) l.initial.log l.log
