use Rattle.std.proofs.Common.{◌≡◌, ◌≢◌, ℕ, IsSome}
use Rattle.packet_store.specs.Own.{own_pocket}
use Rattle.shard.specs.Kept.{IsGoing}
use Rattle.shard.specs.Seats.{standing}
use Rattle.shard.specs.Turns.{AreTurns, SaidYes}
use Rattle.shard.proofs.resident.Resident.advance_on.Given as goal

abbrev pub invariant-loop-made : goal.invariant-loop-made
invariant-loop-made g l =
    let p = own_pocket l.initial.shelf in
    let q = own_pocket l.shelf in
    IsGoing g.M.Mail.seen q l.self.experiment l.self.published l.self.mail × IsSome l.self.experiment.next × (l.self.owner ≡ l.initial.self.owner) × (l.self.offset ≡ l.initial.self.offset)
    × AreTurns g.M.Mail.seen l.made (standing p l.initial.self) (standing q l.self) × SaidYes g.W.Watch.hears l.initial.self.name l.made l.initial.watch l.watch
