use Rattle.packet_store.proofs.Shelves.{has_all-take}
use Rattle.packet_store.proofs.reserved.ReservedShelfShelf.take.Goals as goal

pub invariant_of-self : goal.invariant_of-self
invariant_of-self c =
    has_all-take c.self.inside.shelf c.take.new.self c.take.result c.args.key c.self.invariant c.take.ensures.some c.take.ensures.none (c.take.ensures.room 0) c.take.ensures.grows
