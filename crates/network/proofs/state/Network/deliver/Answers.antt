use Rattle.network.proofs.AsReady.{as-deliver, noted-as-ready}
use Rattle.network.proofs.state.Network.deliver.Goals as goal

pub take_load-requires-clause-ready : goal.take_load-requires-clause-ready
take_load-requires-clause-ready g c =
    as-deliver c.args.self.now c.note.new.self (noted-as-ready c.args.self.now c.note.new.self c.note.ensures.rest)
    c.args.packet.now.load c.args.lookup.now c.requires.ready
