use Rattle.network.specs.Ready.{IsReady}
use Rattle.std.proofs.Common.{subst}
use Rattle.network.proofs.Arriving.{ready-placed}
use Rattle.network.proofs.state.Network.hand_on.Goals as goal

pub to_pipe-requires-clause-ready : goal.to_pipe-requires-clause-ready
to_pipe-requires-clause-ready g c =
    ready-placed c.in-IntoPipe.number c.args.packet.now c.in-IntoPipe.place c.args.self.now.table.pipes
    (subst (λ v. IsReady v c.args.packet.now c.args.self.now) c.in-IntoPipe.is c.requires.ready)
