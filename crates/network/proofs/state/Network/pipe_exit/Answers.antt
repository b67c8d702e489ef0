use Rattle.pipe_table.specs.Table.{has_number, IsLeaving}
use Rattle.pipe_table.proofs.CallerLemmas.{position-none, not-leaving}
use Rattle.emu_model.specs.Step.{setting}
use Rattle.network.specs.contracts.state.Network.{the_view}
use Rattle.network.proofs.Steps.{at_view}
use Rattle.network.proofs.state.Network.pipe_exit.Goals as goal

pub unreachable_unchecked-unreachable-requires : goal.unreachable_unchecked-unreachable-requires
unreachable_unchecked-unreachable-requires g c =
    let n = the_view c.self.inside in
    not-leaving c.args.pipe c.args.instance c.args.now n.table.pipes
    (position-none (has_number c.args.pipe) n.table.pipes c.in_default.ensures)
    (at_view (λ m. IsLeaving c.args.pipe c.args.instance c.args.now m.table.pipes) n _ c.self.view_is c.requires.due)
