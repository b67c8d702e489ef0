use Rattle.std.proofs.Common.{IsSome, sym, subst}
use Rattle.emu_model.specs.Commands.{source_refusal}
use Rattle.emu_model.specs.Step.{setting}
use Rattle.network.specs.Kept.{net_of}
use Rattle.network.specs.Ready.{TakesNoMemory}
use Rattle.network.proofs.Obeying.{kind-obeyed, kind-obeys}
use Rattle.network.proofs.state.Network.obey.Goals as goal

pub returns-in-PipeDelete-clause-ok : goal.returns-in-PipeDelete-clause-ok
returns-in-PipeDelete-clause-ok g c =
    kind-obeyed c.in-PipeDelete.is c.requires.stands.housed c.obey_ready.ensures.still (setting c.args.spec.now c.args.now) c.args.number _ _ _ c.delete_pipe.ensures.ok

pub returns-in-Inject-clause-ok : goal.returns-in-Inject-clause-ok
returns-in-Inject-clause-ok g c =
    kind-obeyed c.in-Inject.is c.requires.stands.housed c.obey_ready.ensures.still (setting c.args.spec.now c.args.now) c.args.number _ _ _ c.inject.ensures.ok

pub returns-in-Add-clause-ok : goal.returns-in-Add-clause-ok
returns-in-Add-clause-ok g c =
    kind-obeys c.in-Add.is c.requires.stands.housed c.obey_ready.ensures.still (setting c.args.spec.now c.args.now) c.args.number _ _ c.add.ensures.ok

pub returns-in-Delete-clause-ok : goal.returns-in-Delete-clause-ok
returns-in-Delete-clause-ok g c =
    kind-obeys c.in-Delete.is c.requires.stands.housed c.obey_ready.ensures.still (setting c.args.spec.now c.args.now) c.args.number _ _ c.delete.ensures.ok

pub returns-in-Config-clause-ok : goal.returns-in-Config-clause-ok
returns-in-Config-clause-ok g c =
    kind-obeys c.in-Config.is c.requires.stands.housed c.obey_ready.ensures.still (setting c.args.spec.now c.args.now) c.args.number _ _ c.configure.ensures.ok

pub returns-in-PipeShow-clause-ok : goal.returns-in-PipeShow-clause-ok
returns-in-PipeShow-clause-ok g c =
    kind-obeys c.in-PipeShow.is c.requires.stands.housed c.obey_ready.ensures.still (setting c.args.spec.now c.args.now) c.args.number _ _ c.show_pipes.ensures.ok

pub returns-in-Show-clause-ok : goal.returns-in-Show-clause-ok
returns-in-Show-clause-ok g c =
    kind-obeys c.in-Show.is c.requires.stands.housed c.obey_ready.ensures.still (setting c.args.spec.now c.args.now) c.args.number _ _ c.show_rules.ensures.ok

pub returns-in-Train-clause-ok : goal.returns-in-Train-clause-ok
returns-in-Train-clause-ok g c =
    kind-obeys c.in-Train.is c.requires.stands.housed c.obey_ready.ensures.still (setting c.args.spec.now c.args.now) c.args.number _ _ c.start_train.ensures.ok

pub returns-in-Flow-clause-ok : goal.returns-in-Flow-clause-ok
returns-in-Flow-clause-ok g c =
    kind-obeys c.in-Flow.is c.requires.stands.housed c.obey_ready.ensures.still (setting c.args.spec.now c.args.now) c.args.number _ _ c.start_flow.ensures.ok

pub returns-in-Stop-clause-ok : goal.returns-in-Stop-clause-ok
returns-in-Stop-clause-ok g c =
    kind-obeys c.in-Stop.is c.requires.stands.housed c.obey_ready.ensures.still (setting c.args.spec.now c.args.now) c.args.number _ _ c.stop.ensures.ok

pub returns-in-OnePass-clause-ok : goal.returns-in-OnePass-clause-ok
returns-in-OnePass-clause-ok g c =
    kind-obeys c.in-OnePass.is c.requires.stands.housed c.obey_ready.ensures.still (setting c.args.spec.now c.args.now) c.args.number _ _ c.set_one_pass.ensures.ok

pub returns-in-Trace-clause-ok : goal.returns-in-Trace-clause-ok
returns-in-Trace-clause-ok g c =
    kind-obeys c.in-Trace.is c.requires.stands.housed c.obey_ready.ensures.still (setting c.args.spec.now c.args.now) c.args.number _ _ c.set_trace.ensures.ok

pub returns-in-End-clause-ok : goal.returns-in-End-clause-ok
returns-in-End-clause-ok g c =
    kind-obeys c.in-End.is c.requires.stands.housed c.obey_ready.ensures.still (setting c.args.spec.now c.args.now) c.args.number _ _ c.end.ensures.ok

pub returns-in-Train-clause-succeeds : goal.returns-in-Train-clause-succeeds
returns-in-Train-clause-succeeds g c =
    let p = g.S.Shelf.pocket c.args.shelf.now c.args.owner in
    λ asks room.
    let some : IsSome (source_refusal c.in-Train.source (net_of p c.args.self.now)) = subst (λ x. TakesNoMemory x (net_of p c.args.self.now)) c.in-Train.is asks in
    c.start_train.ensures.succeeds p (subst (λ n. IsSome (source_refusal c.in-Train.source (net_of p n))) (sym c.in_ok-obey_ready.ensures.rest) some)

pub returns-in-Flow-clause-succeeds : goal.returns-in-Flow-clause-succeeds
returns-in-Flow-clause-succeeds g c =
    let p = g.S.Shelf.pocket c.args.shelf.now c.args.owner in
    λ asks room.
    let some : IsSome (source_refusal c.in-Flow.source (net_of p c.args.self.now)) = subst (λ x. TakesNoMemory x (net_of p c.args.self.now)) c.in-Flow.is asks in
    c.start_flow.ensures.succeeds p (subst (λ n. IsSome (source_refusal c.in-Flow.source (net_of p n))) (sym c.in_ok-obey_ready.ensures.rest) some)
