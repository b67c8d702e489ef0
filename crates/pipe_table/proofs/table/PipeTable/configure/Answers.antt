use Rattle.std.proofs.Common.{sym, ap, ◌∙◌}
use Rattle.emu_model.specs.Pipes.{PipeState}
use Rattle.pipe_core.specs.Moves.{some_packet, packet_at}
use Rattle.pipe_table.specs.Table.{has_number}
use Rattle.pipe_table.proofs.Splits.{position-none}
use Rattle.pipe_table.proofs.At.{sound-at, configure-at, refusal-at, configure-none, refusal-none, ok-by, match-by, keys-set}
use Rattle.pipe_table.proofs.Splits.{position-within}
use Rattle.pipe_table.proofs.Indexes.{indexed-set, indexed-within}
use Rattle.pipe_table.proofs.PlaceFacts.{led-set}
use Rattle.pipe_table.proofs.table.PipeTable.configure.Goals as goal

pub make-requires : goal.make-requires
make-requires c = position-none (has_number c.args.number) c.args.self.now.pipes c.in_default.ensures

pub returns-in_default-clause-ok : goal.returns-in_default-clause-ok
returns-in_default-clause-ok c =
    ok-by c.make.result
    (λ h p n. configure-none c.args.number c.args.config.now c.args.self.now.pipes c.args.self.now.seed p n
    (position-none (has_number c.args.number) c.args.self.now.pipes c.in_default.ensures) ∙ h p n)
    c.make.ensures.ok

pub returns-in_default-clause-refusal : goal.returns-in_default-clause-refusal
returns-in_default-clause-refusal c =
    match-by c.make.result
    (λ t h p n. refusal-none c.args.number c.args.config.now c.args.self.now.pipes c.args.self.now.seed p n
    (position-none (has_number c.args.number) c.args.self.now.pipes c.in_default.ensures) ∙ h p n)
    (λ e h p n. refusal-none c.args.number c.args.config.now c.args.self.now.pipes c.args.self.now.seed p n
    (position-none (has_number c.args.number) c.args.self.now.pipes c.in_default.ensures) ∙ h p n)
    c.make.ensures.refusal

pub returns-in-Some-configure-clause-refusal : goal.returns-in-Some-configure-clause-refusal
returns-in-Some-configure-clause-refusal c = λ p n.
    rw (← c.self.view_is) (refusal-at c.args.number c.in-Some.place c.self.inside.pipes.items c.index_mut.result.now (rw (← c.self.view_is) at c.in-Some.ensures) c.index_mut.ensures.value c.args.config.now c.self.inside.seed p n ∙ sym (c.in-Some-configure.ensures.refusal (packet_at p.find)))

pub invariant_of-self-2 : goal.invariant_of-self-2
invariant_of-self-2 c = (
  sound-at c.args.number c.in-Some.place c.self.inside.pipes.items c.index_mut.result.now (rw (← c.self.view_is) at c.in-Some.ensures) c.index_mut.ensures.value c.self.inside.seed c.configure.new.self c.self.invariant.0 c.configure.ensures.seed
      (ap (λ (s : PipeState). s.number) (c.in_default-configure.ensures.done (λ k. some_packet))),
  indexed-set c.self.inside.pipes.items c.in-Some.place c.configure.new.self c.index.result.now c.self.inside.dues c.set.new.self
      c.least.result c.self.invariant.1 (position-within (has_number c.args.number) c.self.inside.pipes.items c.in-Some.place c.index_mut.result.now (rw (← c.self.view_is) at c.in-Some.ensures))
      c.index.ensures c.least.ensures.due c.least.ensures.number c.least.ensures.few c.set.ensures,
  led-set c.self.inside.pipes.items c.in-Some.place c.index_mut.result.now c.configure.new.self c.self.inside.places
      (position-within (has_number c.args.number) c.self.inside.pipes.items c.in-Some.place c.index_mut.result.now (rw (← c.self.view_is) at c.in-Some.ensures))
      c.index_mut.ensures.value (ap (λ (s : PipeState). s.number) (c.in_default-configure.ensures.done (λ k. some_packet))) c.self.invariant.2,
)

pub returns-clause-ok : goal.returns-clause-ok
returns-clause-ok c = λ p n.
    rw (← c.self.view_is) (configure-at c.args.number c.in-Some.place c.self.inside.pipes.items c.index_mut.result.now (rw (← c.self.view_is) at c.in-Some.ensures) c.index_mut.ensures.value c.args.config.now c.configure.new.self c.in_default-configure.ensures.done c.self.inside.seed p n)

pub returns-clause-refusal : goal.returns-clause-refusal
returns-clause-refusal c = λ p n.
    rw (← c.self.view_is) (refusal-at c.args.number c.in-Some.place c.self.inside.pipes.items c.index_mut.result.now (rw (← c.self.view_is) at c.in-Some.ensures) c.index_mut.ensures.value c.args.config.now c.self.inside.seed p n ∙ sym (c.in_default-configure.ensures.refusal (packet_at p.find)))

pub returns-clause-keys : goal.returns-clause-keys
returns-clause-keys c = rw (← c.self.view_is) (keys-set c.args.number c.in-Some.place c.self.inside.pipes.items c.index_mut.result.now (rw (← c.self.view_is) at c.in-Some.ensures) c.index_mut.ensures.value c.configure.new.self c.configure.ensures.keys)

pub returns-in_default-clause-memory : goal.returns-in_default-clause-memory
returns-in_default-clause-memory c = λ refused. position-none (has_number c.args.number) c.args.self.now.pipes c.in_default.ensures

pub set-requires : goal.set-requires
set-requires c =
    indexed-within c.self.inside.pipes.items c.self.inside.dues c.in-Some.place c.self.invariant.1
    (position-within (has_number c.args.number) c.self.inside.pipes.items c.in-Some.place c.index_mut.result.now (rw (← c.self.view_is) at c.in-Some.ensures))
