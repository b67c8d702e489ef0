use Rattle.std.proofs.Common.{length, refl, sym, ap, ◌∙◌, subst, IsSome, arith}
use Rattle.std.specs.Prelude.{is_some}
use Rattle.std.proofs.lemmas.List.{append-nil}
use Rattle.std.specs.Option.{option_map_or}
use Rattle.emu_model.specs.Commands.{delete_pipe}
use Rattle.pipe_core.specs.Keyed.{KeyedPipe}
use Rattle.pipe_table.specs.Table.{with_pipes, pipe_of, has_number, IsTable}
use Rattle.pipe_table.proofs.Splits.{position-none}
use Rattle.pipe_table.proofs.NetFacts.{find-none, find-some}
use Rattle.pipe_table.proofs.At.{on_any_err, sound-by, sound-removed, delete-at, count-at, keys-removed, pipe-at, named-at}
use Rattle.std.specs.Prelude.{slice_get}
use Rattle.pipe_table.specs.Leaves.{AreIndexed}
use Rattle.pipe_table.specs.Places.{AreLed}
use Rattle.pipe_table.proofs.PlaceFacts.{entries-remove}
use Rattle.pipe_table.proofs.Indexes.{indexed-long}
use Rattle.pipe_table.proofs.table.PipeTable.delete.Goals as goal

pub returns-in_default-clause-ok : goal.returns-in_default-clause-ok
returns-in_default-clause-ok g c = λ now n.
    let p = g.S.Shelf.pocket c.args.shelf.now c.args.owner in
    let m = with_pipes p c.args.self.now n in
    ap (λ o. option_map_or (delete_pipe now c.args.number m) o m)
    (find-none p c.args.number c.args.self.now.pipes n (position-none (has_number c.args.number) c.args.self.now.pipes c.in_default.ensures))
    ∙ (λ z. record m { records = sym (append-nil m.records) z })

pub returns-in_default-clause-there : goal.returns-in_default-clause-there
returns-in_default-clause-there g c = λ n.
    let p = g.S.Shelf.pocket c.args.shelf.now c.args.owner in
    sym (ap is_some (find-none p c.args.number c.args.self.now.pipes n (position-none (has_number c.args.number) c.args.self.now.pipes c.in_default.ensures)))

pub delete-requires : goal.delete-requires
delete-requires g c =
    named-at c.args.number c.in-Some.place c.self.inside.pipes.items c.index_mut.result.now (rw (← c.self.view_is) at c.in-Some.ensures) c.index_mut.ensures.value (g.S.Shelf.pocket c.args.shelf.now c.args.owner) (rw (← c.self.view_is) at c.requires)

pub invariant_of-self-2 : goal.invariant_of-self-2
invariant_of-self-2 g c = (
  sound-by c.self.inside.seed (sym c.remove.ensures.items) (sound-removed c.args.number c.in-Some.place c.self.inside.pipes.items c.index_mut.result.now (rw (← c.self.view_is) at c.in-Some.ensures) c.index_mut.ensures.value c.self.inside.seed c.delete.new.self c.self.invariant.0),
  subst (λ ps. AreIndexed ps c.index_all.new.dues) c.deref.ensures.value c.index_all.ensures,
  subst (λ ps. AreLed ps c.lead_all.new.places) c.deref-2.ensures.value c.lead_all.ensures,
)

pub returns-clause-ok : goal.returns-clause-ok
returns-clause-ok g c = λ now n.
    let p = g.S.Shelf.pocket c.args.shelf.now c.args.owner in
    let q = g.S.Shelf.pocket c.delete.new.shelf c.args.owner in
    rw (← c.self.view_is, c.remove.ensures.items)
    (delete-at c.args.number c.in-Some.place c.self.inside.pipes.items c.index_mut.result.now (rw (← c.self.view_is) at c.in-Some.ensures) c.index_mut.ensures.value c.keys_say_all.ensures.agree p q c.delete.new.self (rw (← c.self.view_is) at c.requires) c.delete.ensures.keys
    now c.self.inside.seed n c.in_ok-gone.gone.items c.in_ok-gone.ensures.gone)

pub returns-clause-there : goal.returns-clause-there
returns-clause-there g c = λ n.
    let p = g.S.Shelf.pocket c.args.shelf.now c.args.owner in
    rw (← c.self.view_is) (sym (ap is_some (find-some p c.args.number c.self.inside.pipes.items c.index_mut.result.now n (pipe-at c.args.number c.in-Some.place c.self.inside.pipes.items c.index_mut.result.now (rw (← c.self.view_is) at c.in-Some.ensures) c.index_mut.ensures.value))))

pub returns-clause-count : goal.returns-clause-count
returns-clause-count g c =
    count-at c.args.number c.in-Some.place c.self.inside.pipes.items c.index_mut.result.now (rw (← c.self.view_is) at c.in-Some.ensures) c.index_mut.ensures.value c.keys_say_all.ensures.packets (g.S.Shelf.pocket c.args.shelf.now c.args.owner) c.in_ok-gone.gone.items
    (rw (← c.self.view_is) at c.requires) c.in_ok-gone.ensures.gone

pub returns-clause-keys : goal.returns-clause-keys
returns-clause-keys g c =
    rw (← c.self.view_is, c.remove.ensures.items)
    (keys-removed c.args.number c.in-Some.place c.self.inside.pipes.items c.index_mut.result.now (rw (← c.self.view_is) at c.in-Some.ensures) c.index_mut.ensures.value (g.S.Shelf.pocket c.args.shelf.now c.args.owner) (g.S.Shelf.pocket c.delete.new.shelf c.args.owner) c.delete.new.self
    (ap (λ (p : KeyedPipe). p.slots) c.in_ok-gone.ensures.empty) c.delete.ensures.keys)

pub returns-in_err-gone-clause-memory : goal.returns-in_err-gone-clause-memory
returns-in_err-gone-clause-memory g c =
    let there : IsSome (pipe_of c.args.number c.self.inside.pipes.items) = subst IsSome (sym (pipe-at c.args.number c.in-Some.place c.self.inside.pipes.items c.index_mut.result.now (rw (← c.self.view_is) at c.in-Some.ensures) c.index_mut.ensures.value)) refl in
    rw (← c.self.view_is) (on_any_err c.from_residual.result there)

pub index_all-requires : goal.index_all-requires
index_all-requires g c =
    omega (
      arith,
      c.deref.ensures.len,
      c.remove.ensures.len,
      indexed-long c.self.inside.pipes.items c.self.inside.dues c.self.invariant.1,
      c.self.inside.pipes.ok.0,
    )

pub lead_all-requires-clause-few : goal.lead_all-requires-clause-few
lead_all-requires-clause-few g c =
    omega (arith, ap (λ l. length l) (c.deref-2.ensures.value ∙ c.remove.ensures.items), (sound-removed c.args.number c.in-Some.place c.self.inside.pipes.items c.index_mut.result.now (rw (← c.self.view_is) at c.in-Some.ensures) c.index_mut.ensures.value c.self.inside.seed c.delete.new.self c.self.invariant.0).1)

pub lead_all-requires-clause-sorted : goal.lead_all-requires-clause-sorted
lead_all-requires-clause-sorted g c = (
  c.self.inside.seed,
  subst (IsTable c.self.inside.seed 0) (sym (c.deref-2.ensures.value ∙ c.remove.ensures.items)) (sound-removed c.args.number c.in-Some.place c.self.inside.pipes.items c.index_mut.result.now (rw (← c.self.view_is) at c.in-Some.ensures) c.index_mut.ensures.value c.self.inside.seed c.delete.new.self c.self.invariant.0).0,
)

pub lead_all-requires-clause-entries : goal.lead_all-requires-clause-entries
lead_all-requires-clause-entries g c = λ i q e.
    entries-remove c.args.number c.in-Some.place c.self.inside.pipes.items c.index_mut.result.now (rw (← c.self.view_is) at c.in-Some.ensures) c.index_mut.ensures.value c.delete.new.self
    c.self.inside.places c.self.invariant.2 i q
    (ap (λ l. slice_get l i) (sym (c.deref-2.ensures.value ∙ c.remove.ensures.items)) ∙ e)
