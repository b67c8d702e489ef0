use Rattle.std.proofs.Common.{length, sym, ap, ◌∙◌, subst, arith}
use Rattle.std.specs.List.{insert, position_or_len}
use Rattle.pipe_core.specs.Moves.{packet_at}
use Rattle.pipe_core.specs.Keyed.{KeyedPipe, seen_pipe}
use Rattle.pipe_table.specs.Table.{is_above, IsTable}
use Rattle.pipe_table.proofs.At.{sound-by, sound-insert, place-fits, keys-insert, new-is}
use Rattle.std.specs.Prelude.{slice_get}
use Rattle.pipe_table.specs.Leaves.{AreIndexed}
use Rattle.pipe_table.specs.Places.{AreLed}
use Rattle.pipe_table.proofs.PlaceFacts.{entries-insert}
use Rattle.pipe_table.proofs.Indexes.{indexed-long}
use Rattle.pipe_table.proofs.table.PipeTable.make.Goals as goal

pub insert-requires : goal.insert-requires
insert-requires c =
    omega (arith, place-fits c.args.number c.reserve.new.self.items, c.place_behind-place.ensures, c.reserve.new.self.ok.0)

pub invariant_of-self-3 : goal.invariant_of-self-3
invariant_of-self-3 c = (
  sound-by c.self.inside.seed (sym (c.in-Ok-insert.ensures.items ∙ (λ z. insert (c.reserve.ensures.items z) ((c.place_behind-place.ensures ∙ ap (position_or_len (is_above c.args.number)) c.reserve.ensures.items) z) c.new-pipe.result)))
      (sound-insert c.self.inside.seed c.args.number c.new-pipe.result c.self.inside.pipes.items
      (ap (λ (p : KeyedPipe). p.seed) c.new-pipe.ensures) (ap (λ (p : KeyedPipe). p.number) c.new-pipe.ensures) (rw (← c.self.view_is) at c.requires) c.self.invariant.0
      (omega (arith, c.if-len-ge-MAX_PIPES.false, c.len.ensures, c.self.inside.pipes.ok.0))),
  subst (λ ps. AreIndexed ps c.index_all.new.dues) c.deref.ensures.value c.index_all.ensures,
  subst (λ ps. AreLed ps c.lead_all.new.places) c.deref-2.ensures.value c.lead_all.ensures,
)

pub returns-clause-ok : goal.returns-clause-ok
returns-clause-ok c = λ p n.
    rw (← c.self.view_is, (c.in-Ok-insert.ensures.items ∙ (λ z. insert (c.reserve.ensures.items z) ((c.place_behind-place.ensures ∙ ap (position_or_len (is_above c.args.number)) c.reserve.ensures.items) z) c.new-pipe.result)))
    (new-is c.args.number c.args.config.now c.new-pipe.result c.self.inside.pipes.items c.self.inside.seed p n
    (ap (λ (t : KeyedPipe). seen_pipe (packet_at p.find) t) c.new-pipe.ensures))

pub returns-clause-keys : goal.returns-clause-keys
returns-clause-keys c =
    rw (← c.self.view_is, (c.in-Ok-insert.ensures.items ∙ (λ z. insert (c.reserve.ensures.items z) ((c.place_behind-place.ensures ∙ ap (position_or_len (is_above c.args.number)) c.reserve.ensures.items) z) c.new-pipe.result)))
    (keys-insert c.args.number c.new-pipe.result c.self.inside.pipes.items (ap (λ (p : KeyedPipe). p.slots) c.new-pipe.ensures))

pub index_all-requires : goal.index_all-requires
index_all-requires c =
    omega (
      arith,
      c.deref.ensures.len,
      c.in-Ok-insert.ensures.len,
      c.in-Ok.ensures.len,
      c.in-Ok-push_ready.ensures.ready,
      ap (λ l. length l) c.push_ready.ensures.leaves,
      indexed-long c.self.inside.pipes.items c.self.inside.dues c.self.invariant.1,
      c.self.inside.pipes.ok.0,
    )

pub lead_all-requires-clause-few : goal.lead_all-requires-clause-few
lead_all-requires-clause-few c =
    omega (
      arith,
      ap (λ l. length l) (c.deref-2.ensures.value ∙ (c.in-Ok-insert.ensures.items ∙ (λ z. insert (c.reserve.ensures.items z) ((c.place_behind-place.ensures ∙ ap (position_or_len (is_above c.args.number)) c.reserve.ensures.items) z) c.new-pipe.result))),
      (sound-insert c.self.inside.seed c.args.number c.new-pipe.result c.self.inside.pipes.items
          (ap (λ (p : KeyedPipe). p.seed) c.new-pipe.ensures) (ap (λ (p : KeyedPipe). p.number) c.new-pipe.ensures) (rw (← c.self.view_is) at c.requires) c.self.invariant.0
          (omega (arith, c.if-len-ge-MAX_PIPES.false, c.len.ensures, c.self.inside.pipes.ok.0))).1,
    )

pub lead_all-requires-clause-sorted : goal.lead_all-requires-clause-sorted
lead_all-requires-clause-sorted c = (
  c.self.inside.seed,
  subst (IsTable c.self.inside.seed 0) (sym (c.deref-2.ensures.value ∙ (c.in-Ok-insert.ensures.items ∙ (λ z. insert (c.reserve.ensures.items z) ((c.place_behind-place.ensures ∙ ap (position_or_len (is_above c.args.number)) c.reserve.ensures.items) z) c.new-pipe.result))))
      (sound-insert c.self.inside.seed c.args.number c.new-pipe.result c.self.inside.pipes.items
      (ap (λ (p : KeyedPipe). p.seed) c.new-pipe.ensures) (ap (λ (p : KeyedPipe). p.number) c.new-pipe.ensures) (rw (← c.self.view_is) at c.requires) c.self.invariant.0
      (omega (arith, c.if-len-ge-MAX_PIPES.false, c.len.ensures, c.self.inside.pipes.ok.0))).0,
)

pub lead_all-requires-clause-entries : goal.lead_all-requires-clause-entries
lead_all-requires-clause-entries c = λ i q e.
    entries-insert c.args.number c.new-pipe.result c.self.inside.pipes.items c.self.inside.places c.make_room.new.self c.self.invariant.2
    c.make_room.ensures.grows (omega (arith, c.in-Ok-make_room.ensures.ready, c.get.ensures.value)) (ap (λ (p : KeyedPipe). p.number) c.new-pipe.ensures) i q
    (ap (λ l. slice_get l i) (sym (c.deref-2.ensures.value ∙ (c.in-Ok-insert.ensures.items ∙ (λ z. insert (c.reserve.ensures.items z) ((c.place_behind-place.ensures ∙ ap (position_or_len (is_above c.args.number)) c.reserve.ensures.items) z) c.new-pipe.result)))) ∙ e)
