use Rattle.std.proofs.Common.{◌≡◌, ℕ, ◌≤◌, List, [], map, length, sym, ap, subst, arith}
use Rattle.emu_model.specs.DropTail.{Queued}
use Rattle.emu_model.specs.declared.packets.Packet.{Packet}
use Rattle.packet_store.specs.Pocket.{Pocket}
use Rattle.pipe_core.specs.Moves.{AreNamed, Taking}
use Rattle.pipe_core.specs.Steps.{most_of}
use Rattle.pipe_core.proofs.Finishings.{served_found, dropped_named, dropped_within, room_known, finish-is}
use Rattle.pipe_core.proofs.slot.Slot.finish.Goals as goal

pub unreachable_unchecked-unreachable-requires : goal.unreachable_unchecked-unreachable-requires
unreachable_unchecked-unreachable-requires g c =
    served_found (g.S.Shelf.pocket c.args.shelf.now c.args.owner) c.args.self.now.instance c.in_ok-done.done.key
    c.requires.named c.in_ok-done.ensures.ok.served (sym c.in_default.ensures)

pub take_dropped-requires-clause-named : goal.take_dropped-requires-clause-named
take_dropped-requires-clause-named g c =
    let p : Pocket = g.S.Shelf.pocket c.args.shelf.now c.args.owner in
    subst (λ (ws : List (Queued ℕ)). AreNamed p (map (λ w. w.item) ws)) (sym c.as_slice.ensures.value)
    (dropped_named p c.args.now c.args.config.now.delay c.in_ok-done.done.key c.in_ok-done.done.dropped.items
    c.args.self.now.instance c.finish.new.self c.requires.named c.in_ok-done.ensures.ok)

pub take_dropped-requires-clause-room : goal.take_dropped-requires-clause-room
take_dropped-requires-clause-room g c =
    let i = c.args.self.now.instance in
    let within : length c.in_ok-done.done.dropped.items ≤ most_of i.queue.discipline (length i.queue.waiting) =
    subst (λ (ws : List (Queued ℕ)). length ws ≤ most_of i.queue.discipline (length i.queue.waiting)) (sym c.in_ok-done.ensures.ok.dropped_are)
    (dropped_within i.queue.discipline c.args.now i.queue.control i.queue.waiting) in
    let known : length c.in_ok-done.done.dropped.items ≤ c.most_dropped-most.result =
    room_known c.args.plain c.most_dropped-most.result (most_of i.queue.discipline (length i.queue.waiting)) (length c.in_ok-done.done.dropped.items)
    c.most_dropped-most.ensures.most (λ yes. ap length (c.in_ok-done.ensures.none yes)) within in
    omega (
      arith,
      known,
      ap length c.as_slice.ensures.value,
      c.clear_for.ensures.len,
      c.in_ok-clear_for.ensures.room,
    )

pub returns-clause-finished : goal.returns-clause-finished
returns-clause-finished g c =
    let p : Pocket = g.S.Shelf.pocket c.args.shelf.now c.args.owner in
    let q : Pocket = g.S.Shelf.pocket c.take_dropped.new.shelf c.args.owner in
    let dropped : List (Queued ℕ) = c.in_ok-done.done.dropped.items in
    let drops : List Packet = c.take_dropped.new.drops.items in
    let none : c.clear_for.new.drops.items ≡ [] = c.clear_for.ensures.items in
    let taking : Taking p q (map (λ (w : Queued ℕ). w.item) dropped) [] [] drops =
    subst (λ (ws : List (Queued ℕ)). Taking p q (map (λ w. w.item) ws) [] [] drops) c.as_slice.ensures.value
    (subst (λ (l : List Packet). Taking p q (map (λ (w : Queued ℕ). w.item) c.as_slice.result.now) [] l drops) none c.take_dropped.ensures.taken) in
    finish-is c.args.config.now c.args.now c.in_ok-done.done.key dropped c.in-Some.packet drops p q c.args.self.now.id
    c.args.self.now.instance c.finish.new.self c.in_ok-done.ensures.ok c.requires.tuned c.in-Some.ensures taking
