use Rattle.std.proofs.Common.{◌<◌, length, ℕ, sym, subst, ◌∙◌, ap}
use Rattle.std.specs.Prelude.{option_and_then}
use Rattle.emu_model.specs.Delay.{first_item}
use Rattle.packet_store.specs.Pocket.{Pocket}
use Rattle.pipe_core.specs.declared.slot.Slot.{Slot}
use Rattle.pipe_core.specs.Moves.{packet_at, AreNamed}
use Rattle.pipe_core.specs.Keyed.{KeyedPipe, keys_of}
use Rattle.pipe_core.proofs.InstancePlaces.{IsPlace, place_of, named_at, seen_at}
use Rattle.pipe_core.proofs.pipe.Pipe.front.Goals as goal

pub front-requires : goal.front-requires
front-requires g c =
    let slots = c.self.inside.slots.items in
    let k : ℕ = c.args.instance in
    let x : Slot = c.index-slot.result.now in
    let p : Pocket = g.S.Shelf.pocket c.args.shelf.now c.args.owner in
    let within : k < length slots = subst (λ (e : KeyedPipe). k < length e.slots) (sym c.self.view_is) c.requires.inside in
    let at : IsPlace k slots x = place_of slots k x c.index-slot.ensures within in
    named_at k slots x at p (subst (λ (e : KeyedPipe). AreNamed p (keys_of e.slots)) (sym c.self.view_is) c.requires.named)

pub returns : goal.returns
returns g c =
    let slots = c.self.inside.slots.items in
    let k : ℕ = c.args.instance in
    let x : Slot = c.index-slot.result.now in
    let p : Pocket = g.S.Shelf.pocket c.args.shelf.now c.args.owner in
    let within : k < length slots = subst (λ (e : KeyedPipe). k < length e.slots) (sym c.self.view_is) c.requires.inside in
    let at : IsPlace k slots x = place_of slots k x c.index-slot.ensures within in
    rw (← c.self.view_is) (c.front.ensures
    ∙ ap (option_and_then (λ i. first_item i.line.in_flight)) (sym (seen_at k slots x at (packet_at p.find))))
