use Rattle.std.proofs.Common.{◌≡◌, ◌<◌, length, sym, subst, ap, ◌∙◌}
use Rattle.std.specs.Prelude.{unwrap_or}
use Rattle.pipe_core.specs.declared.slot.Slot.{Slot}
use Rattle.pipe_core.specs.Keyed.{KeyedPipe}
use Rattle.pipe_core.specs.Steps.{IsPlain}
use Rattle.pipe_core.proofs.InstancePlaces.{IsPlace, place_of, get_at}
use Rattle.pipe_core.proofs.pipe.Pipe.drops_none.Goals as goal

pub returns : goal.returns
returns c =
    let slots = c.self.inside.slots.items in
    let x = c.index-slot.result.now in
    let within : c.args.instance < length slots = subst (λ (e : KeyedPipe). c.args.instance < length e.slots) (sym c.self.view_is) c.requires in
    let at : IsPlace c.args.instance slots x = place_of slots c.args.instance x c.index-slot.ensures within in
    rw (← c.self.view_is) (
      λ yes s e.
          let same : x ≡ s = ap (λ o. unwrap_or o x) (sym (get_at c.args.instance slots x at) ∙ e) in
          subst (λ (s : Slot). IsPlain c.args.now s) same (sym c.drops_none.ensures.plain ∙ yes),
      λ plain. c.drops_none.ensures.plain ∙ plain x (get_at c.args.instance slots x at),
    )
