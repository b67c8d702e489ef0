use Rattle.std.proofs.Common.{◌<◌, length, sym, subst, ◌∙◌}
use Rattle.pipe_core.specs.Keyed.{KeyedPipe}
use Rattle.pipe_core.proofs.InstancePlaces.{IsPlace, place_of, exit_due, finish_due}
use Rattle.pipe_core.proofs.pipe.Pipe.dues.Goals as goal

pub returns-clause-exit : goal.returns-clause-exit
returns-clause-exit c =
    let slots = c.self.inside.slots.items in
    let x = c.index-slot.result.now in
    let within : c.args.instance < length slots = subst (λ (e : KeyedPipe). c.args.instance < length e.slots) (sym c.self.view_is) c.requires in
    let at : IsPlace c.args.instance slots x = place_of slots c.args.instance x c.index-slot.ensures within in
    rw (← c.self.view_is) (λ f. exit_due c.args.instance slots x at f c.dues.result.exit c.dues.ensures.exit)

pub returns-clause-finish : goal.returns-clause-finish
returns-clause-finish c =
    let slots = c.self.inside.slots.items in
    let x = c.index-slot.result.now in
    let within : c.args.instance < length slots = subst (λ (e : KeyedPipe). c.args.instance < length e.slots) (sym c.self.view_is) c.requires in
    let at : IsPlace c.args.instance slots x = place_of slots c.args.instance x c.index-slot.ensures within in
    rw (← c.self.view_is) (λ f. c.dues.ensures.finish ∙ sym (finish_due c.args.instance slots x at f))
