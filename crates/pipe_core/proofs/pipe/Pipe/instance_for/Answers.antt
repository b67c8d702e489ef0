use Rattle.std.proofs.Common.{sym, ap, ◌∙◌, map}
use Rattle.emu_model.specs.FlowIds.{instance_of}
use Rattle.pipe_core.specs.Keyed.{seen_slot}
use Rattle.pipe_core.proofs.PipeFacts.{ids-seen}
use Rattle.pipe_core.proofs.pipe.Pipe.instance_for.Goals as goal

pub returns : goal.returns
returns c = λ f.
    let s = c.self.inside in
    rw (← c.self.view_is)
    (c.number_for.ensures
    ∙ ap (λ l. instance_of l c.apply-id.result) (c.self.invariant.0.ids_are ∙ sym (ids-seen f s.slots.items))
    ∙ ap (λ i. instance_of (map (λ t. t.id) (map (seen_slot f) s.slots.items)) i) c.apply-id.ensures)
