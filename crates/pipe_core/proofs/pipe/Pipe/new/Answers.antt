use Rattle.std.proofs.Common.{map, sym, ap, ◌∙◌}
use Rattle.pipe_core.specs.Leaves.{slot_due}
use Rattle.pipe_core.proofs.PipeFacts.{IsPipe-none}
use Rattle.pipe_core.proofs.MaskFacts.{masked-none}
use Rattle.pipe_core.proofs.pipe.Pipe.new.Goals as goal

pub invariant_of-result : goal.invariant_of-result
invariant_of-result c = (
  IsPipe-none c.args.config c.args.seed c.args.number c.new-ids.result.ids c.new-slots.result.items
      c.new-ids.ensures c.new-slots.ensures.items,
  c.new-dues.ensures ∙ ap (map slot_due) (sym c.new-slots.ensures.items),
  masked-none c.is_zero.result c.args.config.mask c.new-ids.result.ids c.is_zero.ensures.0 c.new-ids.ensures,
)
