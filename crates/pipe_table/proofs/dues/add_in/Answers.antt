use Rattle.std.proofs.Common.{◌≡◌, ◌*◌, ◌+◌, ◌++◌, suc, map, take, ap, ◌∙◌, arith}
use Rattle.std.proofs.lemmas.List.{append_assoc}
use Rattle.emu_model.specs.Dues.{instances_dues}
use Rattle.pipe_core.specs.Keyed.{seen_slot}
use Rattle.pipe_table.specs.Reach.{instance_dues}
use Rattle.pipe_table.proofs.DueFacts.{instances-more}
use Rattle.pipe_table.proofs.dues.add_in.Goals as goal

pub loop-index-preserved : goal.loop-index-preserved
loop-index-preserved c =
    let pipe = c.args.pipe.now in
    let i = c.loop-index.index in
    let old = c.args.dues.now.items in
    let next : suc i ≡ i + 1 = omega arith in
    record {
      items = λ f.
          c.add_at.ensures.items f
          ∙ ap (λ ds. ds ++ instance_dues f pipe i) (c.loop-index.invariant.items f)
          ∙ append_assoc old (instances_dues (pipe.number * 256) (take i (map (seen_slot f) pipe.slots))) (instance_dues f pipe i)
          ∙ ap (λ ds. old ++ ds) (instances-more f pipe i (omega (arith, c.loop-index-test.true, c.instances-index-end.ensures.instances)))
          ∙ ap (λ n. old ++ instances_dues (pipe.number * 256) (take n (map (seen_slot f) pipe.slots))) next;
      length = omega arith;
      capacity = c.add_at.ensures.capacity ∙ c.loop-index.invariant.capacity;
    }
