use Rattle.std.proofs.Common.{◌≡◌, ℕ, ◌<◌, List, length, map, set, get_or, Option, sym, ap, ◌∙◌, arith}
use Rattle.std.proofs.Math.ListN.{get_or-map}
use Rattle.std.proofs.lemmas.List.{length-map, length-set}
use Rattle.emu_model.specs.declared.sources.Due.{Due}
use Rattle.due_index.specs.Places.{Places}
use Rattle.pipe_core.specs.declared.slot.Slot.{Slot}
use Rattle.pipe_core.specs.Leaves.{slot_due}
use Rattle.pipe_core.proofs.DueLeaves.{filled}
use Rattle.pipe_core.proofs.pipe.index_all.Goals as goal

pub loop-instance-preserved : goal.loop-instance-preserved
loop-instance-preserved c =
    let slots : List Slot = c.args.slots.now in
    let from : List (Option Due) = c.args.dues.now.leaves in
    let i : ℕ = c.loop-instance.instance in
    let x : Slot = c.index-slots-instance.result in
    let all : List (Option Due) = map slot_due slots in
    let before = ap (λ (p : Places). p.leaves) c.loop-instance.invariant.is in
    let long : length all ≡ length from = length-map slots slot_due ∙ sym c.requires.long in
    let within : i < length from = omega (arith, c.requires.long) in
    let is : slot_due x ≡ get_or all i (slot_due x) =
    ap slot_due c.index-slots-instance.is ∙ sym (get_or-map slot_due slots i x) in
    record {
      is = c.set.ensures ∙ (λ t. record {
        leaves = ((λ u. set (before u) i (c.due.ensures u))
            ∙ filled all from i (slot_due x) long within is) t;
        spare = ap (λ (p : Places). p.spare) c.loop-instance.invariant.is t;
      });
      long = omega (
        arith,
        ap (λ (p : Places). length p.leaves) c.set.ensures,
        length-set c.loop-instance.dues.leaves i c.due.result,
        c.loop-instance.invariant.long,
      );
    }
