use Rattle.std.proofs.Common.{◌≡◌, ◌+◌, ◌<◌, ◌++◌, ◌∷◌, [], length, take, get_or, sym, ap, ◌∙◌, add-one, arith}
use Rattle.std.specs.Prelude.{None}
use Rattle.std.proofs.Math.Seq.{take-suc}
use Rattle.std.proofs.lemmas.List.{get_or_default}
use Rattle.due_index.specs.Places.{Places}
use Rattle.due_index.specs.Tree.{leaves_of}
use Rattle.due_index.proofs.Trees.{leaf_at, leaves_long}
use Rattle.due_index.proofs.index.DueIndex.push_ready.Goals as goal

pub loop-place-preserved : goal.loop-place-preserved
loop-place-preserved c =
    let s = c.self.inside in
    let xs = s.nodes.items in
    let kept = c.self.invariant.0 in
    let at = c.loop-place.place in
    let l = leaves_of xs s.half s.places in
    let root = c.index.result.now in
    let long = leaves_long xs s.half s.places kept in
    let low : at < s.places = omega arith in
    let within : s.half + at < length xs = omega (arith, kept.long, kept.within, low) in
    let is : root ≡ get_or l at None =
    c.index.ensures ∙ sym (get_or_default xs (s.half + at) None root within) ∙ sym (leaf_at xs s.half s.places kept at low) in
    let now = c.push.ensures in
    record {
      leaves = ap (λ (p : Places). p.leaves) now
          ∙ (λ i. c.loop-place.invariant.leaves i ++ is i ∷ [])
          ∙ sym (take-suc l at None (omega (arith, long, low)))
          ∙ ap (λ n. take n l) (sym (add-one at));
      spare = omega (arith, ap (λ (p : Places). p.spare) now, c.loop-place.invariant.spare, c.loop-place.invariant.wide, low);
      wide = c.loop-place.invariant.wide;
    }
