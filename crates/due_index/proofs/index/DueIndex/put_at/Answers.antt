use Rattle.std.proofs.Common.{◌≡◌, ◌<◌, length, set, drop, sym, ◌∙◌, ap, subst, refl, arith}
use Rattle.std.proofs.lemmas.List.{take_at}
use Rattle.due_index.specs.Places.{Places}
use Rattle.due_index.specs.Tree.{leaves_of, node_at, IsIndex}
use Rattle.due_index.proofs.Trees.{leaves_long, set_index, set_leaves}
use Rattle.due_index.proofs.index.DueIndex.put_at.Goals as goal

pub invariant_of-self-2 : goal.invariant_of-self-2
invariant_of-self-2 c =
    let s = c.self.inside in
    let xs = s.nodes.items in
    let ys = c.put-self-inside.new.nodes in
    let same : c.as_mut_slice.result.now ≡ xs = c.as_mut_slice.ensures.value in
    let long : length ys ≡ length xs = omega (arith, c.put-self-inside.auto.nodes, ap length same) in
    let whole = take_at ys (drop (length ys) xs) s.nodes.len (omega (arith, long, s.nodes.ok.0)) in
    let low : c.args.place < s.places =
    omega (arith, c.requires, ap (λ (p : Places). length p.leaves) c.self.view_is, leaves_long xs s.half s.places c.self.invariant.0) in (
      subst (λ l. IsIndex l s.half s.places) (sym whole)
          (set_index xs s.half s.places c.self.invariant.0 ys c.args.place c.args.due low c.put-self-inside.ensures.met long
          (c.put-self-inside.ensures.leaves s.half c.args.place (ap length same ∙ c.self.invariant.0.long) refl
          ∙ ap (λ l. set (drop s.half l) c.args.place c.args.due) same)),
      c.put-self-inside.ensures.least ∙ ap (λ l. node_at l 1) (sym whole),
    )

pub returns : goal.returns
returns c =
    let s = c.self.inside in
    let xs = s.nodes.items in
    let ys = c.put-self-inside.new.nodes in
    let same : c.as_mut_slice.result.now ≡ xs = c.as_mut_slice.ensures.value in
    let long : length ys ≡ length xs = omega (arith, c.put-self-inside.auto.nodes, ap length same) in
    let whole = take_at ys (drop (length ys) xs) s.nodes.len (omega (arith, long, s.nodes.ok.0)) in
    let low : c.args.place < s.places =
    omega (arith, c.requires, ap (λ (p : Places). length p.leaves) c.self.view_is, leaves_long xs s.half s.places c.self.invariant.0) in
    (λ t. record {
      leaves = (ap (λ l. leaves_of l s.half s.places) whole
          ∙ set_leaves xs s.half s.places c.self.invariant.0 ys c.args.place c.args.due low c.put-self-inside.ensures.met long
          (c.put-self-inside.ensures.leaves s.half c.args.place (ap length same ∙ c.self.invariant.0.long) refl
          ∙ ap (λ l. set (drop s.half l) c.args.place c.args.due) same)
          ∙ ap (λ (p : Places). set p.leaves c.args.place c.args.due) c.self.view_is) t;
      spare = ap (λ (p : Places). p.spare) c.self.view_is t;
    })
