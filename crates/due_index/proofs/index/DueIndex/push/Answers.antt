use Rattle.std.proofs.Common.{◌≡◌, ◌+◌, ◌-◌, ◌<◌, ◌++◌, ◌∷◌, [], set, ◌∙◌, ap, arith}
use Rattle.std.specs.Prelude.{None}
use Rattle.std.proofs.lemmas.List.{set_at}
use Rattle.due_index.specs.Places.{Places}
use Rattle.due_index.specs.Tree.{leaves_of}
use Rattle.due_index.proofs.Trees.{leaves_long, more_leaves}
use Rattle.due_index.proofs.index.DueIndex.push.Goals as goal

pub returns : goal.returns
returns c =
    let s = c.self.inside in
    let xs = s.nodes.items in
    let due = c.args.due in
    let spare = ap (λ (p : Places). p.spare) c.self.view_is in
    let room : s.places < s.half = omega (arith, spare, c.requires) in
    let less : s.half - (s.places + 1) ≡ c.args.self.now.spare - 1 = omega (arith, spare) in
    c.set.ensures ∙ (λ t. record {
      leaves = (ap (λ l. set l s.places due) (more_leaves xs s.half s.places c.self.invariant.0 room)
          ∙ set_at (leaves_of xs s.half s.places) None [] due s.places (leaves_long xs s.half s.places c.self.invariant.0)
          ∙ ap (λ (p : Places). p.leaves ++ due ∷ []) c.self.view_is) t;
      spare = less t;
    })
