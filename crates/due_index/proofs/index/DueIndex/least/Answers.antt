use Rattle.std.proofs.Common.{◌∙◌, ap}
use Rattle.due_index.specs.Least.{dues_in, least_of}
use Rattle.due_index.specs.Places.{Places}
use Rattle.due_index.proofs.Trees.{root_least}
use Rattle.due_index.proofs.index.DueIndex.least.Goals as goal

pub returns : goal.returns
returns c =
    let s = c.self.inside in
    c.self.invariant.1
    ∙ root_least s.nodes.items s.half s.places c.self.invariant.0
    ∙ ap (λ (p : Places). least_of (dues_in p.leaves)) c.self.view_is
