use Rattle.std.proofs.Common.{◌++◌, ◌∷◌, [], List, length, sym, ap, subst, ◌∙◌, arith, append_assoc}
use Rattle.std.specs.Vec.Iter.{into_iter_items}
use Rattle.shard.specs.Stand.{Final}
use Rattle.bench.specs.declared.mail.RingMail.{RingMail}
use Rattle.lab.specs.Gathers.{Holds}
use Rattle.lab.proofs.joined.Joined.take.Goals as goal

pub loop-dossier-preserved : goal.loop-dossier-preserved
loop-dossier-preserved c =
    let i = c.loop-dossier.invariant in
    let taken = c.loop-dossier.yielded in
    let steps = c.in-Some.ensures.steps in
    record {
      rest = append_assoc taken (c.in-Some.dossier ∷ []) (into_iter_items c.next.new.self) ∙ ap (λ (l : List (Final RingMail)). taken ++ l) (sym steps.0) ∙ i.rest;
      left = omega (arith, i.left, steps.1, ap length steps.0);
      len = c.put.ensures.len ∙ i.len;
      holds = λ cs ds fs h. subst (λ (l : List (Final RingMail)). Holds c.put.new.self cs l (fs ++ c.args.given.fault ∷ [])) (append_assoc ds taken (c.in-Some.dossier ∷ []))
          (c.put.ensures.holds cs (ds ++ taken) (fs ++ c.args.given.fault ∷ []) (i.holds cs ds fs h));
    }
