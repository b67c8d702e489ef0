use Rattle.std.proofs.Common.{false, [], ◌∷◌, ◌++◌, sym, ap, ◌∙◌, subst}
use Rattle.shard.specs.Stand.{opened_stand}
use Rattle.world.specs.declared.home.Home.TheVariants.{Handed}
use Rattle.world.specs.Places.{Places}
use Rattle.world.specs.Kept.{IsWorld}
use Rattle.world.proofs.NewFacts.{registered}
use Rattle.world.proofs.world.World.register.Goals as goal

pub invariant_of-self-2 : goal.invariant_of-self-2
invariant_of-self-2 g c =
    let s = c.self.inside in
    let w : Places = record { desks = s.desks.items; shards = s.shards.items; deques = s.deques.items } in
    let is = c.in-Ok-open.ensures ∙ ap (λ n. opened_stand n c.args.spec c.in-Ok-new.mail) (c.len-name.ensures ∙ s.desks.ok.0) in
    let h = registered w c.in-Ok-open.parcel c.args.spec c.in-Ok-new.mail c.self.invariant is c.in-Ok-new.ensures c.reveal_invariant.ensures in
    subst (λ l. IsWorld (record w { desks = l })) (sym (c.push_reserved.ensures.items ∙ ap (λ l. l ++ record { home = Handed c.in-Ok-open.parcel; closed = false; last = 0 } ∷ []) c.reserve.ensures.items)) h
