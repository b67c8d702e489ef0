use Rattle.std.proofs.Common.{◌≡◌, ◌≤◌, ◌<◌, length, Some, None, sym, ap, ◌∙◌, arith, subst}
use Rattle.std.specs.Prelude.{slice_get, option_map}
use Rattle.std.proofs.lemmas.Option.{slice_get_read}
use Rattle.world.specs.declared.home.Desk.{Desk}
use Rattle.world.specs.Tenants.{Tenant}
use Rattle.world.specs.Places.{Places, tenant_at}
use Rattle.world.specs.Runs.{place_at}
use Rattle.world.proofs.ReadFacts.{past_names, place_found}
use Rattle.world.proofs.world.World.place.Goals as goal

pub returns-then-at-len : goal.returns-then-at-len
returns-then-at-len g c =
    let s = c.self.inside in
    let w : Places = record { desks = s.desks.items; shards = s.shards.items; deques = s.deques.items } in
    let past : length s.desks.items ≤ c.args.name = omega (arith, s.desks.ok.0) in
    let none : tenant_at w c.args.name ≡ None = past_names w c.args.name past in
    subst (λ v. None ≡ place_at v c.args.name) c.self.view_is (sym (ap (option_map (λ (t : Tenant). t.place)) none))

pub returns : goal.returns
returns g c =
    let s = c.self.inside in
    let w : Places = record { desks = s.desks.items; shards = s.shards.items; deques = s.deques.items } in
    let at : c.args.name < length s.desks.items = omega (arith, s.desks.ok.0) in
    let d : Desk = c.index.result.now in
    let found : slice_get s.desks.items c.args.name ≡ Some d = slice_get_read s.desks.items s.desks.len c.args.name d s.desks.ok.0 (omega (arith, at, s.desks.ok.0)) c.index.ensures in
    subst (λ v. Some c.place.result ≡ place_at v c.args.name) c.self.view_is (ap Some c.place.ensures ∙ place_found w c.args.name d c.self.invariant found)
