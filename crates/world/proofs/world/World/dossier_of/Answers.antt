use Rattle.std.proofs.Common.{◌≡◌, ◌≢◌, ℕ, ◌≤◌, ◌<◌, length, Option, Some, None, refl, sym, ap, ◌∙◌, arith, subst}
use Rattle.std.specs.Prelude.{slice_get, option_map}
use Rattle.std.proofs.lemmas.Option.{slice_get_read}
use Rattle.shard.specs.Mails.{MailBook}
use Rattle.shard.specs.Stand.{Final}
use Rattle.world.specs.declared.home.Desk.{Desk}
use Rattle.world.specs.Tenants.{Life, Over, Tenant}
use Rattle.world.specs.Places.{Places, tenant_at}
use Rattle.world.specs.Runs.{life_at}
use Rattle.world.proofs.ReadFacts.{past_names, not_over, is_over}
use Rattle.world.proofs.world.World.dossier_of.Goals as goal

pub returns-then-at-len-clause-none : goal.returns-then-at-len-clause-none
returns-then-at-len-clause-none g c =
    let s = c.self.inside in
    let w : Places = record { desks = s.desks.items; shards = s.shards.items; deques = s.deques.items } in
    let past : length s.desks.items ≤ c.args.name = omega (arith, s.desks.ok.0) in
    let none : tenant_at w c.args.name ≡ None = past_names w c.args.name past in
    subst (λ (v : Places). (d : Final MailBook) → life_at v c.args.name ≢ Some (Over d)) c.self.view_is (λ d e. let x : None ≡ Some (Over d) = sym (ap (option_map (λ (t : Tenant). t.life)) none) ∙ e in cc)

pub returns-in_default-clause-none : goal.returns-in_default-clause-none
returns-in_default-clause-none g c =
    let s = c.self.inside in
    let w : Places = record { desks = s.desks.items; shards = s.shards.items; deques = s.deques.items } in
    let at : c.args.name < length s.desks.items = omega (arith, s.desks.ok.0) in
    let d : Desk = c.index.result.now in
    let found : slice_get s.desks.items c.args.name ≡ Some d = slice_get_read s.desks.items s.desks.len c.args.name d s.desks.ok.0 (omega (arith, at, s.desks.ok.0)) c.index.ensures in
    subst (λ (v : Places). (x : Final MailBook) → life_at v c.args.name ≢ Some (Over x)) c.self.view_is (λ x. not_over w c.args.name d d.home x found refl (λ o. c.in_default.not-Left o))

pub returns-clause-some : goal.returns-clause-some
returns-clause-some g c =
    let s = c.self.inside in
    let w : Places = record { desks = s.desks.items; shards = s.shards.items; deques = s.deques.items } in
    let at : c.args.name < length s.desks.items = omega (arith, s.desks.ok.0) in
    let d : Desk = c.index.result.now in
    let found : slice_get s.desks.items c.args.name ≡ Some d = slice_get_read s.desks.items s.desks.len c.args.name d s.desks.ok.0 (omega (arith, at, s.desks.ok.0)) c.index.ensures in
    subst (λ (v : Places). life_at v c.args.name ≡ Some (Over c.in-Left.dossier)) c.self.view_is (is_over w c.args.name d c.in-Left.dossier found c.in-Left.is)
