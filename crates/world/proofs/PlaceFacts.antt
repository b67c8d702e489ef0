-- Each name is at one place.
use Rattle.std.proofs.Common.{◌≡◌, ℕ, Option, Some, None, refl, sym, ap, ◌∙◌, arith, inl, inr}
use Rattle.std.specs.Prelude.{option_map, slice_get}
use Rattle.std.proofs.lemmas.Option.{same_Some, slice_get_cases}
use Rattle.shard.specs.Stand.{Stand}
use Rattle.shard.specs.Mails.{MailBook}
use Rattle.world.specs.declared.home.Home.{Home}
use Rattle.world.specs.declared.home.Home.TheVariants.{Handed, Seated, Queued, Left}
use Rattle.world.specs.declared.home.Desk.{Desk}
use Rattle.world.specs.declared.home.Place.TheVariants.{Resident}
use Rattle.world.specs.Tenants.{Life, Standing, Over, place_of}
use Rattle.world.specs.Places.{Places, stand_at, tenant_of, tenant_at, home_at, IsOnlyAt, AreAtOnePlace}
use Rattle.world.specs.Kept.{IsWorld, waits_of}
use Rattle.world.proofs.WorldFacts.{tenant_by_desk}
use Rattle.world.proofs.StepFacts.{tenant_with, tenant_seated, tenant_here, home_of}

seated_by_place : (home : Home) (i k : ℕ) → place_of home ≡ Resident i k → home ≡ Seated i k
seated_by_place (Handed p) i k e = cc
seated_by_place (Seated j l) i k e = cc
seated_by_place (Queued j p) i k e = cc
seated_by_place (Left d) i k e = cc

-- it sits and waits just where its home says
only_at : (w : Places) (n : ℕ) (d : Desk) → IsWorld w → slice_get w.desks n ≡ Some d → IsOnlyAt w n (place_of d.home)
only_at w n d h found =
    let home : home_at w.desks n ≡ Some d.home = home_of w.desks n d found in
    record {
      sits = λ i k e. h.sits n i k (home ∙ ap Some (seated_by_place d.home i k e));
      sits_there = λ i k e. ap place_of (same_Some d.home (Seated i k) (sym home ∙ h.sits_there n i k e));
      waits = λ i. h.waits n i ∙ ap (λ o. waits_of o i) home;
    }

who_sits : (n : ℕ) (o : Option (Stand MailBook)) → option_map (λ (s : Stand MailBook). s.name) o ≡ Some n → (s : Stand MailBook) × (o ≡ Some s)
who_sits n None e = absurd (cc)
who_sits n (Some s) e = (s, refl)

-- every desk has a tenant
has_tenant : (w : Places) (n : ℕ) (d : Desk) (home : Home) → IsWorld w → slice_get w.desks n ≡ Some d → d.home ≡ home → (life : Life) × (tenant_of w.shards d ≡ Some (tenant_with d (place_of home) life))
has_tenant w n d (Handed p) h found is = (Standing p, tenant_here w.shards d (Handed p) (Standing p) is refl)
has_tenant w n d (Seated i k) h found is =
    let f = who_sits n (stand_at w.shards i k) (h.sits n i k (home_of w.desks n d found ∙ ap Some is)) in
    (Standing f.0, tenant_seated w.shards d i k f.0 is f.1)
has_tenant w n d (Queued i p) h found is = (Standing p, tenant_here w.shards d (Queued i p) (Standing p) is refl)
has_tenant w n d (Left o) h found is = (Over o, tenant_here w.shards d (Left o) (Over o) is refl)

pub tenant_of_desk : (w : Places) (n : ℕ) (d : Desk) → IsWorld w → slice_get w.desks n ≡ Some d → (life : Life) × (tenant_at w n ≡ Some (tenant_with d (place_of d.home) life))
tenant_of_desk w n d h found =
    let f = has_tenant w n d d.home h found refl in
    (f.0, tenant_by_desk w n d found ∙ f.1)

pub one_place : (w : Places) → IsWorld w → AreAtOnePlace w
one_place w h = λ n within. elim (slice_get_cases w.desks n).1 [
  | inl f ↦
      let t = tenant_of_desk w n f.0 h f.2 in
      (tenant_with f.0 (place_of f.0.home) t.0, t.1, only_at w n f.0 h f.2)
  | inr past ↦ absurd (omega (arith, past.0, within))
]
