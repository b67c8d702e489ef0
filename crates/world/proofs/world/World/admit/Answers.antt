use Rattle.std.proofs.Common.{◌≡◌, ◌≤◌, ◌<◌, [], length, set, Some, None, refl, sym, ◌∙◌, arith, subst, inl, inr}
use Rattle.std.specs.Prelude.{slice_get}
use Rattle.std.proofs.lemmas.List.{get_or_read}
use Rattle.std.proofs.lemmas.Option.{slice_get_read}
use Rattle.shard.specs.Mails.{MailBook}
use Rattle.shard.specs.Stand.{Stand, Seating}
use Rattle.world.specs.declared.home.Home.{Home}
use Rattle.world.specs.declared.home.Desk.{Desk}
use Rattle.world.specs.Places.{Places, shard_at, tenant_at}
use Rattle.world.specs.Kept.{IsWorld}
use Rattle.world.specs.Steps.{Houses, IsNotAdmitted, IsAdmission}
use Rattle.world.proofs.Lists.{set_same}
use Rattle.world.proofs.MailFacts.{not_handed}
use Rattle.world.proofs.MoveFacts.{admit_in, moved_world, at_home}
use Rattle.world.proofs.ReadFacts.{past_names}
use Rattle.world.proofs.world.World.admit.Goals as goal

pub returns-then-at-len : goal.returns-then-at-len
returns-then-at-len g c =
    let s = c.self.inside in
    let w : Places = record { desks = s.desks.items; shards = s.shards.items; deques = s.deques.items } in
    let past : length s.desks.items ≤ c.args.name = omega (arith, s.desks.ok.0) in
    let none : tenant_at w c.args.name ≡ None = past_names w c.args.name past in
    (refl, subst (IsNotAdmitted c.args.name c.args.i) c.self.view_is (inr (inl (λ t e. let x : None ≡ Some t = sym none ∙ e in absurd (cc)))))

pub returns-in_default : goal.returns-in_default
returns-in_default g c =
    let s = c.self.inside in
    let w : Places = record { desks = s.desks.items; shards = s.shards.items; deques = s.deques.items } in
    let at : c.args.name < length s.desks.items = omega (arith, s.desks.ok.0) in
    let d : Desk = c.index_mut-desk.result.now in
    let found : slice_get s.desks.items c.args.name ≡ Some d = slice_get_read s.desks.items s.desks.len c.args.name d s.desks.ok.0 (omega (arith, at, s.desks.ok.0)) c.index_mut-desk.ensures.value in
    let h = c.in_default.ensures.none in
    let same : set s.desks.items c.args.name c.hand_over.new.self ≡ s.desks.items = set_same s.desks.items c.args.name c.hand_over.new.self d (h.0 ∙ c.index_mut-desk.ensures.value) in
    rw (← c.self.view_is) (λ i. record { desks = same i; shards = s.shards.items; deques = s.deques.items }, inr (inl (λ t e. not_handed w c.args.name d t found h.1 e)))

pub invariant_of-self-2 : goal.invariant_of-self-2
invariant_of-self-2 g c =
    let s = c.self.inside in
    let w : Places = record { desks = s.desks.items; shards = s.shards.items; deques = s.deques.items } in
    let within : c.args.i < length s.shards.items = omega (arith, s.shards.ok.0) in
    let at : c.args.name < length s.desks.items = omega (arith, s.desks.ok.0) in
    let d : Desk = c.index_mut-desk.result.now in
    let found : slice_get s.desks.items c.args.name ≡ Some d = slice_get_read s.desks.items s.desks.len c.args.name d s.desks.ok.0 (omega (arith, at, s.desks.ok.0)) c.index_mut-desk.ensures.value in
    let h = c.in-Some.ensures.some in
    let p : Stand MailBook = c.in-Some.parcel in
    let did = c.house-housed.result.did in
    let home : Home = c.house-housed.result.home in
    let sh : Seating MailBook = c.house-housed.new.shard in
    let read : c.index_mut.result.now ≡ shard_at s.shards.items c.args.i = get_or_read s.shards.items c.args.i c.index_mut.result.now within c.index_mut.ensures.value (record { seats = []; clock = 0 }) in
    let housed : Houses p c.args.i did home (shard_at s.shards.items c.args.i) sh = subst (λ x. Houses p c.args.i did home x sh) read c.house-housed.ensures in
    let f = admit_in w c.args.name c.args.i d p did home sh c.self.invariant within found h.0 housed in
    subst (λ (e : Desk). IsWorld (moved_world w c.args.name e c.args.i sh w.deques)) (sym c.go.ensures) (subst (λ (e : Desk). IsWorld (moved_world w c.args.name (at_home e home) c.args.i sh w.deques)) (sym h.1) f.world)

pub returns : goal.returns
returns g c =
    let s = c.self.inside in
    let w : Places = record { desks = s.desks.items; shards = s.shards.items; deques = s.deques.items } in
    let within : c.args.i < length s.shards.items = omega (arith, s.shards.ok.0) in
    let at : c.args.name < length s.desks.items = omega (arith, s.desks.ok.0) in
    let d : Desk = c.index_mut-desk.result.now in
    let found : slice_get s.desks.items c.args.name ≡ Some d = slice_get_read s.desks.items s.desks.len c.args.name d s.desks.ok.0 (omega (arith, at, s.desks.ok.0)) c.index_mut-desk.ensures.value in
    let h = c.in-Some.ensures.some in
    let p : Stand MailBook = c.in-Some.parcel in
    let did = c.house-housed.result.did in
    let home : Home = c.house-housed.result.home in
    let sh : Seating MailBook = c.house-housed.new.shard in
    let read : c.index_mut.result.now ≡ shard_at s.shards.items c.args.i = get_or_read s.shards.items c.args.i c.index_mut.result.now within c.index_mut.ensures.value (record { seats = []; clock = 0 }) in
    let housed : Houses p c.args.i did home (shard_at s.shards.items c.args.i) sh = subst (λ x. Houses p c.args.i did home x sh) read c.house-housed.ensures in
    let f = admit_in w c.args.name c.args.i d p did home sh c.self.invariant within found h.0 housed in
    rw (← c.self.view_is) (subst (λ (e : Desk). IsAdmission c.args.name c.args.i did w (moved_world w c.args.name e c.args.i sh w.deques)) (sym c.go.ensures) (subst (λ (e : Desk). IsAdmission c.args.name c.args.i did w (moved_world w c.args.name (at_home e home) c.args.i sh w.deques)) (sym h.1) f.admission))
