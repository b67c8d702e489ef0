use Rattle.std.proofs.Common.{◌≡◌, ◌≤◌, ◌<◌, length, set, Some, None, refl, sym, ap, ◌∙◌, arith, subst, inl, inr}
use Rattle.std.specs.Prelude.{slice_get}
use Rattle.std.proofs.lemmas.Option.{slice_get_read}
use Rattle.world.specs.declared.home.Desk.{Desk}
use Rattle.world.specs.Places.{Places, tenant_at}
use Rattle.world.specs.Tenants.{IsRefused}
use Rattle.world.proofs.Lists.{set_same}
use Rattle.world.proofs.MailFacts.{post_in, refused_at}
use Rattle.world.proofs.ReadFacts.{past_names}
use Rattle.world.proofs.world.World.post.Goals as goal

pub returns-then-at-len : goal.returns-then-at-len
returns-then-at-len g c =
    let s = c.self.inside in
    let w : Places = record { desks = s.desks.items; shards = s.shards.items; deques = s.deques.items } in
    let past : length s.desks.items ≤ c.args.name = omega (arith, s.desks.ok.0) in
    let none : tenant_at w c.args.name ≡ None = past_names w c.args.name past in
    (refl, λ t e. let x : None ≡ Some t = sym none ∙ ap (λ v. tenant_at v c.args.name) c.self.view_is ∙ e in absurd (cc))

pub returns-then-not-allows : goal.returns-then-not-allows
returns-then-not-allows g c =
    let s = c.self.inside in
    let w : Places = record { desks = s.desks.items; shards = s.shards.items; deques = s.deques.items } in
    let at : c.args.name < length s.desks.items = omega (arith, s.desks.ok.0) in
    let d : Desk = c.index_mut-desk.result.now in
    let found : slice_get s.desks.items c.args.name ≡ Some d = slice_get_read s.desks.items s.desks.len c.args.name d s.desks.ok.0 (omega (arith, at, s.desks.ok.0)) c.index_mut-desk.ensures.value in
    let same : set s.desks.items c.args.name d ≡ s.desks.items = set_same s.desks.items c.args.name d d c.index_mut-desk.ensures.value in
    let no = c.if-not-allows.ensures.no refl in
    rw (← c.self.view_is) (λ i. record { desks = same i; shards = s.shards.items; deques = s.deques.items }, λ t e. let f = refused_at w c.args.name d t found e in inl (subst (λ b. IsRefused b t.last c.args.timed) f.1 (subst (λ k. IsRefused d.closed k c.args.timed) f.2 no)))

pub returns-then-not-put : goal.returns-then-not-put
returns-then-not-put g c =
    let s = c.self.inside in
    let w : Places = record { desks = s.desks.items; shards = s.shards.items; deques = s.deques.items } in
    let at : c.args.name < length s.desks.items = omega (arith, s.desks.ok.0) in
    let d : Desk = c.index_mut-desk.result.now in
    let found : slice_get s.desks.items c.args.name ≡ Some d = slice_get_read s.desks.items s.desks.len c.args.name d s.desks.ok.0 (omega (arith, at, s.desks.ok.0)) c.index_mut-desk.ensures.value in
    let no = c.if-not-put.ensures.no refl in
    let e : Desk = record d { home = c.put.new.self } in
    let same : set s.desks.items c.args.name e ≡ s.desks.items = set_same s.desks.items c.args.name e d ((λ i. record { home = no.0 i; closed = d.closed; last = d.last }) ∙ c.index_mut-desk.ensures.value) in
    rw (← c.self.view_is) (λ i. record { desks = same i; shards = no.1 i; deques = s.deques.items }, λ t q. let f = refused_at w c.args.name d t found q in inr (no.2 t.life f.0))

pub invariant_of-self-2 : goal.invariant_of-self-2
invariant_of-self-2 g c =
    let s = c.self.inside in
    let w : Places = record { desks = s.desks.items; shards = s.shards.items; deques = s.deques.items } in
    let at : c.args.name < length s.desks.items = omega (arith, s.desks.ok.0) in
    let d : Desk = c.index_mut-desk.result.now in
    let found : slice_get s.desks.items c.args.name ≡ Some d = slice_get_read s.desks.items s.desks.len c.args.name d s.desks.ok.0 (omega (arith, at, s.desks.ok.0)) c.index_mut-desk.ensures.value in
    let yes = c.if-not-allows.ensures.yes refl in
    let put = c.if-not-put.ensures.yes refl in
    let e : Desk = record { home = c.put.new.self; closed = c.is_end-desk.result; last = c.args.timed.moment } in
    (post_in w c.args.name d e c.args.timed c.put.new.shards.items c.self.invariant found yes put c.is_end-desk.ensures refl).world

pub returns : goal.returns
returns g c =
    let s = c.self.inside in
    let w : Places = record { desks = s.desks.items; shards = s.shards.items; deques = s.deques.items } in
    let at : c.args.name < length s.desks.items = omega (arith, s.desks.ok.0) in
    let d : Desk = c.index_mut-desk.result.now in
    let found : slice_get s.desks.items c.args.name ≡ Some d = slice_get_read s.desks.items s.desks.len c.args.name d s.desks.ok.0 (omega (arith, at, s.desks.ok.0)) c.index_mut-desk.ensures.value in
    let yes = c.if-not-allows.ensures.yes refl in
    let put = c.if-not-put.ensures.yes refl in
    let e : Desk = record { home = c.put.new.self; closed = c.is_end-desk.result; last = c.args.timed.moment } in
    rw (← c.self.view_is) (post_in w c.args.name d e c.args.timed c.put.new.shards.items c.self.invariant found yes put c.is_end-desk.ensures refl).post
