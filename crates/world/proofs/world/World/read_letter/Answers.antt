use Rattle.std.proofs.Common.{◌≡◌, ◌≤◌, ◌<◌, length, set, Some, None, refl, sym, ap, ◌∙◌, arith}
use Rattle.std.specs.Prelude.{slice_get}
use Rattle.std.proofs.lemmas.Option.{slice_get_read}
use Rattle.world.specs.declared.home.Desk.{Desk}
use Rattle.world.specs.Places.{Places, tenant_at}
use Rattle.world.proofs.Lists.{set_same}
use Rattle.world.proofs.MailFacts.{read_in, refused_at}
use Rattle.world.proofs.ReadFacts.{past_names}
use Rattle.world.proofs.world.World.read_letter.Goals as goal

pub returns-then-at-len : goal.returns-then-at-len
returns-then-at-len g c =
    let s = c.self.inside in
    let w : Places = record { desks = s.desks.items; shards = s.shards.items; deques = s.deques.items } in
    let past : length s.desks.items ≤ c.args.name = omega (arith, s.desks.ok.0) in
    let none : tenant_at w c.args.name ≡ None = past_names w c.args.name past in
    (refl, λ t e. let x : None ≡ Some t = sym none ∙ ap (λ v. tenant_at v c.args.name) c.self.view_is ∙ e in absurd (cc))

pub returns-then-not-read : goal.returns-then-not-read
returns-then-not-read g c =
    let s = c.self.inside in
    let w : Places = record { desks = s.desks.items; shards = s.shards.items; deques = s.deques.items } in
    let at : c.args.name < length s.desks.items = omega (arith, s.desks.ok.0) in
    let d : Desk = c.index_mut-desk.result.now in
    let found : slice_get s.desks.items c.args.name ≡ Some d = slice_get_read s.desks.items s.desks.len c.args.name d s.desks.ok.0 (omega (arith, at, s.desks.ok.0)) c.index_mut-desk.ensures.value in
    let no = c.if-not-read.ensures.no refl in
    let e : Desk = record d { home = c.read.new.self } in
    let same : set s.desks.items c.args.name e ≡ s.desks.items = set_same s.desks.items c.args.name e d ((λ i. record { home = no.0 i; closed = d.closed; last = d.last }) ∙ c.index_mut-desk.ensures.value) in
    rw (← c.self.view_is) (λ i. record { desks = same i; shards = no.1 i; deques = s.deques.items }, λ t q. let f = refused_at w c.args.name d t found q in no.2 t.life f.0)

pub invariant_of-self-2 : goal.invariant_of-self-2
invariant_of-self-2 g c =
    let s = c.self.inside in
    let w : Places = record { desks = s.desks.items; shards = s.shards.items; deques = s.deques.items } in
    let at : c.args.name < length s.desks.items = omega (arith, s.desks.ok.0) in
    let d : Desk = c.index_mut-desk.result.now in
    let found : slice_get s.desks.items c.args.name ≡ Some d = slice_get_read s.desks.items s.desks.len c.args.name d s.desks.ok.0 (omega (arith, at, s.desks.ok.0)) c.index_mut-desk.ensures.value in
    let e : Desk = record d { home = c.read.new.self } in
    (read_in w c.args.name d e c.read.new.shards.items c.self.invariant found (c.if-not-read.ensures.yes refl) refl refl).world

pub returns : goal.returns
returns g c =
    let s = c.self.inside in
    let w : Places = record { desks = s.desks.items; shards = s.shards.items; deques = s.deques.items } in
    let at : c.args.name < length s.desks.items = omega (arith, s.desks.ok.0) in
    let d : Desk = c.index_mut-desk.result.now in
    let found : slice_get s.desks.items c.args.name ≡ Some d = slice_get_read s.desks.items s.desks.len c.args.name d s.desks.ok.0 (omega (arith, at, s.desks.ok.0)) c.index_mut-desk.ensures.value in
    let e : Desk = record d { home = c.read.new.self } in
    rw (← c.self.view_is) (read_in w c.args.name d e c.read.new.shards.items c.self.invariant found (c.if-not-read.ensures.yes refl) refl refl).read
