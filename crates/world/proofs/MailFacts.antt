-- What a post or a read letter leaves of a world.
use Rattle.std.proofs.Common.{◌≡◌, ◌≢◌, ℕ, ◌≤◌, List, ◌++◌, length, set, Option, Some, None, refl, sym, ap, ◌∙◌, subst}
use Rattle.std.specs.Prelude.{option_map, slice_get}
use Rattle.std.proofs.lemmas.List.{length-set}
use Rattle.std.proofs.lemmas.Option.{same_Some, slice_get_within}
use Rattle.emu_model.specs.declared.commands.Timed.{Timed}
use Rattle.emu_model.specs.Commands.{is_end}
use Rattle.shard.specs.Mails.{MailBook, posted_of}
use Rattle.shard.specs.Stand.{Stand, Seat, Seating}
use Rattle.shard.specs.Posts.{ChangedMail, with_command}
use Rattle.world.specs.declared.steps.Did.TheVariants.{Done}
use Rattle.world.specs.declared.home.Home.{Home}
use Rattle.world.specs.declared.home.Home.TheVariants.{Handed, Seated, Queued, Left}
use Rattle.world.specs.declared.home.Desk.{Desk}
use Rattle.world.specs.declared.home.Place.{Place}
use Rattle.world.specs.declared.home.Place.TheVariants.{HandedOut, Resident, InDeque, Ended}
use Rattle.world.specs.Tenants.{Life, Standing, Over, Tenant, shown, with_mail, with_post, place_of, IsPostable}
use Rattle.world.specs.Places.{Places, shard_at, stand_at, life_of, tenant_of, tenant_at, home_at, wanted_in}
use Rattle.world.specs.Kept.{IsKept, IsWorld, waits_of}
use Rattle.world.specs.Steps.{Changed, Mailed, Puts, ReadsOne, IsPost, IsRead, with_life}
use Rattle.world.proofs.Sitting.{Moved, moved, by_mail, sat, stand_at-is, shard_within}
use Rattle.world.proofs.KeptFacts.{Rises, rises, kept_mail, SameMail, rises_by_post, mail_by_read, posted_by_read}
use Rattle.world.proofs.WorldFacts.{Steps, tenant_by_desk, no_tenant, desk_set, sits_at, sits_nowhere, waits_same}
use Rattle.world.proofs.StepFacts.{Outcome, outcome, tenant_with, tenant_seated, tenant_here, home_of, not_seated, one_seat}

-- what a change of a mail does to what is kept of it
pub record IsFair (R : MailBook → MailBook → Type 0) (before after : ℕ) : Type 0 where
  pub mail : (m k : MailBook) → R m k → SameMail m k
  pub posts : (m k : MailBook) → R m k → Rises (posted_of m) before → Rises (posted_of k) after

-- a world of which one desk and the shards changed
abbrev pub mailed_world : Places → ℕ → Desk → List (Seating MailBook) → Places
mailed_world w n e after = record { desks = set w.desks n e; shards = after; deques = w.deques }

-- the mail of one name changed
pub record MailChange (R : MailBook → MailBook → Type 0) (w : Places) (n : ℕ) (e : Desk) (after : List (Seating MailBook)) (s : Tenant) (mail : MailBook) : Type 0 where
  pub is : R (shown s.life).mail mail
  pub out : Outcome w (mailed_world w n e after) n s (tenant_with e s.place (with_mail s.life mail))

-- one that is no resident
apart : (R : MailBook → MailBook → Type 0) (w : Places) (n : ℕ) (d e : Desk) (after : List (Seating MailBook)) (place : Place) (life : Life) (mail : MailBook) → IsFair R d.last e.last → IsWorld w → slice_get w.desks n ≡ Some d → tenant_of w.shards d ≡ Some (tenant_with d place life) → tenant_of after e ≡ Some (tenant_with e place (with_mail life mail)) → ((j k : ℕ) → d.home ≢ Seated j k) → ((j k : ℕ) → e.home ≢ Seated j k) → after ≡ w.shards → ((i : ℕ) → wanted_in (place_of d.home) i ≡ wanted_in (place_of e.home) i) → R (shown life).mail mail → MailChange R w n e after (tenant_with d place life) mail
apart R w n d e after place life mail fair h found before later never gone same wanted r =
    let v : Places = mailed_world w n e after in
    let s : Tenant = tenant_with d place life in
    let home : home_at w.desks n ≡ Some d.home = home_of w.desks n d found in
    let old : IsKept n s = h.each n s (tenant_by_desk w n d found ∙ before) in
    let kept : IsKept n (tenant_with e place (with_mail life mail)) = kept_mail n s mail e.closed e.last old (fair.mail (shown life).mail mail r) (fair.posts (shown life).mail mail r (rises n s old)) in
    let c : Steps w v n e = record {
      desk = desk_set w.desks n e (slice_get_within w.desks n d found);
      sits = sits_nowhere w after n e h (λ i k. ap (λ l. stand_at l i k) same) (λ j k. not_seated d.home j k (home_at w.desks n) home never) gone;
      waits = waits_same w n e h (λ i. ap (λ o. waits_of o i) home ∙ wanted i);
      as_many = h.as_many ∙ sym (ap length same);
    } in
    record { is = r; out = outcome w v n d e s (tenant_with e place (with_mail life mail)) h c found before later kept }

-- a resident
in_slot : (R : MailBook → MailBook → Type 0) (w : Places) (n i slot : ℕ) (d e : Desk) (after : List (Seating MailBook)) (seat : Seat MailBook) (sh : Seating MailBook) (mail : MailBook) → IsFair R d.last e.last → IsWorld w → slice_get w.desks n ≡ Some d → d.home ≡ Seated i slot → e.home ≡ Seated i slot → ChangedMail (shard_at w.shards i) sh slot seat mail → after ≡ set w.shards i sh → R seat.stand.mail mail → MailChange R w n e after (tenant_with d (Resident i slot) (Standing seat.stand)) mail
in_slot R w n i slot d e after seat sh mail fair h found is home c same r =
    let v : Places = mailed_world w n e after in
    let a : Stand MailBook = seat.stand in
    let b : Stand MailBook = record a { mail = mail } in
    let within = shard_within w.shards i slot seat c.was in
    let m : Moved w.shards after i slot (Some b) = subst (λ l. Moved w.shards l i slot (Some b)) (sym same) (moved w.shards i sh slot (Some b) within (by_mail (shard_at w.shards i) sh slot seat mail c)) in
    let there : stand_at w.shards i slot ≡ Some a = stand_at-is w.shards i slot ∙ sat (shard_at w.shards i) slot seat c.was in
    let at : home_at w.desks n ≡ Some (Seated i slot) = home_of w.desks n d found ∙ ap Some is in
    let name : a.name ≡ n = same_Some a.name n (sym (ap (option_map (λ (x : Stand MailBook). x.name)) there) ∙ h.sits n i slot at) in
    let s : Tenant = tenant_with d (Resident i slot) (Standing a) in
    let t : Tenant = tenant_with e (Resident i slot) (Standing b) in
    let before : tenant_of w.shards d ≡ Some s = tenant_seated w.shards d i slot a is there in
    let later : tenant_of after e ≡ Some t = tenant_seated after e i slot b home m.here in
    let old : IsKept n s = h.each n s (tenant_by_desk w n d found ∙ before) in
    let kept : IsKept n t = kept_mail n s mail e.closed e.last old (fair.mail a.mail mail r) (fair.posts a.mail mail r (rises n s old)) in
    let k : Steps w v n e = record {
      desk = desk_set w.desks n e (slice_get_within w.desks n d found);
      sits = sits_at w after n i slot e b h m name (λ x q. ap (λ (y : Stand MailBook). y.name) (same_Some x a (sym q ∙ there)) ∙ name) home (λ j l q. one_seat (Seated i slot) i slot j l refl (sym at ∙ q));
      waits = waits_same w n e h (λ j. ap (λ o. waits_of o j) at ∙ sym (ap (λ x. wanted_in (place_of x) j) home));
      as_many = h.as_many ∙ sym (ap length same ∙ length-set w.shards i sh);
    } in
    record { is = r; out = outcome w v n d e s t h k found before later kept }

pub mailed : (R : MailBook → MailBook → Type 0) (w : Places) (n : ℕ) (d e : Desk) (after : List (Seating MailBook)) → IsFair R d.last e.last → IsWorld w → slice_get w.desks n ≡ Some d → Mailed R d.home w.shards e.home after → (s : Tenant) × (mail : MailBook) × MailChange R w n e after s mail
mailed R w n d e after fair h found m = go d.home refl m
  where
    go : (home : Home) → d.home ≡ home → Mailed R home w.shards e.home after → (s : Tenant) × (mail : MailBook) × MailChange R w n e after s mail
    go (Handed p) is m =
        (tenant_with d HandedOut (Standing p), m.0, apart R w n d e after HandedOut (Standing p) m.0 fair h found (tenant_here w.shards d (Handed p) (Standing p) is refl) (tenant_here after e (Handed (record p { mail = m.0 })) (Standing (record p { mail = m.0 })) m.2 refl) (λ j k q. let x : Handed p ≡ Seated j k = sym is ∙ q in cc) (λ j k q. let x : Handed (record p { mail = m.0 }) ≡ Seated j k = sym m.2 ∙ q in cc) m.3 (λ i. ap (λ x. wanted_in (place_of x) i) is ∙ sym (ap (λ x. wanted_in (place_of x) i) m.2)) m.1)
    go (Seated i slot) is m =
        (tenant_with d (Resident i slot) (Standing m.1.stand), m.0, in_slot R w n i slot d e after m.1 m.2 m.0 fair h found is m.5 m.4 m.6 m.3)
    go (Queued j p) is m =
        (tenant_with d (InDeque j) (Standing p), m.0, apart R w n d e after (InDeque j) (Standing p) m.0 fair h found (tenant_here w.shards d (Queued j p) (Standing p) is refl) (tenant_here after e (Queued j (record p { mail = m.0 })) (Standing (record p { mail = m.0 })) m.2 refl) (λ i k q. let x : Queued j p ≡ Seated i k = sym is ∙ q in cc) (λ i k q. let x : Queued j (record p { mail = m.0 }) ≡ Seated i k = sym m.2 ∙ q in cc) m.3 (λ i. ap (λ x. wanted_in (place_of x) i) is ∙ sym (ap (λ x. wanted_in (place_of x) i) m.2)) m.1)
    go (Left o) is m =
        (tenant_with d Ended (Over o), m.0, apart R w n d e after Ended (Over o) m.0 fair h found (tenant_here w.shards d (Left o) (Over o) is refl) (tenant_here after e (Left (record o { mail = m.0 })) (Over (record o { mail = m.0 })) m.2 refl) (λ j k q. let x : Left o ≡ Seated j k = sym is ∙ q in cc) (λ j k q. let x : Left (record o { mail = m.0 }) ≡ Seated j k = sym m.2 ∙ q in cc) m.3 (λ i. ap (λ x. wanted_in (place_of x) i) is ∙ sym (ap (λ x. wanted_in (place_of x) i) m.2)) m.1)

-- a command came to a name's mail
pub record AfterPost (w v : Places) (n : ℕ) (timed : Timed) : Type 0 where
  pub world : IsWorld v
  pub post : IsPost n timed Done w v

-- what a tenant at a desk is
pub at_desk : (shards : List (Seating MailBook)) (d : Desk) (s : Tenant) → tenant_of shards d ≡ Some s → (life_of shards d.home ≡ Some s.life) × (d.closed ≡ s.closed) × (d.last ≡ s.last)
at_desk shards d s e = go (life_of shards d.home) e
  where
    go : (o : Option Life) → option_map (tenant_with d (place_of d.home)) o ≡ Some s → (o ≡ Some s.life) × (d.closed ≡ s.closed) × (d.last ≡ s.last)
    go None q = absurd (cc)
    go (Some life) q =
        let same : tenant_with d (place_of d.home) life ≡ s = same_Some (tenant_with d (place_of d.home) life) s q in
        (ap (λ (x : Tenant). Some x.life) same, ap (λ (x : Tenant). x.closed) same, ap (λ (x : Tenant). x.last) same)

pub place_at_desk : (shards : List (Seating MailBook)) (d : Desk) (s : Tenant) → tenant_of shards d ≡ Some s → place_of d.home ≡ s.place
place_at_desk shards d s e = go (life_of shards d.home) e
  where
    go : (o : Option Life) → option_map (tenant_with d (place_of d.home)) o ≡ Some s → place_of d.home ≡ s.place
    go None q = absurd (cc)
    go (Some life) q = ap (λ (x : Tenant). x.place) (same_Some (tenant_with d (place_of d.home) life) s q)

-- who is not handed out can't be admitted
pub not_handed : (w : Places) (n : ℕ) (d : Desk) (s : Tenant) → slice_get w.desks n ≡ Some d → ((p : Stand MailBook) → d.home ≢ Handed p) → tenant_at w n ≡ Some s → s.place ≢ HandedOut
not_handed w n d s found never e = λ q. go d.home refl (place_at_desk w.shards d s (sym (tenant_by_desk w n d found) ∙ e) ∙ q)
  where
    go : (home : Home) → d.home ≡ home → place_of home ≡ HandedOut → ⊥
    go (Handed p) is x = never p is
    go (Seated i k) is x = absurd (cc)
    go (Queued i p) is x = absurd (cc)
    go (Left o) is x = absurd (cc)

pub post_in : (w : Places) (n : ℕ) (d e : Desk) (timed : Timed) (after : List (Seating MailBook)) → IsWorld w → slice_get w.desks n ≡ Some d → IsPostable d.closed d.last timed → Mailed (Puts timed) d.home w.shards e.home after → e.closed ≡ is_end timed.command → e.last ≡ timed.moment → AfterPost w (mailed_world w n e after) n timed
post_in w n d e timed after h found allowed m closed last =
    let fair : IsFair (Puts timed) d.last e.last = record {
      mail = λ old new r. record { given = ap (λ (x : MailBook). x.given) r.1; letters = ap (λ (x : MailBook). x.read ++ x.unread) r.1 };
      posts = λ old new r q. subst (λ x. Rises (posted_of x) e.last) (sym r.1) (subst (λ k. Rises (posted_of (with_command old timed)) k) (sym last) (rises_by_post old timed d.last q allowed.rising));
    } in
    let f = mailed (Puts timed) w n d e after fair h found m in
    let s : Tenant = f.0 in
    let out = f.2.out in
    let was : tenant_of w.shards d ≡ Some s = sym (tenant_by_desk w n d found) ∙ out.changed.was in
    let at = at_desk w.shards d s was in
    let same : tenant_with e s.place (with_mail s.life f.1) ≡ with_post s timed = λ i. record { place = s.place; life = with_mail s.life (f.2.is.1 i); closed = closed i; last = last i } in
    record {
      world = out.world;
      post = (
        d,
        e,
        s,
        record {
          allowed = record { open_yet = sym at.1 ∙ allowed.open_yet; in_time = allowed.in_time; rising = subst (λ k. k ≤ timed.moment) at.2 allowed.rising };
          room = f.2.is.0;
          changed = subst (λ t. Changed w (mailed_world w n e after) n s t) same out.changed;
          mails = record { mailed = m; rest = refl };
        },
      );
    }

pub record AfterRead (w v : Places) (n : ℕ) : Type 0 where
  pub world : IsWorld v
  pub read : IsRead n Done w v

pub read_in : (w : Places) (n : ℕ) (d e : Desk) (after : List (Seating MailBook)) → IsWorld w → slice_get w.desks n ≡ Some d → Mailed ReadsOne d.home w.shards e.home after → e.closed ≡ d.closed → e.last ≡ d.last → AfterRead w (mailed_world w n e after) n
read_in w n d e after h found m closed last =
    let fair : IsFair ReadsOne d.last e.last = record {
      mail = λ old new r. mail_by_read old new r.0 r.1;
      posts = λ old new r q. subst (λ x. Rises x e.last) (sym (posted_by_read old new r.0 r.1)) (subst (λ k. Rises (posted_of old) k) (sym last) q);
    } in
    let f = mailed ReadsOne w n d e after fair h found m in
    let s : Tenant = f.0 in
    let out = f.2.out in
    let was : tenant_of w.shards d ≡ Some s = sym (tenant_by_desk w n d found) ∙ out.changed.was in
    let at = at_desk w.shards d s was in
    let same : tenant_with e s.place (with_mail s.life f.1) ≡ with_life s (with_mail s.life f.1) = λ i. record { place = s.place; life = with_mail s.life f.1; closed = (closed ∙ at.1) i; last = (last ∙ at.2) i } in
    record {
      world = out.world;
      read = (
        d,
        e,
        s,
        f.1,
        record {
          reads = f.2.is;
          changed = subst (λ t. Changed w (mailed_world w n e after) n s t) same out.changed;
          mails = record { mailed = m; rest = refl };
        },
      );
    }

-- a desk whose tenant is refused
pub refused_at : (w : Places) (n : ℕ) (d : Desk) (s : Tenant) → slice_get w.desks n ≡ Some d → tenant_at w n ≡ Some s → (life_of w.shards d.home ≡ Some s.life) × (d.closed ≡ s.closed) × (d.last ≡ s.last)
refused_at w n d s found e = at_desk w.shards d s (sym (tenant_by_desk w n d found) ∙ e)

-- nobody has a name that was never made
pub never_made : (w : Places) (n : ℕ) (s : Tenant) → slice_get w.desks n ≡ None → tenant_at w n ≢ Some s
never_made w n s none = λ e. let x : None ≡ Some s = sym (no_tenant w n none) ∙ e in cc
