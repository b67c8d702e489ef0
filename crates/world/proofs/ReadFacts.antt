-- What is read of a name.
use Rattle.std.proofs.Common.{◌≡◌, ◌≢◌, ℕ, ◌≤◌, List, [], length, set, Option, Some, None, refl, sym, ap, ◌∙◌, subst}
use Rattle.std.specs.Prelude.{option_map, slice_get}
use Rattle.std.proofs.lemmas.Option.{slice_get_past, same_Some}
use Rattle.emu_model.specs.declared.commands.Timed.{Timed}
use Rattle.emu_model.specs.declared.records.Record.{Record}
use Rattle.shard.specs.Mails.{MailBook}
use Rattle.shard.specs.Stand.{Stand, Seat, Final, Seating, seat_at}
use Rattle.shard.specs.declared.posts.PostError.{PostError}
use Rattle.shard.specs.declared.posts.PostError.TheVariants.{Vacant, Full}
use Rattle.shard.specs.Posts.{with_mail, ChangedMail, IsNotPut}
use Rattle.world.specs.declared.home.Home.{Home}
use Rattle.world.specs.declared.home.Home.TheVariants.{Handed, Seated, Queued, Left}
use Rattle.world.specs.declared.home.Desk.{Desk}
use Rattle.world.specs.Tenants.{Life, Standing, Over, Tenant, shown, place_of}
use Rattle.world.specs.Places.{Places, shard_at, stand_at, life_of, tenant_at}
use Rattle.world.specs.Kept.{IsWorld}
use Rattle.world.specs.Runs.{place_at, life_at, records_at, records_shown, consumed_at, commands_shown, stand_records, stand_commands}
use Rattle.world.proofs.Lists.{set_same}
use Rattle.world.proofs.Sitting.{sat, nobody_sat, stand_at-is}
use Rattle.world.proofs.WorldFacts.{tenant_by_desk, no_tenant}
use Rattle.world.proofs.StepFacts.{tenant_with}
use Rattle.world.proofs.PlaceFacts.{tenant_of_desk}

pub past_names : (w : Places) (n : ℕ) → length w.desks ≤ n → tenant_at w n ≡ None
past_names w n h = no_tenant w n (slice_get_past w.desks n h)

pub place_found : (w : Places) (n : ℕ) (d : Desk) → IsWorld w → slice_get w.desks n ≡ Some d → Some (place_of d.home) ≡ place_at w n
place_found w n d h found =
    let f = tenant_of_desk w n d h found in
    sym (ap (option_map (λ (t : Tenant). t.place)) f.1)

-- the tenant at a home
at_home : (w : Places) (n : ℕ) (d : Desk) (home : Home) → slice_get w.desks n ≡ Some d → d.home ≡ home → tenant_at w n ≡ option_map (tenant_with d (place_of home)) (life_of w.shards home)
at_home w n d home found is =
    tenant_by_desk w n d found ∙ ap (λ (h : Home). option_map (tenant_with d (place_of h)) (life_of w.shards h)) is

pub records_apart : (w : Places) (n : ℕ) (d : Desk) (home : Home) (life : Life) → slice_get w.desks n ≡ Some d → d.home ≡ home → life_of w.shards home ≡ Some life → records_at w n ≡ (shown life).records
records_apart w n d home life found is e =
    ap records_shown (at_home w n d home found is ∙ ap (option_map (tenant_with d (place_of home))) e)

pub commands_apart : (w : Places) (n : ℕ) (d : Desk) (home : Home) (life : Life) → slice_get w.desks n ≡ Some d → d.home ≡ home → life_of w.shards home ≡ Some life → consumed_at w n ≡ (shown life).commands
commands_apart w n d home life found is e =
    ap commands_shown (at_home w n d home found is ∙ ap (option_map (tenant_with d (place_of home))) e)

pub records_seated : (w : Places) (n : ℕ) (d : Desk) (i slot : ℕ) → slice_get w.desks n ≡ Some d → d.home ≡ Seated i slot → stand_records (stand_at w.shards i slot) ≡ records_at w n
records_seated w n d i slot found is = go (stand_at w.shards i slot) ∙ sym (ap records_shown (at_home w n d (Seated i slot) found is))
  where
    go : (o : Option (Stand MailBook)) → stand_records o ≡ records_shown (option_map (tenant_with d (place_of (Seated i slot))) (option_map Standing o))
    go None = refl
    go (Some s) = refl

pub commands_seated : (w : Places) (n : ℕ) (d : Desk) (i slot : ℕ) → slice_get w.desks n ≡ Some d → d.home ≡ Seated i slot → stand_commands (stand_at w.shards i slot) ≡ consumed_at w n
commands_seated w n d i slot found is = go (stand_at w.shards i slot) ∙ sym (ap commands_shown (at_home w n d (Seated i slot) found is))
  where
    go : (o : Option (Stand MailBook)) → stand_commands o ≡ commands_shown (option_map (tenant_with d (place_of (Seated i slot))) (option_map Standing o))
    go None = refl
    go (Some s) = refl

-- what a parcel or a dossier gave
pub records_held : (v w : Places) (n : ℕ) (d : Desk) (home : Home) (life : Life) (got : List Record) → w ≡ v
    → slice_get w.desks n ≡ Some d → d.home ≡ home → life_of w.shards home ≡ Some life → got ≡ (shown life).records
    → got ≡ records_at v n
records_held v w n d home life got e found is there same =
    subst (λ x. got ≡ records_at x n) e (same ∙ sym (records_apart w n d home life found is there))

pub commands_held : (v w : Places) (n : ℕ) (d : Desk) (home : Home) (life : Life) (got : List Timed) → w ≡ v
    → slice_get w.desks n ≡ Some d → d.home ≡ home → life_of w.shards home ≡ Some life → got ≡ (shown life).commands
    → got ≡ consumed_at v n
commands_held v w n d home life got e found is there same =
    subst (λ x. got ≡ consumed_at x n) e (same ∙ sym (commands_apart w n d home life found is there))

-- what a shard gave
pub records_sat : (v w : Places) (n : ℕ) (d : Desk) (i slot : ℕ) (got : List Record) → w ≡ v
    → slice_get w.desks n ≡ Some d → d.home ≡ Seated i slot → got ≡ stand_records (stand_at v.shards i slot)
    → got ≡ records_at v n
records_sat v w n d i slot got e found is same =
    same ∙ subst (λ x. stand_records (stand_at x.shards i slot) ≡ records_at x n) e (records_seated w n d i slot found is)

pub commands_sat : (v w : Places) (n : ℕ) (d : Desk) (i slot : ℕ) (got : List Timed) → w ≡ v
    → slice_get w.desks n ≡ Some d → d.home ≡ Seated i slot → got ≡ stand_commands (stand_at v.shards i slot)
    → got ≡ consumed_at v n
commands_sat v w n d i slot got e found is same =
    same ∙ subst (λ x. stand_commands (stand_at x.shards i slot) ≡ consumed_at x n) e (commands_seated w n d i slot found is)

-- nothing is read of a name that was never made
pub no_records : (v w : Places) (n : ℕ) → w ≡ v → length w.desks ≤ n → [] ≡ records_at v n
no_records v w n e past = subst (λ x. [] ≡ records_at x n) e (sym (ap records_shown (past_names w n past)))

pub no_commands : (v w : Places) (n : ℕ) → w ≡ v → length w.desks ≤ n → [] ≡ consumed_at v n
no_commands v w n e past = subst (λ x. [] ≡ consumed_at x n) e (sym (ap commands_shown (past_names w n past)))

pub who_sits : (shards : List (Seating MailBook)) (i slot : ℕ) (s : Seat MailBook) → seat_at (shard_at shards i).seats slot ≡ Some s → stand_at shards i slot ≡ Some s.stand
who_sits shards i slot s e = stand_at-is shards i slot ∙ sat (shard_at shards i) slot s e

pub nobody_sits : (shards : List (Seating MailBook)) (i slot : ℕ) → seat_at (shard_at shards i).seats slot ≡ None → stand_at shards i slot ≡ None
nobody_sits shards i slot e = stand_at-is shards i slot ∙ nobody_sat (shard_at shards i) slot e

-- nobody lives in a vacant slot
pub no_life : (shards : List (Seating MailBook)) (home : Home) (i slot : ℕ) (life : Life) → home ≡ Seated i slot → stand_at shards i slot ≡ None → life_of shards home ≡ Some life → ⊥
no_life shards home i slot life is none e =
    let x : None ≡ Some life = sym (ap (life_of shards) is ∙ ap (option_map Standing) none) ∙ e in
    absurd (cc)

pub life_there : (shards : List (Seating MailBook)) (home : Home) (i slot : ℕ) (a : Stand MailBook) (life : Life) → home ≡ Seated i slot → stand_at shards i slot ≡ Some a → life_of shards home ≡ Some life → Standing a ≡ life
life_there shards home i slot a life is there e =
    same_Some (Standing a) life (sym (ap (life_of shards) is ∙ ap (option_map Standing) there) ∙ e)

-- a command that was not put
pub not_put : (shards : List (Seating MailBook)) (home : Home) (i slot : ℕ) (sh : Seating MailBook) (timed : Timed) (error : PostError) → home ≡ Seated i slot → sh ≡ shard_at shards i → IsNotPut timed sh slot error → (life : Life) → life_of shards home ≡ Some life → length (shown life).mail.waiting ≡ 64
not_put shards home i slot sh timed (Vacant t) is same h life e =
    absurd (no_life shards home i slot life is (nobody_sits shards i slot (subst (λ x. seat_at x.seats slot ≡ None) same h.1)) e)
not_put shards home i slot sh timed (Full t) is same h life e =
    let s : Seat MailBook = h.1.0 in
    let there : stand_at shards i slot ≡ Some s.stand = who_sits shards i slot s (subst (λ x. seat_at x.seats slot ≡ Some s) same h.1.1) in
    ap (λ l. length (shown l).mail.waiting) (sym (life_there shards home i slot s.stand life is there e)) ∙ h.1.2

-- a letter that was not there
pub not_read : (shards : List (Seating MailBook)) (home : Home) (i slot : ℕ) (s : Seat MailBook) → home ≡ Seated i slot → seat_at (shard_at shards i).seats slot ≡ Some s → s.stand.mail.unread ≡ [] → (life : Life) → life_of shards home ≡ Some life → (shown life).mail.unread ≡ []
not_read shards home i slot s is there none life e =
    ap (λ l. (shown l).mail.unread) (sym (life_there shards home i slot s.stand life is (who_sits shards i slot s there) e)) ∙ none

-- a mail that stayed leaves all
pub same_mail : (old new : Seating MailBook) (slot : ℕ) (s : Seat MailBook) (mail : MailBook) → ChangedMail old new slot s mail → mail ≡ s.stand.mail → new ≡ old
same_mail old new slot s mail c e =
    let same : with_mail s mail ≡ s = λ i. record { stand = record s.stand { mail = e i }; offset = s.offset } in
    c.changed ∙ ap (λ l. let x : Seating MailBook = record old { seats = l } in x) (ap (λ x. set old.seats slot (Some x)) same ∙ set_same old.seats slot (Some s) None (sym c.was))

-- who has another home hasn't ended
pub not_over : (w : Places) (n : ℕ) (d : Desk) (home : Home) (x : Final MailBook) → slice_get w.desks n ≡ Some d → d.home ≡ home → ((o : Final MailBook) → home ≢ Left o) → life_at w n ≢ Some (Over x)
not_over w n d (Handed p) x found is never = λ e.
    let q : Some (Standing p) ≡ Some (Over x) = sym (ap (option_map (λ (t : Tenant). t.life)) (at_home w n d (Handed p) found is)) ∙ e in cc
not_over w n d (Queued i p) x found is never = λ e.
    let q : Some (Standing p) ≡ Some (Over x) = sym (ap (option_map (λ (t : Tenant). t.life)) (at_home w n d (Queued i p) found is)) ∙ e in cc
not_over w n d (Left o) x found is never = λ e. never o refl
not_over w n d (Seated i slot) x found is never = λ e. go (stand_at w.shards i slot) (sym (ap (option_map (λ (t : Tenant). t.life)) (at_home w n d (Seated i slot) found is)) ∙ e)
  where
    go : (o : Option (Stand MailBook)) → option_map (λ (t : Tenant). t.life) (option_map (tenant_with d (place_of (Seated i slot))) (option_map Standing o)) ≡ Some (Over x) → ⊥
    go None q = absurd (cc)
    go (Some s) q = absurd (cc)

pub is_over : (w : Places) (n : ℕ) (d : Desk) (x : Final MailBook) → slice_get w.desks n ≡ Some d → d.home ≡ Left x → life_at w n ≡ Some (Over x)
is_over w n d x found is = ap (option_map (λ (t : Tenant). t.life)) (at_home w n d (Left x) found is)
