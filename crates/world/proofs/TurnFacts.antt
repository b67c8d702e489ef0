-- A turn and a poll of a world, over plain values.
use Rattle.std.proofs.Common.{◌≡◌, ℕ, ◌<◌, [], length, set, Some, None, refl, sym, ap, ◌∙◌, subst, inl, inr}
use Rattle.std.specs.Prelude.{slice_get}
use Rattle.std.proofs.lemmas.List.{length-set}
use Rattle.std.proofs.lemmas.Option.{slice_get_within}
use Rattle.shard.specs.Mails.{MailBook, mail_seen}
use Rattle.shard.specs.Stand.{Stand, Seat, Final, Seating, IsTold, seat_at}
use Rattle.shard.specs.Turns.{TurnsSettled, RanAt, EndedAt, IsPoll, PolledAt, IsRebased}
use Rattle.shard.specs.declared.shard.Turned.TheVariants.{Ran, Ended as Gone, Idle}
use Rattle.shard.specs.declared.shard.Polled.{Polled}
use Rattle.world.specs.declared.home.Home.TheVariants.{Left}
use Rattle.world.specs.declared.home.Desk.{Desk}
use Rattle.world.specs.declared.home.Place.TheVariants.{Resident, Ended}
use Rattle.world.specs.Tenants.{Standing, Over, Tenant}
use Rattle.world.specs.Places.{Places, shard_at, tenant_at}
use Rattle.world.specs.Kept.{IsWorld}
use Rattle.world.specs.declared.steps.Did.{Did}
use Rattle.world.specs.declared.steps.Did.TheVariants.{Done, Still}
use Rattle.world.specs.Steps.{Changed, Steps, Ends, PollsOne, IsWorldPoll, IsWorldTurn, did_poll, did_end}
use Rattle.world.proofs.Lists.{set_same}
use Rattle.world.proofs.Sitting.{sitting, by_run, by_end, by_poll, after_settled, settled, rebased, sat, there_is, unmoved}
use Rattle.world.proofs.KeptFacts.{IsOver, posted_by_turn, posted_by_end, posted_by_poll, name_by_poll}
use Rattle.world.proofs.WorldFacts.{keeps_all, all_stay}
use Rattle.world.proofs.StepFacts.{seat_changed, seat_ended, desk_of_sitter, tenant_with}

-- what each seat of a shard keeps
abbrev pub AllTold : Seating MailBook → Type 0
AllTold sh = (slot : ℕ) (s : Seat MailBook) → seat_at sh.seats slot ≡ Some s → IsTold mail_seen s.stand

-- a world of which one shard changed
abbrev pub with_shard : Places → ℕ → Seating MailBook → Places
with_shard w i sh = record w { shards = set w.shards i sh }

-- who made a step
pub record RanIn (w : Places) (i n : ℕ) (sh : Seating MailBook) (slot : ℕ) (s : Tenant) (a b : Stand MailBook) : Type 0 where
  pub world : IsWorld (with_shard w i sh)
  pub steps : Steps i w (with_shard w i sh) n slot s a b

pub at_run : (w : Places) (i n : ℕ) (sh : Seating MailBook) → IsWorld w → i < length w.shards → TurnsSettled mail_seen (Ran n) (shard_at w.shards i) sh → AllTold sh → (slot : ℕ) × (s : Tenant) × (a b : Stand MailBook) × RanIn w i n sh slot s a b
at_run w i n sh h within t told =
    let mid : Seating MailBook = t.0 in
    let slot : ℕ = t.2.0 in
    let a : Seat MailBook = t.2.1 in
    let b : Seat MailBook = t.2.2 in
    let r : RanAt mail_seen n mid sh slot a b = t.2.3 in
    let before = settled (shard_at w.shards i) mid t.1 slot in
    let seated = after_settled (shard_at w.shards i) mid sh slot (Some b.stand) t.1 (by_run n mid sh slot a b r) in
    let f = seat_changed w i slot n sh a.stand b.stand h within seated (sym before ∙ sat mid slot a r.was) r.name_is r.turn.name (told slot b (there_is mid sh slot a b r.was r.others)) (posted_by_turn a.stand b.stand r.turn) in (
      slot,
      f.0,
      a.stand,
      b.stand,
      record {
        world = f.1.world;
        steps = record { resident = f.1.resident; was = f.1.was; turn = r.turn; changed = f.1.changed };
      },
    )

-- who ended has a desk
pub at_end : (w : Places) (i : ℕ) (x : Final MailBook) (sh : Seating MailBook) → IsWorld w → TurnsSettled mail_seen (Gone x) (shard_at w.shards i) sh → x.name < length w.desks
at_end w i x sh h t =
    let mid : Seating MailBook = t.0 in
    let slot : ℕ = t.2.0 in
    let a : Seat MailBook = t.2.1 in
    let r : EndedAt mail_seen x mid sh slot a = t.2.2 in
    let f = desk_of_sitter w i slot x.name a.stand h (sym (settled (shard_at w.shards i) mid t.1 slot) ∙ sat mid slot a r.was) (sym r.end.name) in
    slice_get_within w.desks x.name f.0 f.1.found

-- a world of which one shard and one desk changed
abbrev pub with_left : Places → ℕ → Seating MailBook → ℕ → Desk → Places
with_left w i sh n e = record { desks = set w.desks n e; shards = set w.shards i sh; deques = w.deques }

pub record EndedIn (w v : Places) (i : ℕ) (x : Final MailBook) (slot : ℕ) (s : Tenant) (a : Stand MailBook) : Type 0 where
  pub world : IsWorld v
  pub ends : Ends i w v x.name slot s a x

pub at_end_is : (w : Places) (i n : ℕ) (x : Final MailBook) (sh : Seating MailBook) (d : Desk) → IsWorld w → i < length w.shards → TurnsSettled mail_seen (Gone x) (shard_at w.shards i) sh → IsOver x → x.name ≡ n → slice_get w.desks n ≡ Some d → (slot : ℕ) × (s : Tenant) × (a : Stand MailBook) × EndedIn w (with_left w i sh n (record d { home = Left x })) i x slot s a
at_end_is w i n x sh d h within t over name found =
    let mid : Seating MailBook = t.0 in
    let slot : ℕ = t.2.0 in
    let a : Seat MailBook = t.2.1 in
    let r : EndedAt mail_seen x mid sh slot a = t.2.2 in
    let was = sym (settled (shard_at w.shards i) mid t.1 slot) ∙ sat mid slot a r.was in
    let seated = after_settled (shard_at w.shards i) mid sh slot None t.1 (by_end x mid sh slot a r) in
    let o = seat_ended w i slot n sh a.stand d x h within seated was (sym r.end.name ∙ name) name found over (posted_by_end a.stand x r.end) in
    let v : Places = with_left w i sh n (record d { home = Left x }) in
    let s : Tenant = tenant_with d (Resident i slot) (Standing a.stand) in
    let t' : Tenant = tenant_with d Ended (Over x) in (
      slot,
      s,
      a.stand,
      record {
        world = o.world;
        ends = record { resident = refl; was = refl; end = r.end; changed = subst (λ m. Changed w v m s t') (sym name) o.changed };
      },
    )

-- nobody had an entry
pub record IdleIn (w : Places) (i : ℕ) (sh : Seating MailBook) : Type 0 where
  pub world : IsWorld (with_shard w i sh)
  pub same : (m : ℕ) → tenant_at (with_shard w i sh) m ≡ tenant_at w m

pub unmoved_in : (w : Places) (i : ℕ) (sh : Seating MailBook) → IsWorld w → i < length w.shards → ((k : ℕ) → sitting sh k ≡ sitting (shard_at w.shards i) k) → IdleIn w i sh
unmoved_in w i sh h within same =
    let all = unmoved w.shards i sh within same in
    record {
      world = keeps_all w (with_shard w i sh) h refl refl (length-set w.shards i sh) all;
      same = all_stay w (with_shard w i sh) refl all;
    }

pub at_idle : (w : Places) (i : ℕ) (sh : Seating MailBook) → IsWorld w → i < length w.shards → TurnsSettled mail_seen Idle (shard_at w.shards i) sh → IdleIn w i sh
at_idle w i sh h within t =
    unmoved_in w i sh h within (λ k. ap (λ (x : Seating MailBook). sitting x k) t.2.0 ∙ settled (shard_at w.shards i) t.0 t.1 k)

-- a turn, whatever its answer
pub record AfterTurn (w v : Places) (i : ℕ) (did : Did) : Type 0 where
  pub world : IsWorld v
  pub turn : IsWorldTurn i did w v

pub ran_in : (w : Places) (i n : ℕ) (old sh : Seating MailBook) → IsWorld w → i < length w.shards
    → old ≡ shard_at w.shards i → TurnsSettled mail_seen (Ran n) old sh → AllTold sh → AfterTurn w (with_shard w i sh) i Done
ran_in w i n old sh h within read t told =
    let k : TurnsSettled mail_seen (Ran n) (shard_at w.shards i) sh = subst (λ x. TurnsSettled mail_seen (Ran n) x sh) read t in
    let f = at_run w i n sh h within k told in
    record {
      world = f.4.world;
      turn = inr (Ran n, sh, refl, record { turned = k; one = (f.0, f.1, f.2, f.3, f.4.steps); shards = refl; deques = refl });
    }

pub near_end : (w : Places) (i : ℕ) (x : Final MailBook) (old sh : Seating MailBook) → IsWorld w
    → old ≡ shard_at w.shards i → TurnsSettled mail_seen (Gone x) old sh → x.name < length w.desks
near_end w i x old sh h read t = at_end w i x sh h (subst (λ y. TurnsSettled mail_seen (Gone x) y sh) read t)

pub over_in : (w : Places) (i n : ℕ) (x : Final MailBook) (old sh : Seating MailBook) (d : Desk) (did : Did) → IsWorld w → i < length w.shards
    → old ≡ shard_at w.shards i → TurnsSettled mail_seen (Gone x) old sh → IsOver x → x.name ≡ n → slice_get w.desks n ≡ Some d
    → did ≡ did_end x.ending → AfterTurn w (with_left w i sh n (record d { home = Left x })) i did
over_in w i n x old sh d did h within read t over name found said =
    let k : TurnsSettled mail_seen (Gone x) (shard_at w.shards i) sh = subst (λ y. TurnsSettled mail_seen (Gone x) y sh) read t in
    let f = at_end_is w i n x sh d h within k over name found in
    record {
      world = f.3.world;
      turn = inr (Gone x, sh, said, record { turned = k; one = (f.0, f.1, f.2, f.3.ends); shards = refl; deques = refl });
    }

pub idle_in : (w : Places) (i : ℕ) (old sh : Seating MailBook) → IsWorld w → i < length w.shards
    → old ≡ shard_at w.shards i → TurnsSettled mail_seen Idle old sh → AfterTurn w (with_shard w i sh) i Still
idle_in w i old sh h within read t =
    let k : TurnsSettled mail_seen Idle (shard_at w.shards i) sh = subst (λ y. TurnsSettled mail_seen Idle y sh) read t in
    let f = at_idle w i sh h within k in
    record {
      world = f.world;
      turn = inr (Idle, sh, refl, record { turned = k; one = f.same; shards = refl; deques = refl });
    }

-- who was polled
pub record PolledIn (w : Places) (i slot : ℕ) (answer : Polled) (n : ℕ) (s : Tenant) (a b : Seat MailBook) (sh : Seating MailBook) : Type 0 where
  pub world : IsWorld (with_shard w i sh)
  pub polls : PollsOne i slot answer w (with_shard w i sh) n s a b sh

pub at_poll : (w : Places) (i slot : ℕ) (answer : Polled) (sh : Seating MailBook) (a b : Seat MailBook) → IsWorld w → i < length w.shards → PolledAt mail_seen answer (shard_at w.shards i) sh slot a b → AllTold sh → (s : Tenant) × PolledIn w i slot answer a.stand.name s a b sh
at_poll w i slot answer sh a b h within r told =
    let seats = ap (λ (x : Seating MailBook). x.seats) r.others in
    let f = seat_changed w i slot a.stand.name sh a.stand b.stand h within (by_poll answer (shard_at w.shards i) sh slot a b r) (sat (shard_at w.shards i) slot a r.was) refl (name_by_poll answer a b r.polls) (told slot b (there_is (shard_at w.shards i) sh slot a b r.was seats)) (posted_by_poll answer a b r.polls) in (
      f.0,
      record {
        world = f.1.world;
        polls = record { resident = f.1.resident; was = f.1.was; polled = r; changed = f.1.changed; rest = refl };
      },
    )

-- a poll, whatever its answer
pub record AfterPoll (w : Places) (i slot : ℕ) (answer : Polled) (sh : Seating MailBook) : Type 0 where
  pub world : IsWorld (with_shard w i sh)
  pub poll : IsWorldPoll i slot (did_poll answer) w (with_shard w i sh)

pub poll_in : (w : Places) (i slot : ℕ) (answer : Polled) (sh : Seating MailBook) → IsWorld w → i < length w.shards → IsPoll mail_seen answer (shard_at w.shards i) sh slot → AllTold sh → AfterPoll w i slot answer sh
poll_in w i slot answer sh h within (inl v) told =
    let same : set w.shards i sh ≡ w.shards = set_same w.shards i sh (record { seats = []; clock = 0 }) v.1 in
    let all : with_shard w i sh ≡ w = ap (λ l. let x : Places = record w { shards = l } in x) same in
    record {
      world = subst IsWorld (sym all) h;
      poll = inl (ap did_poll v.0, all, v.2);
    }
poll_in w i slot answer sh h within (inr p) told =
    let f = at_poll w i slot answer sh p.0 p.1 h within p.2 told in
    record {
      world = f.1.world;
      poll = inr (answer, p.0.stand.name, f.0, p.0, p.1, sh, refl, f.1.polls);
    }

pub rebase_in : (w : Places) (i : ℕ) (sh : Seating MailBook) → IsWorld w → i < length w.shards → IsRebased (shard_at w.shards i) sh → IdleIn w i sh
rebase_in w i sh h within r = unmoved_in w i sh h within (rebased (shard_at w.shards i) sh r)
