-- One step of a world, by cases: the name that changed, how it changed, and that nothing else did.
use Rattle.std.specs.Prelude.{◌≡◌, ◌≢◌, ℕ, ◌^◌, ◌<◌, ◌≤◌, ◌⊎◌, false, Some, None, IsSome}
use Rattle.std.specs.Prelude.{List, [], ◌∷◌, ◌++◌, length, slice_set, slice_get}
use Rattle.emu_model.specs.declared.commands.Spec.{Spec}
use Rattle.emu_model.specs.declared.commands.Timed.{Timed}
use Rattle.emu_model.specs.declared.records.Record.{Record}
use Rattle.emu_model.specs.declared.records.Ending.{Ending}
use Rattle.emu_model.specs.declared.records.Ending.TheVariants.{Ended as ByEnd, Spent, Halted}
use Rattle.shard.specs.declared.shard.Turned.{Turned}
use Rattle.shard.specs.declared.shard.Turned.TheVariants.{Ran, Ended as Gone, Idle}
use Rattle.shard.specs.declared.shard.Polled.{Polled}
use Rattle.shard.specs.declared.shard.Polled.TheVariants.{Vacant, Took, Resumed, Held, Empty, NoMemory as NoRoom}
use Rattle.shard.specs.Mails.{MailBook, mail_seen}
use Rattle.shard.specs.Stand.{Stand, Seat, Final, Seating, seat_at, opened_stand}
use Rattle.shard.specs.Posts.{ChangedMail, with_command, Reads}
use Rattle.shard.specs.Turns.{TurnsSettled, IsTurn, IsEnd, PolledAt, TakenIn, PackedAt, IsRebased}
use Rattle.world.specs.declared.steps.Did.{Did}
use Rattle.world.specs.declared.steps.Did.TheVariants.{Done, Still, NoMemory}
use Rattle.world.specs.declared.home.Home.{Home}
use Rattle.world.specs.declared.home.Home.TheVariants.{Handed, Seated, Queued, Left}
use Rattle.world.specs.declared.home.Desk.{Desk}
use Rattle.world.specs.declared.home.Place.{Place}
use Rattle.world.specs.declared.home.Place.TheVariants.{HandedOut, Resident, InDeque, Ended}
use Rattle.world.specs.Tenants.{Life, Standing, Over, Tenant, shown, with_mail, with_post, IsPostable, IsRefused}
use Rattle.world.specs.Places.{Places, shard_at, deque_at, tenant_at}

-- the tenant of one name before and after, while all others did not change
pub record Changed (old new : Places) (n : ℕ) (s t : Tenant) : Type 0 where
  pub was : tenant_at old n ≡ Some s
  pub is : tenant_at new n ≡ Some t
  pub others : (m : ℕ) → m ≢ n → tenant_at new m ≡ tenant_at old m

-- the same tenant at another place
abbrev pub at_place : Tenant → Place → Tenant
at_place t place = record t { place = place }

abbrev pub with_life : Tenant → Life → Tenant
with_life t life = record t { life = life }

-- the desk of a name that was just registered
abbrev pub opened_desk : ℕ → Spec → Desk
opened_desk n spec = record {
  home = Handed (opened_stand n spec (record { given = []; waiting = []; read = []; unread = [] }));
  closed = false;
  last = 0;
}

-- the next name is handed out, and no other name changes
pub record Registers (spec : Spec) (old new : Places) : Type 0 where
  pub few : length old.desks < 10 ^ 6
  pub rest : new ≡ record old { desks = old.desks ++ opened_desk (length old.desks) spec ∷ [] }

abbrev pub IsRegistered : Spec → Did → Places → Places → Type 0
IsRegistered spec Done old new = Registers spec old new
IsRegistered spec Still old new = (new ≡ old) × (10 ^ 6 ≤ length old.desks)
IsRegistered spec NoMemory old new = (new ≡ old) × (length old.desks < 10 ^ 6)

-- one more command waits in a mail that had room
abbrev pub Puts : Timed → MailBook → MailBook → Type 0
Puts timed old new = (length old.waiting < 64) × (new ≡ with_command old timed)

-- one letter was read
abbrev pub ReadsOne : MailBook → MailBook → Type 0
ReadsOne old new = (r : Record) × Reads (Some r) old new

-- the mail of one experiment changed by `R`, wherever the experiment is
abbrev pub Mailed : (MailBook → MailBook → Type 0)
    → Home → List (Seating MailBook) → Home → List (Seating MailBook) → Type 0
Mailed R (Handed p) before home after =
    (mail : MailBook) × R p.mail mail × (home ≡ Handed (record p { mail = mail })) × (after ≡ before)
Mailed R (Seated i slot) before home after =
    (mail : MailBook) × (s : Seat MailBook) × (sh : Seating MailBook) × R s.stand.mail mail
    × ChangedMail (shard_at before i) sh slot s mail × (home ≡ Seated i slot) × (after ≡ slice_set before i sh)
Mailed R (Queued i p) before home after =
    (mail : MailBook) × R p.mail mail × (home ≡ Queued i (record p { mail = mail })) × (after ≡ before)
Mailed R (Left d) before home after =
    (mail : MailBook) × R d.mail mail × (home ≡ Left (record d { mail = mail })) × (after ≡ before)

-- the mail of one name changed by `R`
pub record MailsTo (R : MailBook → MailBook → Type 0) (old new : Places) (n : ℕ) (d : Desk) (e : Desk) : Type 0 where
  pub mailed : Mailed R d.home old.shards e.home new.shards
  pub rest : new ≡ record old { desks = slice_set old.desks n e; shards = new.shards }

pub record Posts (timed : Timed) (old new : Places) (n : ℕ) (d e : Desk) (s : Tenant) : Type 0 where
  pub allowed : IsPostable s.closed s.last timed
  pub room : length (shown s.life).mail.waiting < 64
  pub changed : Changed old new n s (with_post s timed)
  pub mails : MailsTo (Puts timed) old new n d e

-- a post: it fails if an `end` was posted, the time is too late or before that of the last post, or 64 commands wait
abbrev pub IsPost : ℕ → Timed → Did → Places → Places → Type 0
IsPost n timed Done old new = (d e : Desk) × (s : Tenant) × Posts timed old new n d e s
IsPost n timed Still old new =
    (new ≡ old)
    × ((s : Tenant) → tenant_at old n ≡ Some s →
    IsRefused s.closed s.last timed ⊎ (length (shown s.life).mail.waiting ≡ 64))
IsPost n timed NoMemory old new = ⊥

pub record ReadsLetter (old new : Places) (n : ℕ) (d e : Desk) (s : Tenant) (mail : MailBook) : Type 0 where
  pub reads : ReadsOne (shown s.life).mail mail
  pub changed : Changed old new n s (with_life s (with_mail s.life mail))
  pub mails : MailsTo ReadsOne old new n d e

abbrev pub IsRead : ℕ → Did → Places → Places → Type 0
IsRead n Done old new = (d e : Desk) × (s : Tenant) × (mail : MailBook) × ReadsLetter old new n d e s mail
IsRead n Still old new =
    (new ≡ old) × ((s : Tenant) → tenant_at old n ≡ Some s → (shown s.life).mail.unread ≡ [])
IsRead n NoMemory old new = ⊥

abbrev pub HasVacancy : Seating MailBook → Type 0
HasVacancy sh = (k : ℕ) × (k < 256) × (seat_at sh.seats k ≡ None)

-- a parcel was taken in at a shard's first vacant slot, or remains with the caller: no slot is vacant, or memory
-- ran out
abbrev pub Houses : Stand MailBook → ℕ → Did → Home → Seating MailBook → Seating MailBook → Type 0
Houses p i Done home old new = (slot : ℕ) × (s : Seat MailBook) × TakenIn p old new slot s × (home ≡ Seated i slot)
Houses p i Still home old new =
    (home ≡ Handed p) × (new ≡ old) × ((k : ℕ) → k < 256 → IsSome (seat_at old.seats k))
Houses p i NoMemory home old new = (home ≡ Handed p) × (new ≡ old) × HasVacancy old

-- an experiment that was handed out becomes a resident
pub record Admits (i : ℕ) (old new : Places) (n slot : ℕ) (s : Tenant)
    (sh : Seating MailBook) (p : Stand MailBook) (seat : Seat MailBook) : Type 0 where
  pub handed : s.place ≡ HandedOut
  pub changed : Changed old new n s (at_place s (Resident i slot))
  pub taken_in : TakenIn p (shard_at old.shards i) sh slot seat
  pub shards : new.shards ≡ slice_set old.shards i sh
  pub deques : new.deques ≡ old.deques

-- why nothing can be admitted: no such shard, the name is not handed out, or no slot is vacant
abbrev pub IsNotAdmitted : ℕ → ℕ → Places → Type 0
IsNotAdmitted n i w =
    (length w.shards ≤ i)
    ⊎ ((s : Tenant) → tenant_at w n ≡ Some s → s.place ≢ HandedOut)
    ⊎ ((k : ℕ) → k < 256 → IsSome (seat_at (shard_at w.shards i).seats k))

abbrev pub IsAdmission : ℕ → ℕ → Did → Places → Places → Type 0
IsAdmission n i Done old new =
    (slot : ℕ) × (s : Tenant) × (sh : Seating MailBook) × (p : Stand MailBook) × (seat : Seat MailBook)
    × Admits i old new n slot s sh p seat
IsAdmission n i Still old new = (new ≡ old) × IsNotAdmitted n i old
IsAdmission n i NoMemory old new =
    (new ≡ old) × (i < length old.shards)
    × ((d : Desk) × (p : Stand MailBook) × (slice_get old.desks n ≡ Some d) × (d.home ≡ Handed p))
    × HasVacancy (shard_at old.shards i)

-- a resident moved to the back of its shard's deque, or is handed out if the deque refuses it
pub record Offers (i slot : ℕ) (old new : Places) (n : ℕ) (place : Place) (s : Tenant)
    (sh : Seating MailBook) (p : Stand MailBook) (seat : Seat MailBook) : Type 0 where
  pub resident : s.place ≡ Resident i slot
  pub changed : Changed old new n s (at_place s place)
  pub packed : PackedAt p (shard_at old.shards i) sh slot seat
  pub shards : new.shards ≡ slice_set old.shards i sh

abbrev pub IsOffer : ℕ → ℕ → Did → Places → Places → Type 0
IsOffer i slot Done old new =
    (n : ℕ) × (s : Tenant) × (sh : Seating MailBook) × (p : Stand MailBook) × (seat : Seat MailBook)
    × Offers i slot old new n (InDeque i) s sh p seat
    × (new.deques ≡ slice_set old.deques i (deque_at old.deques i ++ n ∷ []))
IsOffer i slot Still old new = (new ≡ old) × (seat_at (shard_at old.shards i).seats slot ≡ None)
IsOffer i slot NoMemory old new =
    ((new ≡ old) × IsSome (seat_at (shard_at old.shards i).seats slot))
    ⊎ ((n : ℕ) × (s : Tenant) × (sh : Seating MailBook) × (p : Stand MailBook) × (seat : Seat MailBook)
    × Offers i slot old new n HandedOut s sh p seat × (new.deques ≡ old.deques))

-- the result of bringing a parcel, by the result of taking it in: if no slot is vacant, the parcel is handed out
abbrev pub did_bring : Did → Did
did_bring Done = Done
did_bring Still = Done
did_bring NoMemory = NoMemory

-- the front of a deque was removed from it
pub record Brings (from : ℕ) (old new : Places) (n : ℕ) (place : Place) (s : Tenant) (names : List ℕ) : Type 0 where
  pub queued : s.place ≡ InDeque from
  pub changed : Changed old new n s (at_place s place)
  pub front : deque_at old.deques from ≡ n ∷ names
  pub deques : new.deques ≡ slice_set old.deques from names

-- the front of a deque becomes a resident of a shard, or is handed out if the shard is full or memory runs out
abbrev pub IsBringing : ℕ → ℕ → Did → Places → Places → Type 0
IsBringing i from Done old new =
    (n : ℕ) × (s : Tenant) × (names : List ℕ)
    × (((slot : ℕ) × (sh : Seating MailBook) × (p : Stand MailBook) × (seat : Seat MailBook)
    × Brings from old new n (Resident i slot) s names
    × TakenIn p (shard_at old.shards i) sh slot seat × (new.shards ≡ slice_set old.shards i sh))
    ⊎ (Brings from old new n HandedOut s names × (new.shards ≡ old.shards)
    × ((k : ℕ) → k < 256 → IsSome (seat_at (shard_at old.shards i).seats k))))
IsBringing i from Still old new =
    (new ≡ old) × ((length old.shards ≤ i) ⊎ (deque_at old.deques from ≡ []))
IsBringing i from NoMemory old new =
    (n : ℕ) × (s : Tenant) × (names : List ℕ) × Brings from old new n HandedOut s names × (new.shards ≡ old.shards)
    × (i < length old.shards) × HasVacancy (shard_at old.shards i)

-- a resident made a step
pub record Steps (i : ℕ) (old new : Places) (n slot : ℕ) (s : Tenant) (a b : Stand MailBook) : Type 0 where
  pub resident : s.place ≡ Resident i slot
  pub was : s.life ≡ Standing a
  pub turn : IsTurn mail_seen a b
  pub changed : Changed old new n s (with_life s (Standing b))

-- a resident ended
pub record Ends (i : ℕ) (old new : Places) (n slot : ℕ) (s : Tenant)
    (a : Stand MailBook) (d : Final MailBook) : Type 0 where
  pub resident : s.place ≡ Resident i slot
  pub was : s.life ≡ Standing a
  pub end : IsEnd mail_seen a d
  pub changed : Changed old new n s (record s { place = Ended; life = Over d })

-- the effect on one name of a shard's turn with this result
abbrev pub TurnsOne : Turned MailBook → ℕ → Places → Places → Type 0
TurnsOne (Ran name) i old new =
    (slot : ℕ) × (s : Tenant) × (a b : Stand MailBook) × Steps i old new name slot s a b
TurnsOne (Gone d) i old new =
    (slot : ℕ) × (s : Tenant) × (a : Stand MailBook) × Ends i old new d.name slot s a d
TurnsOne Idle i old new = (m : ℕ) → tenant_at new m ≡ tenant_at old m

-- one turn of a shard; the deques and the other shards do not change
pub record TurnsAt (i : ℕ) (answer : Turned MailBook) (old new : Places) (sh : Seating MailBook) : Type 0 where
  pub turned : TurnsSettled mail_seen answer (shard_at old.shards i) sh
  pub one : TurnsOne answer i old new
  pub shards : new.shards ≡ slice_set old.shards i sh
  pub deques : new.deques ≡ old.deques

-- the result of a turn that ends an experiment; a halt means that memory ran out
abbrev pub did_end : Ending → Did
did_end ByEnd = Done
did_end Spent = Done
did_end Halted = NoMemory

-- the result of a step, by the result of the shard's turn
abbrev pub did_turn : Turned MailBook → Did
did_turn (Ran name) = Done
did_turn (Gone d) = did_end d.ending
did_turn Idle = Still

abbrev pub IsWorldTurn : ℕ → Did → Places → Places → Type 0
IsWorldTurn i did old new =
    ((did ≡ Still) × (length old.shards ≤ i) × (new ≡ old))
    ⊎ ((answer : Turned MailBook) × (sh : Seating MailBook) × (did ≡ did_turn answer) × TurnsAt i answer old new sh)

abbrev pub did_poll : Polled → Did
did_poll Vacant = Still
did_poll (Took n) = Done
did_poll (Resumed n) = Done
did_poll (Held n) = Done
did_poll (Empty n) = Done
did_poll (NoRoom n) = NoMemory

-- a resident was polled, and nothing else changed
pub record PollsOne (i slot : ℕ) (answer : Polled) (old new : Places) (n : ℕ) (s : Tenant)
    (a b : Seat MailBook) (sh : Seating MailBook) : Type 0 where
  pub resident : s.place ≡ Resident i slot
  pub was : s.life ≡ Standing a.stand
  pub polled : PolledAt mail_seen answer (shard_at old.shards i) sh slot a b
  pub changed : Changed old new n s (with_life s (Standing b.stand))
  pub rest : new ≡ record old { shards = slice_set old.shards i sh }

abbrev pub IsWorldPoll : ℕ → ℕ → Did → Places → Places → Type 0
IsWorldPoll i slot did old new =
    ((did ≡ Still) × (new ≡ old) × (seat_at (shard_at old.shards i).seats slot ≡ None))
    ⊎ ((answer : Polled) × (n : ℕ) × (s : Tenant) × (a b : Seat MailBook) × (sh : Seating MailBook)
    × (did ≡ did_poll answer) × PollsOne i slot answer old new n s a b sh)

-- the agenda of a shard was rewound, and no tenant changed
pub record Rebases (i : ℕ) (old new : Places) (sh : Seating MailBook) : Type 0 where
  pub rebased : IsRebased (shard_at old.shards i) sh
  pub same : (m : ℕ) → tenant_at new m ≡ tenant_at old m
  pub rest : new ≡ record old { shards = slice_set old.shards i sh }

abbrev pub IsWorldRebase : ℕ → Did → Places → Places → Type 0
IsWorldRebase i Done old new = (sh : Seating MailBook) × Rebases i old new sh
IsWorldRebase i Still old new = (new ≡ old) × (length old.shards ≤ i)
IsWorldRebase i NoMemory old new = ⊥
