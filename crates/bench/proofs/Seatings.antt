-- The names of those who sit in a shard.
use Rattle.std.proofs.Common.{◌≡◌, ◌<◌, ◌+◌, ◌==◌, ℕ, zero, suc, cond, Bool, List, [], ◌∷◌, ◌++◌, length, set, sym, refl, ap, ◌∙◌, arith, Option, Some, None, ⊎_elim}
use Rattle.std.specs.List.{sum_by}
use Rattle.std.proofs.lemmas.Bool.Decides.{Decides-eqb}
use Rattle.std.proofs.lemmas.List.Sums.{sum_by-set, sum_by-append, sum_by-cons}
use Rattle.shard.specs.Stand.{Stand, Seat, Seating, Final, seat_at, stand_in, stands_of}
use Rattle.shard.specs.declared.shard.Turned.TheVariants.{Ran, Ended, Idle}
use Rattle.shard.specs.Turns.{TakenIn, Settles, ManyTurnsSettled}
use Rattle.shard.proofs.CallerLemmas.{turns_name}
use Rattle.bench.specs.declared.mail.RingMail.{RingMail}
use Rattle.bench.specs.Rings.{ring_seen}
use Rattle.bench.specs.Custody.{times, seat_named, seated, AreResidents}

abbrev Seats : Type 0
Seats = List (Option (Seat RingMail))

-- whether a name is x, as a number
abbrev pub one_of : ℕ → ℕ → ℕ
one_of x n = cond (n == x) 1 0

same_one : (x n m : ℕ) → n ≡ m → one_of x n ≡ one_of x m
same_one x n m e = ap (one_of x) e

-- where nobody sits nobody is counted
pub vacant_seated : (x : ℕ) (seats : Seats) → ((k : ℕ) → seat_at seats k ≡ None) → seated x seats ≡ 0
vacant_seated x [] h = refl
vacant_seated x (o ∷ seats) h =
    let r = vacant_seated x seats (λ k. h (suc k)) in
    let e = ap (seat_named x) (h 0) in
    omega (arith, sum_by-cons (seat_named x) o seats)

-- who sits somewhere sits inside
held_inside : (seats : Seats) (k : ℕ) (s : Seat RingMail) → seat_at seats k ≡ Some s → k < length seats
held_inside [] k s e = absurd (cc)
held_inside (o ∷ seats) zero s e = omega arith
held_inside (o ∷ seats) (suc k) s e = let r = held_inside seats k s e in omega arith

-- so who came there came inside
came_inside : (seats : Seats) (k : ℕ) (o : Option (Seat RingMail)) (s : Seat RingMail) → seat_at (set seats k o) k ≡ Some s → k < length seats
came_inside [] k o s e = absurd (cc)
came_inside (y ∷ seats) zero o s e = omega arith
came_inside (y ∷ seats) (suc k) o s e = let r = came_inside seats k o s e in omega arith

-- one seat was changed
changed : (x : ℕ) (seats : Seats) (k : ℕ) (o now : Option (Seat RingMail)) → k < length seats → seat_at seats k ≡ o → seated x (set seats k now) + seat_named x o ≡ seated x seats + seat_named x now
changed x seats k o now low was =
    let s = sum_by-set (seat_named x) seats k now None low in
    let e = ap (seat_named x) was in
    omega arith

abbrev stand_named : ℕ → Option (Stand RingMail) → ℕ
stand_named x None = 0
stand_named x (Some p) = cond (p.name == x) 1 0

one_stand : (x : ℕ) (o : Option (Seat RingMail)) → seat_named x o ≡ stand_named x (stand_in o)
one_stand x None = refl
one_stand x (Some s) = refl

-- the names are those of the stands
by_stands : (x : ℕ) (seats : Seats) → seated x seats ≡ sum_by (stand_named x) (stands_of seats)
by_stands x [] = refl
by_stands x (o ∷ seats) =
    let r = by_stands x seats in
    let e = one_stand x o in
    omega (arith, sum_by-cons (seat_named x) o seats, sum_by-cons (stand_named x) (stand_in o) (stands_of seats))

-- a time that began anew leaves all names
settled_seated : (x : ℕ) (old mid : Seating RingMail) → Settles old mid → seated x mid.seats ≡ seated x old.seats
settled_seated x old mid h =
    ⊎_elim (λ e. ap (λ (g : Seating RingMail). seated x g.seats) e.1)
    (λ r. by_stands x mid.seats ∙ ap (sum_by (stand_named x)) r.1.stands ∙ sym (by_stands x old.seats)) h

-- a parcel came
pub came_seated : (x : ℕ) (p : Stand RingMail) (old new : Seating RingMail) (slot : ℕ) (s : Seat RingMail) → TakenIn p old new slot s → seated x new.seats ≡ seated x old.seats + one_of x p.name
came_seated x p old new slot s t =
    let there : seat_at (set old.seats slot (Some s)) slot ≡ Some s = sym (ap (λ l. seat_at l slot) t.others) ∙ t.there in
    let c = changed x old.seats slot None (Some s) (came_inside old.seats slot (Some s) s there) t.vacant in
    let e = ap (seated x) t.others in
    let f : seat_named x (Some s) ≡ one_of x s.stand.name = refl in
    let n = same_one x s.stand.name p.name (ap (λ (q : Stand RingMail). q.name) t.same) in
    omega arith

-- a resident went
pub went_seated : (x : ℕ) (old : Seating RingMail) (seats : Seats) (slot : ℕ) (s : Seat RingMail) → seat_at old.seats slot ≡ Some s → seats ≡ set old.seats slot None → seated x seats + one_of x s.stand.name ≡ seated x old.seats
went_seated x old seats slot s was others =
    let c = changed x old.seats slot (Some s) None (held_inside old.seats slot s was) was in
    let e = ap (seated x) others in
    omega arith

-- after turns all names are there
pub ran_seated : (x name : ℕ) (may_refuse : Bool) (more ran : ℕ) (old new : Seating RingMail) → ManyTurnsSettled ring_seen may_refuse more ran (Ran name) old new → seated x new.seats ≡ seated x old.seats
ran_seated x name may_refuse more ran old new h =
    let mid = h.0 in
    let turns = h.2.2 in
    let slot = turns.0 in
    let s = turns.1 in
    let t = turns.2 in
    let r = turns.4 in
    let c = changed x mid.seats slot (Some s) (Some t) (held_inside mid.seats slot s r.was) r.was in
    let e = ap (seated x) r.others in
    let f : seat_named x (Some s) ≡ one_of x s.stand.name = refl in
    let g : seat_named x (Some t) ≡ one_of x t.stand.name = refl in
    let n = same_one x t.stand.name s.stand.name (turns_name ring_seen ran _ _ r.turns) in
    let m = settled_seated x old mid h.1 in
    omega arith

pub idle_seated : (x : ℕ) (may_refuse : Bool) (more ran : ℕ) (old new : Seating RingMail) → ManyTurnsSettled ring_seen may_refuse more ran Idle old new → seated x new.seats ≡ seated x old.seats
idle_seated x may_refuse more ran old new h = ap (λ (g : Seating RingMail). seated x g.seats) h.2.1 ∙ settled_seated x old h.0 h.1

-- after an end all others are there
pub ended_seated : (x : ℕ) (d : Final RingMail) (may_refuse : Bool) (more ran : ℕ) (old new : Seating RingMail) → ManyTurnsSettled ring_seen may_refuse more ran (Ended d) old new → seated x new.seats + one_of x d.name ≡ seated x old.seats
ended_seated x d may_refuse more ran old new h =
    let mid = h.0 in
    let turns = h.2.1 in
    let r = turns.3 in
    let g = went_seated x mid new.seats turns.0 turns.1 r.was r.others in
    let n = same_one x d.name turns.1.stand.name (r.end.name ∙ turns_name ring_seen ran _ _ r.turns) in
    let m = settled_seated x old mid h.1 in
    omega arith

itself : (n : ℕ) → one_of n n ≡ 1
itself n = let f : Bool → ℕ = λ b. cond b 1 0 in ap f ((Decides-eqb n n).1 refl)

-- one of the name ended, so the list has it
pub ended_there : (names : List ℕ) (d : Final RingMail) (may_refuse : Bool) (more ran : ℕ) (old new : Seating RingMail) → AreResidents names old.seats → ManyTurnsSettled ring_seen may_refuse more ran (Ended d) old new → 0 < times d.name names
ended_there names d may_refuse more ran old new sits h =
    let g = ended_seated d.name d may_refuse more ran old new h in
    let a = sits d.name in
    let i = itself d.name in
    omega arith

pub packed_there : (names : List ℕ) (old : Seating RingMail) (slot : ℕ) (s : Seat RingMail) → AreResidents names old.seats → seat_at old.seats slot ≡ Some s → 0 < times s.stand.name names
packed_there names old slot s sits was =
    let g = went_seated s.stand.name old (set old.seats slot None) slot s was refl in
    let a = sits s.stand.name in
    let i = itself s.stand.name in
    omega arith

-- one more name at the end
pub times-push : (x : ℕ) (names new : List ℕ) (n : ℕ) → new ≡ names ++ n ∷ [] → times x new ≡ times x names + one_of x n
times-push x names new n e =
    let a = sum_by-append (λ y. cond (y == x) 1 0) names (n ∷ []) in
    let b = ap (times x) e in
    omega arith

-- the list of the residents' names goes with the seats
pub comes_in : (names new_names : List ℕ) (n : ℕ) (p : Stand RingMail) (old new : Seating RingMail) (slot : ℕ) (s : Seat RingMail) → AreResidents names old.seats → TakenIn p old new slot s →
    n ≡ p.name → new_names ≡ names ++ n ∷ [] → AreResidents new_names new.seats
comes_in names new_names n p old new slot s sits t is e x =
    let a = came_seated x p old new slot s t in
    let b = times-push x names new_names n e in
    let c = same_one x n p.name is in
    let h = sits x in
    omega arith

-- one that is without a name that was there once
abbrev pub LacksOne : ℕ → List ℕ → List ℕ → Type 0
LacksOne n names fewer = (x : ℕ) → times x fewer + one_of x n ≡ times x names

pub goes_out : (names fewer : List ℕ) (n : ℕ) (old new : Seating RingMail) (slot : ℕ) (s : Seat RingMail) → AreResidents names old.seats → seat_at old.seats slot ≡ Some s → new.seats ≡ set old.seats slot None →
    n ≡ s.stand.name → LacksOne n names fewer → AreResidents fewer new.seats
goes_out names fewer n old new slot s sits was others is lacks x =
    let a = went_seated x old new.seats slot s was others in
    let b = lacks x in
    let c = same_one x n s.stand.name is in
    let h = sits x in
    omega arith

pub ends : (names fewer : List ℕ) (n : ℕ) (d : Final RingMail) (may_refuse : Bool) (more ran : ℕ) (old new : Seating RingMail) → AreResidents names old.seats → ManyTurnsSettled ring_seen may_refuse more ran (Ended d) old new → n ≡ d.name → LacksOne n names fewer → AreResidents fewer new.seats
ends names fewer n d may_refuse more ran old new sits t is lacks x =
    let a = ended_seated x d may_refuse more ran old new t in
    let b = lacks x in
    let c = same_one x n d.name is in
    let h = sits x in
    omega arith

-- a list that has a name isn't empty
pub some_times : (n : ℕ) (names : List ℕ) → 0 < times n names → 0 < length names
some_times n [] h = absurd (omega arith)
some_times n (y ∷ names) h = omega arith
