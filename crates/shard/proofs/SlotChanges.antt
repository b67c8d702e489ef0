-- What a call leaves of a shard that changes one slot.
use Rattle.std.proofs.Common.{◌≡◌, ◌≢◌, ℕ, ◌+◌, ◌^◌, ◌<◌, ◌≤◌, true, List, length, get_or, set, Option, Some, None, IsSome, refl, sym, ap, ◌∙◌, arith, subst}
use Rattle.std.specs.Prelude.{unwrap_or, is_some, option_map}
use Rattle.std.proofs.lemmas.List.{get_or_read}
use Rattle.emu_model.specs.Moments.{end_of_time}
use Rattle.emu_model.specs.declared.commands.Timed.{Timed}
use Rattle.emu_model.specs.declared.sources.Source.{Source}
use Rattle.packet_store.specs.Pocket.{Pocket}
use Rattle.timer_wheel.specs.Rows.{Row, no_dues}
use Rattle.emu_model.specs.declared.sources.Due.{Due}
use Rattle.emu_model.specs.Step.{next_event}
use Rattle.packet_store.specs.Pocket.{empty_pocket}
use Rattle.experiment.specs.Kept.{KeptExperiment, view}
use Rattle.shard.specs.Seen.{Seen}
use Rattle.shard.specs.Bodies.{Residence as Resident}
use Rattle.shard.specs.Stand.{Seat, seat_at, IsTold}
use Rattle.shard.specs.Kept.{next_kept}
use Rattle.shard.specs.Entries.{turn, entries_of, row_of}
use Rattle.shard.specs.Seats.{resident_at, standing, seat, seat_of, seats_of, IsSeated, Fits, AreApart, IsShard}
use Rattle.shard.proofs.Slots.{seats_of-set, seat_at-seats_of, IsShard-set, KeepsOwner, keeps_others, apart_as, within_of}

-- who has an entry isn't parked
pub runs : (o : Option ℕ) (next : Option Due) (s : Source) (due : ℕ) → entries_of o next s ≡ Some due → IsSome o
runs None next s due is = absurd (cc)
runs (Some x) next s due is = refl

-- who has a next command and no entry is parked
parked_without : (o : Option ℕ) (e : KeptExperiment) → (IsSome o → IsSome e.next) → ((s : Source) → entries_of o (next_kept e) s ≡ None) → o ≡ None
parked_without None e ready none = refl
parked_without (Some x) e ready none = by_next e.next refl (ready refl)
  where
    by_next : (n : Option Timed) → e.next ≡ n → IsSome n → Some x ≡ None
    by_next None is some = absurd (cc)
    by_next (Some c) is some =
        let d : Due = next_event (view (empty_pocket 0) e) c in
        let k : row_of x (next_kept e) turn ≡ Some (d.moment + x) = rw is refl in
        let n : row_of x (next_kept e) turn ≡ None = none turn in
        absurd (cc)

-- how time goes on
pub record GoesOn (clock time : ℕ) : Type 0 where
  pub on : clock ≤ time
  pub early : time < 2 ^ 62 + end_of_time

module _ {M : Type 0} where
  pub read_at : (slots : List (Option (Resident M))) (k : ℕ) (x : Option (Resident M)) (r : Resident M) → k < length slots → x ≡ get_or slots k x → Some r ≡ x → resident_at slots k ≡ Some r
  read_at slots k x r within read is = sym (is ∙ get_or_read slots k x within read None)

  pub seated_at : (seen : M → Seen) (pockets : ℕ → Pocket) (rows : ℕ → Row) (clock : ℕ) (slots : List (Option (Resident M))) (k : ℕ) (r : Resident M) → IsShard seen pockets rows clock slots → resident_at slots k ≡ Some r → IsSeated seen (pockets r.owner) (rows k) clock r
  seated_at seen pockets rows clock slots k r s is = subst (Fits seen pockets (rows k) clock) is (s.each k)

  -- the seat of a resident
  pub seat_is : (pockets : ℕ → Pocket) (slots : List (Option (Resident M))) (seats : List (Option (Seat M))) (k : ℕ) (r : Resident M) → seats_of pockets slots ≡ seats → resident_at slots k ≡ Some r → seat_at seats k ≡ Some (seat (pockets r.owner) r)
  seat_is pockets slots seats k r v is =
      ap (λ (l : List (Option (Seat M))). seat_at l k) (sym v) ∙ seat_at-seats_of pockets slots k ∙ ap (seat_of pockets) is

  pub vacant_seat : (pockets : ℕ → Pocket) (slots : List (Option (Resident M))) (seats : List (Option (Seat M))) (k : ℕ) → seats_of pockets slots ≡ seats → resident_at slots k ≡ None → seat_at seats k ≡ None
  vacant_seat pockets slots seats k v none =
      ap (λ (l : List (Option (Seat M))). seat_at l k) (sym v) ∙ seat_at-seats_of pockets slots k ∙ ap (seat_of pockets) none

  -- one resident's call left the others alone
  pub record IsAloneAt (before after : ℕ → Pocket) (rows later : ℕ → Row) (slots : List (Option (Resident M))) (k : ℕ) (r : Resident M) : Type 0 where
    pub is : resident_at slots k ≡ Some r
    pub within : k < 256
    pub rows_stay : (o : ℕ) → o ≢ k → later o ≡ rows o
    pub pockets_stay : (o : ℕ) → o ≢ r.owner → after o ≡ before o

  -- the invariant and the seats where a resident was changed, came or went
  pub record IsChanged (seen : M → Seen) (before after : ℕ → Pocket) (later : ℕ → Row) (time : ℕ) (slots next : List (Option (Resident M))) (k : ℕ) (x : Option (Resident M)) : Type 0 where
    pub shard : IsShard seen after later time next
    pub seats : seats_of after next ≡ set (seats_of before slots) k (seat_of after x)

  pub changed : (seen : M → Seen) (before after : ℕ → Pocket) (rows later : ℕ → Row) (clock time : ℕ) (slots : List (Option (Resident M))) (k : ℕ) (r : Resident M) (x : Option (Resident M)) → IsShard seen before rows clock slots → GoesOn clock time → IsAloneAt before after rows later slots k r → Fits seen after (later k) time x → ((o : Option (Resident M)) → AreApart (Some r) o → AreApart x o) → IsChanged seen before after later time slots (set slots k x) k x
  changed seen before after rows later clock time slots k r x s t a fits apart =
      let apart_r : (j : ℕ) → j ≢ k → AreApart (Some r) (resident_at slots j) = λ j n. subst (λ o. AreApart o (resident_at slots j)) a.is (s.apart k j (λ e. n (sym e))) in
      let keeps : (j : ℕ) → j ≢ k → KeepsOwner before after (resident_at slots j) = λ j n. keeps_others before after r.owner r (resident_at slots j) refl (apart_r j n) a.pockets_stay in
      record {
        shard = IsShard-set seen before after rows later clock time slots k x s a.within t.on t.early fits a.rows_stay keeps (λ j n. apart (resident_at slots j) (apart_r j n));
        seats = seats_of-set before after slots k x keeps;
      }

  pub stays : (seen : M → Seen) (before after : ℕ → Pocket) (rows later : ℕ → Row) (clock time : ℕ) (slots : List (Option (Resident M))) (k : ℕ) (r t : Resident M) → IsShard seen before rows clock slots → GoesOn clock time → IsAloneAt before after rows later slots k r → IsSeated seen (after r.owner) (later k) time t → t.owner ≡ r.owner → IsChanged seen before after later time slots (set slots k (Some t)) k (Some t)
  stays seen before after rows later clock time slots k r t s g a f same =
      changed seen before after rows later clock time slots k r (Some t) s g a (subst (λ o. IsSeated seen (after o) (later k) time t) (sym same) f) (λ o. apart_as r t o same)

  pub leaves : (seen : M → Seen) (before after : ℕ → Pocket) (rows later : ℕ → Row) (clock time : ℕ) (slots : List (Option (Resident M))) (k : ℕ) (r : Resident M) → IsShard seen before rows clock slots → GoesOn clock time → IsAloneAt before after rows later slots k r → later k ≡ no_dues → IsChanged seen before after later time slots (set slots k None) k None
  leaves seen before after rows later clock time slots k r s g a f =
      changed seen before after rows later clock time slots k r None s g a (λ x. ap (λ (w : Row). w x) f) (λ o h. tt)

  -- each resident's owner has a budget, so a new owner is nobody's
  not_fresh : (seen : M → Seen) (pockets : ℕ → Pocket) (row : Row) (clock owner : ℕ) (r : Resident M) → IsSeated seen (pockets r.owner) row clock r → (pockets owner).budget ≡ 0 → r.owner ≢ owner
  not_fresh seen pockets row clock owner r f none = λ e.
      let z : (pockets r.owner).budget ≡ 0 = ap (λ q. (pockets q).budget) e ∙ none in
      absurd (omega (arith, f.going.kept.budget, f.going.kept.some, z))

  keeps_fresh : (seen : M → Seen) (before after : ℕ → Pocket) (row : Row) (clock owner : ℕ) (o : Option (Resident M)) → Fits seen before row clock o → (before owner).budget ≡ 0 → ((q : ℕ) → q ≢ owner → after q ≡ before q) → KeepsOwner before after o
  keeps_fresh seen before after row clock owner None f none same = tt
  keeps_fresh seen before after row clock owner (Some r) f none same = same r.owner (not_fresh seen before row clock owner r f none)

  apart_fresh : (seen : M → Seen) (before : ℕ → Pocket) (row : Row) (clock owner : ℕ) (t : Resident M) (o : Option (Resident M)) → Fits seen before row clock o → (before owner).budget ≡ 0 → t.owner ≡ owner → AreApart (Some t) o
  apart_fresh seen before row clock owner t None f none same = tt
  apart_fresh seen before row clock owner t (Some r) f none same = λ e. not_fresh seen before row clock owner r f none (sym e ∙ same)

  -- somebody new came to a vacant slot
  pub comes : (seen : M → Seen) (before after : ℕ → Pocket) (rows later : ℕ → Row) (clock : ℕ) (slots : List (Option (Resident M))) (k owner : ℕ) (t : Resident M) → IsShard seen before rows clock slots → k < 256 → (before owner).budget ≡ 0 → ((q : ℕ) → q ≢ owner → after q ≡ before q) → ((o : ℕ) → o ≢ k → later o ≡ rows o) → IsSeated seen (after owner) (later k) clock t → t.owner ≡ owner → IsChanged seen before after later clock slots (set slots k (Some t)) k (Some t)
  comes seen before after rows later clock slots k owner t s within none same stay f is =
      let keeps : (j : ℕ) → j ≢ k → KeepsOwner before after (resident_at slots j) = λ j n. keeps_fresh seen before after (rows j) clock owner (resident_at slots j) (s.each j) none same in
      record {
        shard = IsShard-set seen before after rows later clock clock slots k (Some t) s within (omega arith) s.early (subst (λ o. IsSeated seen (after o) (later k) clock t) (sym is) f) stay keeps (λ j n. apart_fresh seen before (rows j) clock owner t (resident_at slots j) (s.each j) none is);
        seats = seats_of-set before after slots k (Some t) keeps;
      }

  told_of : (seen : M → Seen) (pockets : ℕ → Pocket) (row : Row) (clock : ℕ) (o : Option (Resident M)) (s : Seat M) → Fits seen pockets row clock o → seat_of pockets o ≡ Some s → IsTold seen s.stand
  told_of seen pockets row clock None s f e = absurd (cc)
  told_of seen pockets row clock (Some r) s f e =
      let d : Seat M = seat (pockets r.owner) r in
      let same : standing (pockets r.owner) r ≡ s.stand = ap (λ o. (unwrap_or o d).stand) e in
      subst (IsTold seen) same (record { shown = f.going.kept.alone; told = f.going.kept.told; short = f.going.kept.short; heard = f.going.kept.heard; few = f.going.kept.few })

  -- what each seat keeps
  pub told_at : (seen : M → Seen) (pockets : ℕ → Pocket) (rows : ℕ → Row) (clock : ℕ) (slots : List (Option (Resident M))) (seats : List (Option (Seat M))) (k : ℕ) (s : Seat M) → IsShard seen pockets rows clock slots → seats_of pockets slots ≡ seats → seat_at seats k ≡ Some s → IsTold seen s.stand
  told_at seen pockets rows clock slots seats k s h v is =
      told_of seen pockets (rows k) clock (resident_at slots k) s (h.each k) (sym (seat_at-seats_of pockets slots k) ∙ ap (λ (l : List (Option (Seat M))). seat_at l k) v ∙ is)

  -- a slot with a due has a resident that isn't parked
  pub record HasDue (seen : M → Seen) (pockets : ℕ → Pocket) (row : Row) (clock : ℕ) (slots : List (Option (Resident M))) (k : ℕ) : Type 0 where
    pub who : Resident M
    pub is : resident_at slots k ≡ Some who
    pub within : k < length slots
    pub seated : IsSeated seen (pockets who.owner) row clock who
    pub running : IsSome who.offset

  due_of : (seen : M → Seen) (pockets : ℕ → Pocket) (row : Row) (clock : ℕ) (slots : List (Option (Resident M))) (k : ℕ) (source : Source) (at : ℕ) (o : Option (Resident M)) → resident_at slots k ≡ o → Fits seen pockets row clock o → row source ≡ Some at → HasDue seen pockets row clock slots k
  due_of seen pockets row clock slots k source at None e f h =
      let gone : row source ≡ None = f source in absurd (cc)
  due_of seen pockets row clock slots k source at (Some r) e f h = record {
    who = r;
    is = e;
    within = within_of slots k r e;
    seated = f;
    running = runs r.offset (next_kept r.experiment) source at (sym (f.entries source) ∙ h);
  }

  pub due_at : (seen : M → Seen) (pockets : ℕ → Pocket) (rows : ℕ → Row) (clock : ℕ) (slots : List (Option (Resident M))) (k : ℕ) (source : Source) (at : ℕ) → IsShard seen pockets rows clock slots → rows k source ≡ Some at → HasDue seen pockets (rows k) clock slots k
  due_at seen pockets rows clock slots k source at s h =
      due_of seen pockets (rows k) clock slots k source at (resident_at slots k) refl (s.each k) h

  -- without entries each resident is parked
  pub all_parked : (seen : M → Seen) (pockets : ℕ → Pocket) (rows : ℕ → Row) (clock : ℕ) (slots : List (Option (Resident M))) → IsShard seen pockets rows clock slots → ((o : ℕ) → rows o ≡ no_dues) → (k : ℕ) (x : Seat M) → seat_at (seats_of pockets slots) k ≡ Some x → x.offset ≡ None
  all_parked seen pockets rows clock slots s none k x h =
      by_resident (resident_at slots k) (s.each k) (sym (seat_at-seats_of pockets slots k) ∙ h)
    where
      by_resident : (o : Option (Resident M)) → Fits seen pockets (rows k) clock o → seat_of pockets o ≡ Some x → x.offset ≡ None
      by_resident None f e = absurd (cc)
      by_resident (Some r) f e =
          let p : r.offset ≡ None = parked_without r.offset r.experiment f.ready (λ s. sym (f.entries s) ∙ ap (λ (w : Row). w s) (none k)) in
          let q : Some r.offset ≡ Some x.offset = ap (option_map (λ (y : Seat M). y.offset)) e in
          cc

  -- the agenda's rows stay as they are
  pub IsShard-rows : (seen : M → Seen) (pockets : ℕ → Pocket) (rows later : ℕ → Row) (clock time : ℕ) (slots : List (Option (Resident M))) → IsShard seen pockets rows clock slots → ((o : ℕ) → later o ≡ rows o) → time ≡ clock → IsShard seen pockets later time slots
  IsShard-rows seen pockets rows later clock time slots s same e =
      subst (λ c. IsShard seen pockets later c slots) (sym e) (record {
        each = λ k. subst (λ (w : Row). Fits seen pockets w clock (resident_at slots k)) (sym (same k)) (s.each k);
        apart = s.apart;
        long = s.long;
        early = s.early;
      })

  -- somebody is in the slot, so there is a seat
  pub filled_seat : (pockets : ℕ → Pocket) (slots : List (Option (Resident M))) (seats : List (Option (Seat M))) (k : ℕ) → seats_of pockets slots ≡ seats → IsSome (resident_at slots k) → IsSome (seat_at seats k)
  filled_seat pockets slots seats k v some =
      ap is_some (ap (λ (l : List (Option (Seat M))). seat_at l k) (sym v) ∙ seat_at-seats_of pockets slots k) ∙ of_filled (resident_at slots k) some
    where
      of_filled : (o : Option (Resident M)) → IsSome o → is_some (seat_of pockets o) ≡ true
      of_filled None h = absurd (cc)
      of_filled (Some r) h = refl
