-- Seats that are read, new or named.
use Rattle.std.proofs.Common.{◌≡◌, ◌≢◌, ℕ, zero, suc, ◌+◌, ◌^◌, ◌<◌, ◌≤◌, true, false, nat_lt, List, [], ◌∷◌, ◌++◌, length, get_or, set, Option, Some, None, refl, sym, ap, ◌∙◌, arith, subst}
use Rattle.std.specs.Prelude.{IsTrue, IsFalse, nat_eq, unwrap_or}
use Rattle.std.proofs.lemmas.Bool.Decides.{nat_tests}
use Rattle.std.proofs.lemmas.List.{get_or-set_same, get_or-set_other}
use Rattle.emu_model.specs.Moments.{end_of_time}
use Rattle.packet_store.specs.Pocket.{Pocket}
use Rattle.timer_wheel.specs.Rows.{Row, no_dues}
use Rattle.shard.specs.Seen.{Seen}
use Rattle.shard.specs.Bodies.{Residence as Resident}
use Rattle.shard.specs.Stand.{Seat, seat_at}
use Rattle.shard.specs.Seats.{resident_at, seat, seat_of, seats_of, Fits, AreApart, IsShard}
use Rattle.shard.proofs.Slots.{seat_at-seats_of, within_of}
use Rattle.shard.proofs.SlotChanges.{seat_is, vacant_seat}

-- one more vacant place
pub vacant_more : {X : Type 0} (os : List (Option X)) → ((k : ℕ) → get_or os k None ≡ None) → (k : ℕ) → get_or (os ++ None ∷ []) k None ≡ None
vacant_more [] h zero = refl
vacant_more [] h (suc k) = refl
vacant_more (o ∷ os) h zero = h 0
vacant_more (o ∷ os) h (suc k) = vacant_more os (λ j. h (suc j)) k

pub past_end : {X : Type 0} (xs ys : List X) (k : ℕ) → false ≡ nat_lt k (length xs) → xs ≡ ys → length ys ≤ k
past_end xs ys k h e = let l : length xs ≡ length ys = ap length e in grind (arith, nat_tests)

pub before_end : {X : Type 0} (xs ys : List X) (k : ℕ) → true ≡ nat_lt k (length xs) → xs ≡ ys → k < length ys
before_end xs ys k h e = let l : length xs ≡ length ys = ap length e in grind (arith, nat_tests)

-- what a test of two names says
pub is_equal : (a b : ℕ) → IsTrue (nat_eq a b) → a ≡ b
is_equal a b h = grind (arith, nat_tests)

pub is_other : (a b : ℕ) → IsFalse (nat_eq a b) → a ≢ b
is_other a b h = λ e. grind (arith, nat_tests)

module _ {M : Type 0} where
  -- a shard without residents
  pub IsShard-new : (seen : M → Seen) (pockets : ℕ → Pocket) (rows : ℕ → Row) (clock : ℕ) (slots : List (Option (Resident M))) → ((k : ℕ) → resident_at slots k ≡ None) → ((o : ℕ) → rows o ≡ no_dues) → length slots ≡ 256 → clock < 2 ^ 62 + end_of_time → IsShard seen pockets rows clock slots
  IsShard-new seen pockets rows clock slots vacant none long early = record {
    each = λ k. subst (Fits seen pockets (rows k) clock) (sym (vacant k)) (λ s. ap (λ (w : Row). w s) (none k));
    apart = λ i j n. subst (λ a. AreApart a (resident_at slots j)) (sym (vacant i)) tt;
    long = long;
    early = early;
  }

  pub no_seats : (pockets : ℕ → Pocket) (slots : List (Option (Resident M))) → ((k : ℕ) → resident_at slots k ≡ None) → (k : ℕ) → seat_at (seats_of pockets slots) k ≡ None
  no_seats pockets slots vacant k = seat_at-seats_of pockets slots k ∙ ap (seat_of pockets) (vacant k)

  -- whose seat it is
  pub record HasSeat (pockets : ℕ → Pocket) (slots : List (Option (Resident M))) (k : ℕ) (s : Seat M) : Type 0 where
    pub who : Resident M
    pub is : resident_at slots k ≡ Some who
    pub within : k < length slots
    pub seat_is : s ≡ seat (pockets who.owner) who

  pub who_sits : (pockets : ℕ → Pocket) (slots : List (Option (Resident M))) (seats : List (Option (Seat M))) (k : ℕ) (s : Seat M) → seats_of pockets slots ≡ seats → seat_at seats k ≡ Some s → HasSeat pockets slots k s
  who_sits pockets slots seats k s v h = by_resident (resident_at slots k) refl
    where
      by_resident : (o : Option (Resident M)) → resident_at slots k ≡ o → HasSeat pockets slots k s
      by_resident None e = let n : seat_at seats k ≡ None = vacant_seat pockets slots seats k v e in absurd (cc)
      by_resident (Some r) e = record {
        who = r;
        is = e;
        within = within_of slots k r e;
        seat_is = ap (λ (o : Option (Seat M)). unwrap_or o s) (sym h ∙ seat_is pockets slots seats k r v e);
      }

  -- the seat that was written, and the others
  pub seat_written : (pockets : ℕ → Pocket) (slots : List (Option (Resident M))) (k : ℕ) (o : Option (Resident M)) → k < length slots → seat_at (seats_of pockets (set slots k o)) k ≡ seat_of pockets o
  seat_written pockets slots k o within =
      seat_at-seats_of pockets (set slots k o) k ∙ ap (seat_of pockets) (get_or-set_same slots k o None within)

  pub seat_other : (pockets : ℕ → Pocket) (slots : List (Option (Resident M))) (k j : ℕ) (o : Option (Resident M)) → j ≢ k → seat_at (seats_of pockets (set slots k o)) j ≡ seat_at (seats_of pockets slots) j
  seat_other pockets slots k j o n =
      seat_at-seats_of pockets (set slots k o) j ∙ ap (seat_of pockets) (get_or-set_other slots k j o None n) ∙ sym (seat_at-seats_of pockets slots j)
