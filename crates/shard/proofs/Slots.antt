-- One slot of a shard changes.
use Rattle.std.proofs.Common.{◌≡◌, ◌≢◌, ℕ, zero, suc, ◌+◌, ◌^◌, ◌<◌, ◌≤◌, List, [], ◌∷◌, length, map, get_or, set, Option, Some, None, refl, sym, ap, ◌∙◌, arith, subst, inl, inr}
use Rattle.std.specs.Prelude.{IfSome}
use Rattle.std.proofs.lemmas.Bool.{cases_eq, cases_lt}
use Rattle.std.proofs.lemmas.List.{get_or-set_same, get_or-set_other, get_or_past, length-set}
use Rattle.emu_model.specs.Moments.{end_of_time}
use Rattle.packet_store.specs.Pocket.{Pocket}
use Rattle.timer_wheel.specs.Rows.{Row}
use Rattle.shard.specs.Seen.{Seen}
use Rattle.shard.specs.Bodies.{Residence as Resident}
use Rattle.shard.specs.Stand.{Seat, seat_at}
use Rattle.shard.specs.Seats.{resident_at, seat, seat_of, seats_of, IsSeated, Fits, AreApart, IsShard}

-- a write over a write
pub set-set : {X : Type 0} (xs : List X) (k : ℕ) (x y : X) → set (set xs k x) k y ≡ set xs k y
set-set [] k x y = refl
set-set (z ∷ zs) zero x y = refl
set-set (z ∷ zs) (suc k) x y = ap (λ l. z ∷ l) (set-set zs k x y)

-- a map whose function changes at no other place
map-set_agree : {X Y : Type 0} (f g : X → Y) (xs : List X) (k : ℕ) (x d : X) → ((j : ℕ) → j ≢ k → j < length xs → g (get_or xs j d) ≡ f (get_or xs j d)) → map g (set xs k x) ≡ set (map f xs) k (g x)
map-set_agree f g [] k x d h = refl
map-set_agree f g (z ∷ zs) zero x d h =
    λ i. g x ∷ map_agree zs (λ j l. h (suc j) (λ e. absurd (omega arith)) (omega arith)) i
  where
    map_agree : (ys : List _) → ((j : ℕ) → j < length ys → g (get_or ys j d) ≡ f (get_or ys j d)) → map g ys ≡ map f ys
    map_agree [] a = refl
    map_agree (y ∷ ys) a = λ i. a 0 (omega arith) i ∷ map_agree ys (λ j l. a (suc j) (omega arith)) i
map-set_agree f g (z ∷ zs) (suc k) x d h =
    λ i. h 0 (λ e. absurd (omega arith)) (omega arith) i ∷ map-set_agree f g zs k x d (λ j n l. h (suc j) (λ e. n (omega arith)) (omega arith)) i

-- the clock goes on
pub late-later : (o : Option ℕ) (a b : ℕ) → a ≤ b → IfSome o (λ x. x ≤ a) → IfSome o (λ x. x ≤ b)
late-later None a b h l = tt
late-later (Some x) a b h l = omega (arith, h, l)

module _ {M : Type 0} where
  -- an owner of another slot keeps its pocket
  abbrev pub KeepsOwner : (ℕ → Pocket) → (ℕ → Pocket) → Option (Resident M) → Type 0
  KeepsOwner before after None = Unit {0}
  KeepsOwner before after (Some r) = after r.owner ≡ before r.owner

  seat_of-keeps : (before after : ℕ → Pocket) (o : Option (Resident M)) → KeepsOwner before after o → seat_of after o ≡ seat_of before o
  seat_of-keeps before after None h = refl
  seat_of-keeps before after (Some r) h = ap (λ (p : Pocket). let s : Option (Seat M) = Some (seat p r) in s) h

  -- the seats after one slot changed
  pub seats_of-set : (before after : ℕ → Pocket) (slots : List (Option (Resident M))) (k : ℕ) (x : Option (Resident M)) → ((j : ℕ) → j ≢ k → KeepsOwner before after (resident_at slots j)) → seats_of after (set slots k x) ≡ set (seats_of before slots) k (seat_of after x)
  unfolding seats_of
  seats_of-set before after slots k x h =
      map-set_agree (seat_of before) (seat_of after) slots k x None (λ j n l. seat_of-keeps before after (resident_at slots j) (h j n))

  pub seat_at-seats_of : (pockets : ℕ → Pocket) (slots : List (Option (Resident M))) (k : ℕ) → seat_at (seats_of pockets slots) k ≡ seat_of pockets (resident_at slots k)
  unfolding seats_of
  seat_at-seats_of pockets [] k = refl
  seat_at-seats_of pockets (o ∷ os) zero = refl
  seat_at-seats_of pockets (o ∷ os) (suc k) = seat_at-seats_of pockets os k

  Fits-keeps : (seen : M → Seen) (before after : ℕ → Pocket) (row later : Row) (clock time : ℕ) (o : Option (Resident M)) → KeepsOwner before after o → later ≡ row → clock ≤ time → Fits seen before row clock o → Fits seen after later time o
  Fits-keeps seen before after row later clock time None k e c f = λ s. ap (λ (w : Row). w s) e ∙ f s
  Fits-keeps seen before after row later clock time (Some r) k e c f =
      subst (λ (p : Pocket). IsSeated seen p later time r) (sym k) (record {
        going = f.going;
        entries = λ s. ap (λ (w : Row). w s) e ∙ f.entries s;
        ready = f.ready;
        late = late-later r.offset clock time c f.late;
        below = λ s d is. f.below s d (sym (ap (λ (w : Row). w s) e) ∙ is);
      })

  AreApart-sym : (a b : Option (Resident M)) → AreApart a b → AreApart b a
  AreApart-sym None None h = tt
  AreApart-sym None (Some r) h = tt
  AreApart-sym (Some r) None h = tt
  AreApart-sym (Some r) (Some s) h = λ e. h (sym e)

  -- a shard after one slot changed, and time went on
  pub IsShard-set : (seen : M → Seen) (before after : ℕ → Pocket) (rows later : ℕ → Row) (clock time : ℕ) (slots : List (Option (Resident M))) (k : ℕ) (x : Option (Resident M)) → IsShard seen before rows clock slots → k < 256 → clock ≤ time → time < 2 ^ 62 + end_of_time → Fits seen after (later k) time x → ((j : ℕ) → j ≢ k → later j ≡ rows j) → ((j : ℕ) → j ≢ k → KeepsOwner before after (resident_at slots j)) → ((j : ℕ) → j ≢ k → AreApart x (resident_at slots j)) → IsShard seen after later time (set slots k x)
  IsShard-set seen before after rows later clock time slots k x s within on early fits same keeps apart =
      let inside : k < length slots = omega (arith, within, s.long) in
      record {
        each = λ j. elim (cases_eq j k) [
          | inl e ↦ subst (λ i. Fits seen after (later i) time (resident_at (set slots k x) i)) (sym e) (subst (Fits seen after (later k) time) (sym (get_or-set_same slots k x None inside)) fits)
          | inr n ↦ subst (Fits seen after (later j) time) (sym (get_or-set_other slots k j x None n)) (Fits-keeps seen before after (rows j) (later j) clock time (resident_at slots j) (keeps j n) (same j n) on (s.each j))
        ];
        apart = λ i j n. elim (cases_eq i k) [
          | inl ik ↦ (let jk : j ≢ k = λ e. n (ik ∙ sym e) in
              subst (λ m. AreApart (resident_at (set slots k x) m) (resident_at (set slots k x) j)) (sym ik)
              (subst (λ a. AreApart a (resident_at (set slots k x) j)) (sym (get_or-set_same slots k x None inside))
              (subst (AreApart x) (sym (get_or-set_other slots k j x None jk)) (apart j jk))))
          | inr ni ↦ elim (cases_eq j k) [
            | inl jk ↦
                subst (λ m. AreApart (resident_at (set slots k x) i) (resident_at (set slots k x) m)) (sym jk)
                (subst (AreApart (resident_at (set slots k x) i)) (sym (get_or-set_same slots k x None inside))
                (subst (λ a. AreApart a x) (sym (get_or-set_other slots k i x None ni)) (AreApart-sym x _ (apart i ni))))
            | inr nj ↦
                subst (λ a. AreApart a (resident_at (set slots k x) j)) (sym (get_or-set_other slots k i x None ni))
                (subst (AreApart (resident_at slots i)) (sym (get_or-set_other slots k j x None nj)) (s.apart i j n))
          ]
        ];
        long = length-set slots k x ∙ s.long;
        early = early;
      }

  -- what another owner's change keeps
  pub keeps_others : (before after : ℕ → Pocket) (owner : ℕ) (r : Resident M) (o : Option (Resident M)) → r.owner ≡ owner → AreApart (Some r) o → ((q : ℕ) → q ≢ owner → after q ≡ before q) → KeepsOwner before after o
  keeps_others before after owner r None e a h = tt
  keeps_others before after owner r (Some s) e a h = h s.owner (λ q. a (e ∙ sym q))

  pub apart_as : (r s : Resident M) (o : Option (Resident M)) → s.owner ≡ r.owner → AreApart (Some r) o → AreApart (Some s) o
  apart_as r s None e a = tt
  apart_as r s (Some t) e a = λ q. a (sym e ∙ q)

  pub within_of : (slots : List (Option (Resident M))) (k : ℕ) (r : Resident M) → resident_at slots k ≡ Some r → k < length slots
  within_of slots k r h =
      elim (cases_lt k (length slots)) [
        | inl l ↦ l
        | inr p ↦ (let past : resident_at slots k ≡ None = get_or_past slots k None p in absurd (cc))
      ]
