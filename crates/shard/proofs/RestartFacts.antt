-- The time of a shard's agenda begins anew.
use Rattle.std.proofs.Common.{◌≡◌, ◌≢◌, ℕ, ◌+◌, ◌<◌, ◌≤◌, ◌⊎◌, Bool, false, List, length, set, Option, Some, None, IsSome, refl, sym, ap, ◌∙◌, arith, subst, inl, inr}
use Rattle.std.specs.Prelude.{IfSome, is_some, not, unwrap_or}
use Rattle.std.proofs.lemmas.Bool.{cases_eq}
use Rattle.std.proofs.Math.Seq.{map-set_same}
use Rattle.packet_store.specs.Pocket.{Pocket}
use Rattle.timer_wheel.specs.Rows.{Row}
use Rattle.shard.specs.Seen.{Seen}
use Rattle.shard.specs.Bodies.{Residence as Resident}
use Rattle.shard.specs.Stand.{Seat, seat_at, stand_in, stands_of}
use Rattle.shard.specs.Seats.{resident_at, seat, seat_of, seats_of, IsSeated, Fits, IsShard, HasBegun}
use Rattle.shard.proofs.Slots.{late-later, within_of}
use Rattle.shard.proofs.SlotChanges.{stays, seated_at, seat_is, vacant_seat}
use Rattle.shard.proofs.SeatFacts.{who_sits, seat_written, seat_other}
use Rattle.shard.specs.Kept.{IsGoing}

pub not_none : (o : Option ℕ) (b : Bool) → b ≡ false → is_some o ≡ not b → IsSome o
not_none o b f e = e ∙ ap not f

-- at most 0
at_start : (o : Option ℕ) → IfSome o (λ x. x ≤ 0) → (o ≡ None) ⊎ (o ≡ Some 0)
at_start None h = inl refl
at_start (Some x) h = let e : x ≡ 0 = omega (arith, h) in inr (ap (λ (n : ℕ). let s : Option ℕ = Some n in s) e)

module _ {M : Type 0} where
  -- a resident whose entry is set again
  pub record BeginsAnew (seen : M → Seen) (rows later : ℕ → Row) (slots : List (Option (Resident M))) (k : ℕ) (r t : Resident M) : Type 0 where
    pub is : resident_at slots k ≡ Some r
    pub within : k < 256
    pub same : t ≡ record r { offset = t.offset }
    pub seated : (p : Pocket) → IsGoing seen p r.experiment r.published r.mail → IsSeated seen p (later k) 0 t
    pub kept : IsSome r.offset → IsSome t.offset
    pub others : (o : ℕ) → o ≢ k → later o ≡ rows o

  module _ (seen : M → Seen) (pockets : ℕ → Pocket) (clock : ℕ) (old : List (Option (Resident M))) where
    pub begun_none : (rows : ℕ → Row) → IsShard seen pockets rows clock old → HasBegun seen pockets rows clock old old 0
    begun_none rows s = record { shard = s; stands = refl; offsets = λ k x l h. absurd (omega arith); kept = λ k x h some. (x, h, some) }

    -- nobody is in the next slot
    pub begun_vacant : (rows : ℕ → Row) (now : List (Option (Resident M))) (n : ℕ) → HasBegun seen pockets rows clock old now n → resident_at now n ≡ None → HasBegun seen pockets rows clock old now (n + 1)
    begun_vacant rows now n b none = record {
      shard = b.shard;
      stands = b.stands;
      offsets = λ k s l h.
          elim (cases_eq k n) [
            | inl same ↦ (let gone : None ≡ Some s = sym (vacant_seat pockets now (seats_of pockets now) n refl none) ∙ ap (seat_at (seats_of pockets now)) (sym same) ∙ h in absurd (cc))
            | inr other ↦ b.offsets k s (omega arith) h
          ];
      kept = b.kept;
    }

    -- the entry of the resident of the next slot was set again
    module _ (rows later : ℕ → Row) (now : List (Option (Resident M))) (n : ℕ) (b : HasBegun seen pockets rows clock old now n) (r t : Resident M) (a : BeginsAnew seen rows later now n r t) where
      owner_stays : t.owner ≡ r.owner
      owner_stays = ap (λ (x : Resident M). x.owner) a.same

      anew : IsSeated seen (pockets r.owner) (later n) 0 t
      anew = a.seated (pockets r.owner) (seated_at seen pockets rows clock now n r b.shard a.is).going

      inside : n < length now
      inside = within_of now n r a.is

      there : seat_at (seats_of pockets now) n ≡ Some (seat (pockets r.owner) r)
      there = seat_is pockets now (seats_of pockets now) n r refl a.is

      pub begun_more : HasBegun seen pockets later clock old (set now n (Some t)) (n + 1)
      begun_more =
          let h = stays seen pockets pockets rows later clock clock now n r t b.shard
          (record { on = omega arith; early = b.shard.early })
          (record { is = a.is; within = a.within; rows_stay = a.others; pockets_stay = λ o ne. refl })
          (record { going = anew.going; entries = anew.entries; ready = anew.ready; late = late-later t.offset 0 clock (omega arith) anew.late; below = anew.below })
          owner_stays in
          let alike : stand_in (seat_of pockets (Some t)) ≡ stand_in (seat_at (seats_of pockets now) n) =
          ap (λ (x : Resident M). stand_in (seat_of pockets (Some x))) a.same ∙ ap stand_in (sym there) in
          record {
            shard = h.shard;
            stands = ap stands_of h.seats ∙ map-set_same stand_in (seats_of pockets now) n (seat_of pockets (Some t)) None alike ∙ b.stands;
            offsets = λ k s l e.
                elim (cases_eq k n) [
                  | inl same ↦
                      subst (λ o. IfSome o (λ x. x ≤ 0))
                      (ap (λ (o : Option (Seat M)). (unwrap_or o s).offset) (sym (seat_written pockets now n (Some t) inside) ∙ ap (seat_at (seats_of pockets (set now n (Some t)))) (sym same) ∙ e))
                      anew.late
                  | inr other ↦ b.offsets k s (omega arith) (sym (seat_other pockets now n k (Some t) other) ∙ e)
                ];
            kept = λ k s e some.
                let w : (x : Seat M) × (seat_at (seats_of pockets now) k ≡ Some x) × IsSome x.offset = b.kept k s e some in
                elim (cases_eq k n) [
                  | inl same ↦
                      let had : w.0.offset ≡ r.offset =
                      ap (λ (o : Option (Seat M)). (unwrap_or o w.0).offset) (sym w.1 ∙ ap (seat_at (seats_of pockets now)) same ∙ there) in (
                        seat (pockets t.owner) t,
                        ap (seat_at (seats_of pockets (set now n (Some t)))) same ∙ seat_written pockets now n (Some t) inside,
                        a.kept (subst (λ o. IsSome o) had w.2),
                      )
                  | inr other ↦ (w.0, seat_other pockets now n k (Some t) other ∙ w.1, w.2)
                ];
          }

    -- all have their entries by the time that began
    pub begun_shard : (rows : ℕ → Row) (now : List (Option (Resident M))) (time : ℕ) → HasBegun seen pockets rows clock old now 256 → time ≡ 0 → IsShard seen pockets rows time now
    begun_shard rows now time b z =
        subst (λ t. IsShard seen pockets rows t now) (sym z) (record {
          each = λ k. at_zero k (resident_at now k) refl (b.shard.each k);
          apart = b.shard.apart;
          long = b.shard.long;
          early = omega arith;
        })
      where
        at_zero : (k : ℕ) (o : Option (Resident M)) → resident_at now k ≡ o → Fits seen pockets (rows k) clock o → Fits seen pockets (rows k) 0 o
        at_zero k None is f = f
        at_zero k (Some r) is f = record {
          going = f.going;
          entries = f.entries;
          ready = f.ready;
          late = b.offsets k (seat (pockets r.owner) r) (omega (arith, within_of now k r is, b.shard.long)) (seat_is pockets now (seats_of pockets now) k r refl is);
          below = f.below;
        }

    pub begun_offset : (rows : ℕ → Row) (now : List (Option (Resident M))) → HasBegun seen pockets rows clock old now 256 → (k : ℕ) (s : Seat M) → seat_at (seats_of pockets now) k ≡ Some s → (s.offset ≡ None) ⊎ (s.offset ≡ Some 0)
    begun_offset rows now b k s h =
        at_start s.offset (b.offsets k s (omega (arith, (who_sits pockets now (seats_of pockets now) k s refl h).within, b.shard.long)) h)
