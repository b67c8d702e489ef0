-- Many turns are single ones, one after the other.
use Rattle.std.proofs.Common.{◌≡◌, ℕ, zero, suc, ◌<◌, ◌≤◌, List, length, set, Option, Some, None, IsSome, sym, ap, ◌∙◌, arith, inl, inr}
use Rattle.std.proofs.lemmas.Bool.{cases_lt}
use Rattle.std.proofs.lemmas.List.{get_or-set_same, get_or_past, set-get_or}
use Rattle.shard.specs.Seen.{Seen}
use Rattle.shard.specs.declared.shard.Turned.TheVariants.{Ran, Ended, Idle}
use Rattle.shard.specs.Stand.{Stand, Seat, Seating, seat_at}
use Rattle.shard.specs.Turns.{AreTurns, RanFor, TurnsOf, ManyAreSingle}
use Rattle.shard.proofs.CallerLemmas.{turns_name}
use Rattle.shard.proofs.Slots.{set-set}

module _ {M : Type 0} (seen : M → Seen) where
  there : (l : List (Option (Seat M))) (k : ℕ) (s : Seat M) → seat_at l k ≡ Some s → k < length l
  there l k s h =
      elim (cases_lt k (length l)) [
        | inl p ↦ p
        | inr p ↦ (let past : seat_at l k ≡ None = get_or_past l k None p in absurd (cc))
      ]

  -- the seating in which the resident of a slot stands so
  abbrev with_stand : Seating M → ℕ → Option ℕ → Stand M → Seating M
  with_stand old k offset t = record { seats = set old.seats k (Some (record { stand = t; offset = offset })); clock = old.clock }

  in_turn : (n name k : ℕ) (old : Seating M) (s : Seat M) (t : Stand M) → seat_at old.seats k ≡ Some s → s.stand.name ≡ name → IsSome s.offset → AreTurns seen n s.stand t →
      TurnsOf seen n name old (with_stand old k s.offset t)
  in_turn zero name k old s t was named ready h =
      let seat : Some (record { stand = t; offset = s.offset }) ≡ seat_at old.seats k = ap (λ (x : Stand M). Some (record { stand = x; offset = s.offset })) h ∙ sym was in
      let same : set old.seats k (Some (record { stand = t; offset = s.offset })) ≡ old.seats = ap (set old.seats k) seat ∙ set-get_or old.seats k None in
      λ i. record { seats = same i; clock = old.clock }
  in_turn (suc n) name k old s u was named ready h = (
    with_stand old k s.offset h.0,
    in_turn n name k old s h.0 was named ready h.1,
    (
      k,
      record { stand = h.0; offset = s.offset },
      record { stand = u; offset = s.offset },
      record {
        was = get_or-set_same old.seats k (Some (record { stand = h.0; offset = s.offset })) None (there old.seats k s was);
        name_is = turns_name seen n s.stand h.0 h.1 ∙ named;
        ready = ready;
        turn = h.2;
        entered = inr ready;
        others = sym (set-set old.seats k (Some (record { stand = h.0; offset = s.offset })) (Some (record { stand = u; offset = s.offset })));
      },
    ),
  )

  all_ran : (n name k : ℕ) (old new : Seating M) (s t : Seat M) → 1 ≤ n → RanFor seen n name old new k s t → TurnsOf seen n name old new
  all_ran zero name k old new s t some r = absurd (omega (arith, some))
  all_ran (suc n) name k old new s t some r =
      let h = r.turns in
      let m : Seat M = record { stand = h.0; offset = s.offset } in (
        with_stand old k s.offset h.0,
        in_turn n name k old s h.0 r.was r.name_is r.ready h.1,
        (
          k,
          m,
          t,
          record {
            was = get_or-set_same old.seats k (Some m) None (there old.seats k s r.was);
            name_is = turns_name seen n s.stand h.0 h.1 ∙ r.name_is;
            ready = r.ready;
            turn = h.2;
            entered = r.entered;
            others = r.others ∙ sym (set-set old.seats k (Some m) (Some t));
          },
        ),
      )

  pub many_are_single : ManyAreSingle seen
  many_are_single may_refuse more ran (Ran name) old new h = all_ran ran name h.2.0 old new h.2.1 h.2.2 h.0 h.2.4
  many_are_single may_refuse more ran (Ended d) old new h =
      let k = h.1.0 in
      let s = h.1.1 in
      let t = h.1.2 in
      let r = h.1.3 in
      let m : Seat M = record { stand = t; offset = s.offset } in (
        with_stand old k s.offset t,
        in_turn ran d.name k old s t r.was (sym (r.end.name ∙ turns_name seen ran s.stand t r.turns)) r.ready r.turns,
        (
          k,
          m,
          record {
            was = get_or-set_same old.seats k (Some m) None (there old.seats k s r.was);
            ready = r.ready;
            end = r.end;
            others = r.others ∙ sym (set-set old.seats k (Some m) None);
          },
        ),
      )
  many_are_single may_refuse more ran Idle old new h = (h.1, h.2)
