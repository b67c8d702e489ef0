-- The resident of the least entry, from that it is found to that it stays or goes.
use Rattle.std.proofs.Common.{◌≡◌, ◌≢◌, ℕ, ◌^◌, ◌<◌, ◌≤◌, false, List, length, get_or, set, Option, Some, None, IsSome, sym, ap, ◌∙◌, arith, subst}
use Rattle.std.specs.Prelude.{Bool, IfSome, is_some}
use Rattle.std.proofs.lemmas.List.{get_or_read, get_or-set_same, length-set}
use denote.Enum.Bare.{sameb}
use Rattle.emu_model.specs.declared.sources.Source.{Source}
use Rattle.packet_store.specs.Pocket.{Pocket}
use Rattle.timer_wheel.specs.Rows.{Row, no_dues}
use Rattle.experiment.specs.contracts.experiment.Event.{the_type}
use Rattle.experiment.specs.declared.experiment.Event.{Event}
use Rattle.experiment.specs.declared.experiment.Event.TheVariants.{Ran}
use Rattle.shard.specs.Seen.{Seen}
use Rattle.shard.specs.Bodies.{Residence as Resident}
use Rattle.shard.specs.Stand.{Seating, Final}
use Rattle.shard.specs.Kept.{IsKept}
use Rattle.shard.specs.Seats.{resident_at, seats_of, IsDossierOf, IsShard}
use Rattle.shard.specs.Steps.{IsLeast, HasLeft, Runs}
use Rattle.shard.proofs.Slots.{set-set}
use Rattle.shard.proofs.SlotChanges.{read_at, due_at}
use Rattle.shard.proofs.RunFacts.{over}
use Rattle.shard.proofs.TurnFacts.{least, Called, gone}

module _ {M : Type 0} (seen : M → Seen) (pockets : ℕ → Pocket) (slots : List (Option (Resident M))) (k : ℕ) (r : Resident M) where
  -- the resident of the least entry, with the agenda's row and clock then
  pub record Found (clock : ℕ) (row : Row) (time : ℕ) : Type 0 where
    pub within : k < length slots
    pub is : resident_at slots k ≡ Some r
    pub least : IsLeast seen (pockets r.owner) row time r
    pub rises : clock ≤ time

  -- it has ended: what stands in its slot then, and that it leaves
  pub record Ending (t : Resident M) (more n : ℕ) (after : ℕ → Pocket) (x : Option (Resident M)) : Type 0 where
    pub there : x ≡ Some t
    pub left : HasLeft seen more n (pockets r.owner) r (after r.owner) t
    pub owner : t.owner ≡ r.owner
    pub kept : IfSome x (λ y. IsKept seen (after y.owner) y.experiment y.published y.mail)
    pub ended : IfSome x (λ y. IsSome y.experiment.ending)

  -- it was taken out of its slot
  pub record Gone (t : Resident M) (after last : ℕ → Pocket) (later : ℕ → Row) (time : ℕ) (y : Option (Resident M)) (d : Final M) : Type 0 where
    pub shard : IsShard seen last later time (set (set slots k (Some t)) k y)
    pub seats : seats_of last (set (set slots k (Some t)) k y) ≡ set (seats_of pockets slots) k None
    pub dossier : IsDossierOf (after r.owner) t d

module _ {M : Type 0} {seen : M → Seen} {pockets : ℕ → Pocket} {clock : ℕ} {slots : List (Option (Resident M))} where
  pub ending : (k : ℕ) (r t : Resident M) (row later : Row) (middle : ℕ) (a : Event) (may_refuse : Bool) (more n : ℕ) (after : ℕ → Pocket) (x : Option (Resident M)) → Found seen pockets slots k r clock row middle →
      x ≡ get_or (set slots k (Some t)) k x → sameb the_type a Ran ≡ false → Runs seen may_refuse more n a (pockets r.owner) r (after r.owner) later middle t → Ending seen pockets slots k r t more n after x
  ending k r t row later middle a may_refuse more n after x f read stops runs =
      let long : k < length (set slots k (Some t)) = omega (arith, f.within, length-set slots k (Some t)) in
      let there : x ≡ Some t = get_or_read (set slots k (Some t)) k x long read None ∙ get_or-set_same slots k (Some t) None f.within in
      let left = over seen a may_refuse more n (pockets r.owner) (after r.owner) later middle r t stops runs in
      let owner : t.owner ≡ r.owner = left.leaving.owner ∙ left.owner in
      record {
        there = there;
        left = left;
        owner = owner;
        kept = subst (λ (y : Option (Resident M)). IfSome y (λ z. IsKept seen (after z.owner) z.experiment z.published z.mail)) (sym there)
            (subst (λ o. IsKept seen (after o) t.experiment t.published t.mail) (sym owner) left.leaving.kept);
        ended = subst (λ (y : Option (Resident M)). IfSome y (λ z. IsSome z.experiment.ending)) (sym there) (ap is_some left.leaving.ending_is);
      }

module _ {M : Type 0} {seen : M → Seen} {pockets : ℕ → Pocket} {rows : ℕ → Row} {clock : ℕ} {slots : List (Option (Resident M))} where
  -- the slot of an entry is one of those that there are
  pub inside : (k : ℕ) (source : Source) (due : ℕ) → IsShard seen pockets rows clock slots → rows k source ≡ Some due → k < length slots
  inside k source due s was = (due_at seen pockets rows clock slots k source due s was).within

  pub found : (k : ℕ) (source : Source) (due : ℕ) (row : Row) (time : ℕ) (x : Option (Resident M)) (r : Resident M) (v : Seating M) →
      IsShard seen pockets rows clock slots → record { seats = seats_of pockets slots; clock = clock } ≡ v → v.clock < 2 ^ 62 →
      rows k source ≡ Some due → row ≡ rows k → time ≡ due → clock ≤ time → x ≡ get_or slots k x → Some r ≡ x → Found seen pockets slots k r clock row time
  found k source due row time x r v s seen_as early was same at rises read some =
      let within = inside k source due s was in
      let is = read_at slots k x r within read some in
      record {
        within = within;
        is = is;
        least = least seen pockets rows clock slots k r source due row time s is was same at rises (subst (λ (y : Seating M). y.clock < 2 ^ 62) (sym seen_as) early);
        rises = rises;
      }

  -- its call, up to a moment at which the agenda's clock is still that of the entry
  pub called : (k : ℕ) (r : Resident M) (row : Row) (after : ℕ → Pocket) (later : ℕ → Row) (middle time : ℕ) → IsShard seen pockets rows clock slots → Found seen pockets slots k r clock row middle → time ≡ middle →
      ((o : ℕ) → o ≢ k → later o ≡ rows o) → ((o : ℕ) → o ≢ r.owner → after o ≡ pockets o) → Called pockets after rows later clock time slots k r
  called k r row after later middle time s f same rows_stay pockets_stay = record {
    at = record { is = f.is; within = omega (arith, f.within, s.long); rows_stay = rows_stay; pockets_stay = pockets_stay };
    on = record { on = omega (arith, f.rises, same); early = omega (arith, f.least.early, same) };
  }

  pub taken_out : (k : ℕ) (r t : Resident M) (more n : ℕ) (after last : ℕ → Pocket) (later : ℕ → Row) (time : ℕ) (x y : Option (Resident M)) (d : Final M) → IsShard seen pockets rows clock slots →
      Called pockets after rows later clock time slots k r → Ending seen pockets slots k r t more n after x → later k ≡ no_dues → y ≡ None →
      IfSome x (λ z. IsDossierOf (after z.owner) z d) → IfSome x (λ z. (o : ℕ) → o ≢ z.owner → last o ≡ after o) → Gone seen pockets slots k r t after last later time y d
  taken_out k r t more n after last later time x y d s a e none empty ends others =
      let stay = subst (λ (z : Option (Resident M)). IfSome z (λ w. (o : ℕ) → o ≢ w.owner → last o ≡ after o)) e.there others in
      let h = gone seen pockets after last rows later clock time slots k r s a none (λ o n. stay o (λ q. n (q ∙ e.owner))) in
      let cleared : set (set slots k (Some t)) k y ≡ set slots k None = ap (set (set slots k (Some t)) k) empty ∙ set-set slots k (Some t) None in
      record {
        shard = subst (λ (l : List (Option (Resident M))). IsShard seen last later time l) (sym cleared) h.shard;
        seats = ap (seats_of last) cleared ∙ h.seats;
        dossier = subst (λ o. IsDossierOf (after o) t d) e.owner (subst (λ (z : Option (Resident M)). IfSome z (λ w. IsDossierOf (after w.owner) w d)) e.there ends);
      }
