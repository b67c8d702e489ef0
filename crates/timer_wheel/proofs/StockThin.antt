-- A stock without the entries of an owner, or without any.
use Rattle.std.proofs.Common.{inl, inr, ◌≡◌, ◌≢◌, ℕ, ◌+◌, ◌<◌, ◌≤◌, ◌%◌, ◌==◌, ◌&&◌, cond, List, length, set, Option, Some, None, slice_get, count_by, refl, sym, ap, subst, ◌∙◌, arith}
use Rattle.std.proofs.lemmas.Bool.{cases_eq, ne_eqb}
use Rattle.emu_model.specs.declared.sources.Source.{Source}
use Rattle.emu_model.specs.RunLaws.{same_source}
use Rattle.timer_wheel.specs.declared.Entry.{Entry}
use Rattle.timer_wheel.specs.Index.{key_in}
use Rattle.timer_wheel.specs.Stocks.{StockBook, Holds, IsStock, IsThinned, due_by, due_of, room_of}
use Rattle.timer_wheel.proofs.SlotFacts.{set_there, set_elsewhere}
use Rattle.timer_wheel.proofs.StockFacts.{some_same, falls_set}

-- what `remove` ensures
pub record IsRemoved (old new : StockBook) (key : ℕ) (r : Entry) : Type 0 where
  pub entry : slice_get old.entries key ≡ Some r
  pub entries : new.entries ≡ old.entries
  pub slots : new.slots ≡ set old.slots key 2050
  pub owners : new.owners ≡ set old.owners key 2050
  pub rows : (o : ℕ) (s : Source) → due_of new o s ≡ cond (o == r.owner && same_source s r.source) None (due_of old o s)
  pub room : room_of old ≤ room_of new

module _ (old new : StockBook) (key : ℕ) (r : Entry) (x : IsRemoved old new key r) (within : key < length old.slots) where
  pub removed_other : (k : ℕ) (e : Entry) (p : ℕ) → Holds new.entries new.slots k e p → k ≢ key
  removed_other k e p h same =
      h.full (some_same p 2050 (slice_get new.slots k) h.slot (ap (slice_get new.slots) same ∙ ap (λ xs. slice_get xs key) x.slots ∙ set_there old.slots key 2050 within))

  pub removed_holds : (k : ℕ) (e : Entry) (p : ℕ) → Holds new.entries new.slots k e p → Holds old.entries old.slots k e p
  removed_holds k e p h =
      record {
        entry = sym (ap (λ es. slice_get es k) x.entries) ∙ h.entry;
        slot = sym (ap (λ xs. slice_get xs k) x.slots ∙ set_elsewhere old.slots key k 2050 (removed_other k e p h)) ∙ h.slot;
        full = h.full;
      }

  pub thin_removed : (first : StockBook) → IsThinned r.owner first old → IsThinned r.owner first new
  thin_removed first t =
      let a : room_of first ≤ room_of old = t.room in
      let b : room_of old ≤ room_of new = x.room in
      record {
        holds = λ k e p h. t.holds k e p (removed_holds k e p h);
        others = λ o s ne. x.rows o s ∙ ap (λ c. cond (c && same_source s r.source) None (due_of old o s)) (ne_eqb o r.owner ne) ∙ t.others o s ne;
        room = omega arith;
      }

  pub away_removed : (owner : ℕ) → ((k : ℕ) (e : Entry) (p : ℕ) → Holds old.entries old.slots k e p → e.owner ≡ owner → slice_get old.owners k ≡ Some 2049)
      → (k : ℕ) (e : Entry) (p : ℕ) → Holds new.entries new.slots k e p → e.owner ≡ owner → slice_get new.owners k ≡ Some 2049
  away_removed owner away k e p h is =
      ap (λ xs. slice_get xs k) x.owners ∙ set_elsewhere old.owners key k 2050 (removed_other k e p h) ∙ away k e p (removed_holds k e p h) is

  pub fewer_removed : (l : ℕ) → l < 2050 → slice_get old.owners key ≡ Some l → count_by (λ y. y == l) new.owners < count_by (λ y. y == l) old.owners
  fewer_removed l low is = subst (λ xs. count_by (λ y. y == l) xs < count_by (λ y. y == l) old.owners) (sym x.owners) (falls_set l old.owners key 2050 is (λ e. omega arith))

laid_rows : (b : StockBook) (key l o : ℕ) (s : Source) → due_of (record b { owners = set b.owners key l }) o s ≡ due_of b o s
unfolding due_of
laid_rows b key l o s = refl

pub thin_laid : (owner : ℕ) (first old new : StockBook) (key l : ℕ) → new ≡ record old { owners = set old.owners key l } → IsThinned owner first old → IsThinned owner first new
thin_laid owner first old new key l is t =
    subst (IsThinned owner first) (sym is)
    (record { holds = t.holds; others = λ o s ne. laid_rows old key l o s ∙ t.others o s ne; room = t.room })

pub fewer_laid : (old new : StockBook) (key l m : ℕ) → new ≡ record old { owners = set old.owners key m } → m ≢ l → slice_get old.owners key ≡ Some l
    → count_by (λ y. y == l) new.owners < count_by (λ y. y == l) old.owners
fewer_laid old new key l m is ne at =
    subst (λ (b : StockBook). count_by (λ y. y == l) b.owners < count_by (λ y. y == l) old.owners) (sym is) (falls_set l old.owners key m at ne)

pub away_laid : (owner : ℕ) (old new : StockBook) (key l : ℕ) (r : Entry) → new ≡ record old { owners = set old.owners key l } → slice_get old.entries key ≡ Some r → r.owner ≢ owner
    → ((k : ℕ) (e : Entry) (p : ℕ) → Holds old.entries old.slots k e p → e.owner ≡ owner → slice_get old.owners k ≡ Some 2049)
    → (k : ℕ) (e : Entry) (p : ℕ) → Holds new.entries new.slots k e p → e.owner ≡ owner → slice_get new.owners k ≡ Some 2049
away_laid owner old new key l r is at ne away =
    subst (λ (b : StockBook). (k : ℕ) (e : Entry) (p : ℕ) → Holds b.entries b.slots k e p → e.owner ≡ owner → slice_get b.owners k ≡ Some 2049) (sym is)
    (λ k e p h own.
    elim (cases_eq k key) as (λ _. slice_get (set old.owners key l) k ≡ Some 2049) [
      | inl same ↦ let q : r ≡ e = some_same r e (slice_get old.entries key) at (sym (ap (slice_get old.entries) same) ∙ h.entry) in
          absurd (ne (ap (λ (y : Entry). y.owner) q ∙ own))
      | inr nk ↦ set_elsewhere old.owners key k l nk ∙ away k e p h own
    ])

-- the first loop is done
pub away_first : (owner : ℕ) (b : StockBook) → IsStock b → ((k : ℕ) → slice_get b.owners k ≢ Some (owner % 2048))
    → (k : ℕ) (e : Entry) (p : ℕ) → Holds b.entries b.slots k e p → e.owner ≡ owner → slice_get b.owners k ≡ Some 2049
away_first owner b w none k e p h is =
    elim (w.owned k e p h) [
      | inl a ↦ absurd (none k (a ∙ ap (λ o. Some (o % 2048)) is))
      | inr a ↦ a
    ]

pub no_due : (b : StockBook) → IsStock b → (o : ℕ) → ((k : ℕ) (e : Entry) (p : ℕ) → Holds b.entries b.slots k e p → e.owner ≡ o → ⊥) → (s : Source) → due_of b o s ≡ None
unfolding due_of
no_due b w o none s = by (key_in b.index.keys o s) refl
  where
    by : (r : Option ℕ) → key_in b.index.keys o s ≡ r → due_by b.entries r ≡ None
    by None h = refl
    by (Some k) h =
        let f : (e : Entry) × (p : ℕ) × Holds b.entries b.slots k e p × (e.owner ≡ o) × (e.source ≡ s) = w.found o s k h in
        absurd (none k f.0 f.1 f.2 f.3)

-- one key more is free
pub done_more : (xs ys : List ℕ) (n : ℕ) → ys ≡ set xs n 2050 → n < length xs → ((k : ℕ) → k < n → slice_get xs k ≡ Some 2050) → (k : ℕ) → k < n + 1 → slice_get ys k ≡ Some 2050
done_more xs ys n is within done k h =
    ap (λ zs. slice_get zs k) is ∙
    elim (cases_eq k n) as (λ _. slice_get (set xs n 2050) k ≡ Some 2050) [
      | inl e ↦ ap (slice_get (set xs n 2050)) e ∙ set_there xs n 2050 within
      | inr ne ↦ set_elsewhere xs n k 2050 ne ∙ done k (omega arith)
    ]
